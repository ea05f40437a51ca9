-- The contents of a section add the same to modules that consist of the same, whatever bodies they have.
use Rattle.std.proofs.Common.{◌≡◌, ◌≢◌, ◌==◌, ◌&&◌, ℕ, ◌-◌, ◌^◌, nat_lt, if◌then◌else◌, Bool, true, false, not, is_some, List, length, Option, Some, None, Result, Ok, Err, refl, ap, ◌∙◌, subst, inl, inr}
use Rattle.std.proofs.lemmas.Bool.{eqb-true}
use Rattle.wasm_numbers.proofs.Agreement.{chosen}
use Rattle.wasm_numbers.proofs.ResultLemmas.{bind_ok, ok_same}
use Rattle.wasm_numbers.specs.Results.{◌>>=◌}
use Rattle.walrus_ir.specs.Types.{ModuleType}
use Rattle.wasm_operators.specs.declared.types.Space.TheVariants as spaces
use Rattle.wasm_sections.specs.declared.fault.ModuleError.{ModuleError}
use Rattle.wasm_sections.specs.declared.fault.ModuleFault.TheVariants as fault
use Rattle.wasm_sections.specs.Components.{Components, count_in, items_part, few_types, type_section_part, start_part, data_count_part, body_count_of, bodies_part, code_part, custom_section, contents_of, data_agree, counts_agree}
use Rattle.wasm_sections.specs.Format.{name_part, index_part, types_part}
use Rattle.wasm_sections.specs.Parts.{Part, no_more, whole_part, number}
use Rattle.wasm_sections.specs.SameComponents.{data_number, CodeRelation, HasSameComponents}
use Rattle.wasm_sections.proofs.PartPlaces.{no_more_anywhere, whole_anywhere, number_anywhere, name_anywhere, index_anywhere, types_anywhere}
use Rattle.wasm_sections.proofs.SameComponentLemmas.{ReadsSame, same_after, just_same, items_same}
use Rattle.wasm_sections.proofs.TypeReadingLemmas.{first_gives}

module _ (Code : CodeRelation) where
  abbrev Same : (m o : Components) → Type 0
  Same m o = HasSameComponents Code m o

  -- Contents of a module are read of both as the same, wherever they end.
  abbrev pub ContentsSame : (Components → (end : ℕ) → (text : List ℕ) → Result Components ModuleError) → Type 0
  ContentsSame read =
      (m o n : Components) (a b : ℕ) (text : List ℕ) → Same m o → read m a text ≡ Ok n →
      (p : Components) × (read o b text ≡ Ok p) × Same n p

  whole_same : (step : Components → Part Components) → ReadsSame Code step → ContentsSame (λ m. whole_part (step m))
  whole_same step f m o n a b text h e =
      let p = bind_ok (step m a text) (λ x. no_more x.1 a >>= λ u. Ok x.0) n e in
      let q = bind_ok (no_more p.0.1 a) (λ u. Ok p.0.0) n p.2 in
      let r = f m o p.0.0 a b text p.0.1 h p.1 in (
        r.0,
        first_gives (step o b text) (λ x. no_more x.1 b >>= λ u. Ok x.0) (r.0, p.0.1) r.1
            ∙ first_gives (no_more p.0.1 b) (λ u. Ok r.0) q.0 (no_more_anywhere p.0.1 a b q.0 q.1),
        subst (λ (c : Components). Same c r.0) (ok_same p.0.0 n q.2) r.2,
      )

  -- ---- each section

  -- a custom section, of which only the name is read
  pub custom_as :
      (m o n : Components) (a b : ℕ) (old new : List ℕ) (name : List ℕ × List ℕ) → Same m o → custom_section m a old ≡ Ok n → name_part b new ≡ Ok name →
      (p : Components) × (custom_section o b new ≡ Ok p) × Same n p
  custom_as m o n a b old new name h e is =
      let p = bind_ok (name_part a old) (λ x. Ok m) n e in
      (o, first_gives (name_part b new) (λ x. Ok o) name is, subst (λ (c : Components). Same c o) (ok_same m n p.2) h)

  custom_same : ContentsSame custom_section
  custom_same m o n a b text h e =
      let p = bind_ok (name_part a text) (λ x. Ok m) n e in
      custom_as m o n a b text text p.0 h e (name_anywhere a b text p.0.0 p.0.1 p.1)

  types_same : ContentsSame type_section_part
  types_same m o n a b text h e =
      let all : Part (List ModuleType) = types_part (2 ^ 64 - 1) in
      let with_types : List ModuleType → Components → Components = λ ts x. record x { types = ts } in
      let again : Components → ℕ → List ModuleType → Result Components ModuleError = λ x end ts. types_part (length ts) end text >>= λ y. Ok (with_types y.0 x) in
      let p = bind_ok (whole_part all a text >>= few_types) (again m a) n e in
      let q = bind_ok (whole_part all a text) few_types p.0 p.1 in
      let r = bind_ok (types_part (length p.0) a text) (λ y. Ok (with_types y.0 m)) n p.2 in
      let after = same_after Code m o h (with_types r.0.0) (λ count code. refl) (λ x. refl) (λ x. refl) in (
        with_types r.0.0 o,
        first_gives (whole_part all b text >>= few_types) (again o b) p.0
            (first_gives (whole_part all b text) few_types q.0 (whole_anywhere all (types_anywhere (2 ^ 64 - 1)) a b text q.0 q.1) ∙ q.2)
            ∙ first_gives (types_part (length p.0) b text) (λ y. Ok (with_types y.0 o)) r.0 (types_anywhere (length p.0) a b text r.0.0 r.0.1 r.1),
        subst (λ (c : Components). Same c (with_types r.0.0 o)) (ok_same (with_types r.0.0 m) n r.2) after,
      )

  start_same : ReadsSame Code start_part
  start_same m o n a b text rest h e =
      let index : Components → Part (Unit {0}) = λ x. index_part (count_in x spaces.Funcs) spaces.Funcs in
      let p = bind_ok (index m a text) (λ x. Ok (m, x.1)) (n, rest) e in
      let same : index o b text ≡ index m b text = ap (λ (x : Components). index x b text) h.others in
      let q = just_same Code m o n a b p.0.1 rest h p.2 in (
        q.0,
        first_gives (index o b text) (λ x. Ok (o, x.1)) p.0 (same ∙ index_anywhere (count_in m spaces.Funcs) spaces.Funcs a b text p.0.0 p.0.1 p.1) ∙ q.1,
        q.2,
      )

  data_count_same : ReadsSame Code data_count_part
  data_count_same m o n a b text rest h e =
      let counted : ℕ → ℕ → Components → Components = λ k end x. record x { data_count = Some (k, end - length text) } in
      let p = bind_ok (number a text) (λ x. Ok (counted x.0 a m, x.1)) (n, rest) e in
      let after : Same (counted p.0.0 a m) (counted p.0.0 b o) = record {
        others = ap (counted p.0.0 b) h.others;
        counted = refl;
        code = h.code;
      } in
      let q = just_same Code (counted p.0.0 a m) (counted p.0.0 b o) n a b p.0.1 rest after p.2 in
      (q.0, first_gives (number b text) (λ x. Ok (counted x.0 b o, x.1)) p.0 (number_anywhere a b text p.0.0 p.0.1 p.1) ∙ q.1, q.2)

  pub same_bodies_part : (m o : Components) (end : ℕ) (text : List ℕ) → Same m o → bodies_part o end text ≡ bodies_part m end text
  same_bodies_part m o end text h = ap (λ (x : Components). bodies_part x end text) h.others

  -- a code section, which may have other bodies
  pub code_as :
      (m o n : Components) (a b : ℕ) (old new rest after : List ℕ) (u : Unit {0}) → Code (Some (a, old)) (Some (b, new)) → Same m o → code_part m a old ≡ Ok (n, rest) → bodies_part m b new ≡ Ok (u, after) →
      (p : Components) × (code_part o b new ≡ Ok (p, after)) × Same n p
  code_as m o n a b old new rest after u related h e is =
      let coded : ℕ → List ℕ → Components → Components = λ end text x. record x { code = Some (end, text) } in
      let p = bind_ok (bodies_part m a old) (λ x. Ok (coded a old m, x.1)) (n, rest) e in
      let same : Same (coded a old m) (coded b new o) = record {
        others = ap (coded b new) h.others;
        counted = h.counted;
        code = related;
      } in
      let made : coded a old m ≡ n = ap (λ (x : Components × List ℕ). x.0) (ok_same (coded a old m, p.0.1) (n, rest) p.2) in (
        coded b new o,
        first_gives (bodies_part o b new) (λ x. Ok (coded b new o, x.1)) (u, after) (same_bodies_part m o b new h ∙ is),
        subst (λ (c : Components). Same c (coded b new o)) made same,
      )

  -- ---- the contents of a section other than the code section, by its id

  either_contents :
      (c : Bool) (first second : Components → (end : ℕ) → (text : List ℕ) → Result Components ModuleError) → (c ≡ true → ContentsSame first) → (c ≡ false → ContentsSame second) →
      ContentsSame (λ m. if c then first m else second m)
  either_contents true first second f g = f refl
  either_contents false first second f g = g refl

  pub contents_same : (id : ℕ) → id ≢ 10 → ContentsSame (contents_of id)
  contents_same id other =
      either_contents (id == 0) custom_section _ (λ is. custom_same)
      (λ is. either_contents (id == 1) type_section_part _ (λ is. types_same)
      (λ is. either_contents (id == 8) (λ m. whole_part (start_part m)) _ (λ is. whole_same start_part start_same)
      (λ is. either_contents (id == 10) (λ m. whole_part (code_part m)) _ (λ is. absurd (other (eqb-true id 10 is)))
      (λ is. either_contents (id == 12) (λ m. whole_part (data_count_part m)) (λ m. whole_part (items_part id m)) (λ is. whole_same data_count_part data_count_same)
      (λ is. whole_same (items_part id) (items_same Code id))))))

  -- ---- the counts

  data_agree_same :
      (m o n : Components) (c d : Option (ℕ × ℕ)) → Same m o → data_number d ≡ data_number c → data_agree m c ≡ Ok n →
      (p : Components) × (data_agree o d ≡ Ok p) × Same n p
  data_agree_same m o n None None h same e = (o, refl, subst (λ (c : Components). Same c o) (ok_same m n e) h)
  data_agree_same m o n None (Some d) h same e = absurd cc
  data_agree_same m o n (Some c) None h same e = absurd cc
  data_agree_same m o n (Some c) (Some d) h same e =
      let numbers : d.0 ≡ c.0 = cc in
      let agree : ℕ → ℕ → Result Components ModuleError = λ k datas. if k == datas then Ok o else Err (record { fault = fault.DataCount; at = d.1 }) in
      elim (chosen (c.0 == m.datas) (Ok m) (Err (record { fault = fault.DataCount; at = c.1 })) (Ok n) e) [
        | inl x ↦ (
          o,
          ap (λ (k : ℕ). agree k o.datas) numbers ∙ ap (agree c.0) (ap (λ (y : Components). y.datas) h.others)
              ∙ ap (λ (y : Bool). let r : Result Components ModuleError = if y then Ok o else Err (record { fault = fault.DataCount; at = d.1 }) in r) x.0,
          subst (λ (y : Components). Same y o) (ok_same m n x.1) h,
        )
        | inr x ↦ absurd (let no = x.1 in cc)
      ]

  pub agree_same :
      ((old new : Option (ℕ × List ℕ)) → Code old new → is_some new ≡ is_some old) → (m o n : Components) (a b : ℕ) → Same m o → counts_agree m a ≡ Ok n → (p : Components) × (counts_agree o b ≡ Ok p) × Same n p
  agree_same both m o n a b h e =
      let lacks : Components → Bool → Bool = λ x code. nat_lt 0 (body_count_of x) && not code in
      let here : ℕ → ModuleError = λ end. record { fault = fault.BodyCount; at = end } in
      let same : lacks o (is_some o.code) ≡ lacks m (is_some m.code) =
      ap (λ (x : Components). lacks x (is_some o.code)) h.others ∙ ap (λ (c : Bool). lacks m c) (both m.code o.code h.code) in
      elim (chosen (lacks m (is_some m.code)) (Err (here a)) (data_agree m m.data_count) (Ok n) e) [
        | inl x ↦ absurd (let no = x.1 in cc)
        | inr x ↦
            let p = data_agree_same m o n m.data_count o.data_count h h.counted x.1 in
            (p.0, ap (λ (c : Bool). if c then Err (here b) else data_agree o o.data_count) (same ∙ x.0) ∙ p.1, p.2)
      ]
