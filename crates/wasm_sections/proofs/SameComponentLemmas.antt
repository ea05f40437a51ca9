-- What a section adds to modules that consist of the same, whatever bodies they have: the same.
use Rattle.std.proofs.Common.{◌≡◌, ◌==◌, ℕ, zero, suc, ◌+◌, ◌^◌, nat_lt, if◌then◌else◌, Bool, true, false, is_some, List, [], ◌∷◌, ◌++◌, length, slice_get, Option, Some, None, Result, Ok, Err, refl, sym, ap, ◌∙◌, subst, inl, inr}
use Rattle.wasm_numbers.proofs.Agreement.{chosen}
use Rattle.wasm_numbers.proofs.ResultLemmas.{bind_ok, ok_same, with_fault_ok}
use Rattle.wasm_numbers.specs.Results.{◌>>=◌, with_fault}
use Rattle.walrus_ir.specs.Types.{ModuleType}
use Rattle.wasm_operators.specs.declared.types.Space.{Space}
use Rattle.wasm_operators.specs.declared.types.Space.TheVariants as spaces
use Rattle.wasm_sections.specs.declared.fault.ModuleFault.{ModuleFault}
use Rattle.wasm_sections.specs.declared.fault.ModuleFault.TheVariants as fault
use Rattle.wasm_sections.specs.declared.imports.Imported.{Imported}
use Rattle.wasm_sections.specs.declared.imports.Imported.TheVariants as imported
use Rattle.wasm_sections.specs.Components.{Components, count_in, one_more_in, function_type_at, function_type_of, with_one_function, with_one_tag, with_one_table, with_one_memory, with_one_global, with_one_element, with_one_data, with_one_import, import_step, export_step, item_step, items_part, body_count_of}
use Rattle.wasm_sections.specs.Format.{name_part, table_part, limits_part, global_part, tag_part, imported_part, known_export_part, element_segment_part, data_segment_part}
use Rattle.wasm_sections.specs.Parts.{Part, just, ◌>=>◌, checked, repeated, fault_here, number}
use Rattle.wasm_sections.specs.SameComponents.{data_number, CodeRelation, HasSameComponents}
use Rattle.wasm_sections.proofs.PartLemmas.{AtAnyEnd, checked_ok}
use Rattle.wasm_sections.proofs.PartPlaces.{number_anywhere, name_anywhere, limits_anywhere, table_anywhere, global_anywhere, tag_anywhere, imported_anywhere, export_anywhere, element_segment_anywhere, data_segment_anywhere}
use Rattle.wasm_sections.proofs.TypeReadingLemmas.{first_gives}

-- a number is there or not
is_number : (o : Option (ℕ × ℕ)) → is_some (data_number o) ≡ is_some o
is_number None = refl
is_number (Some c) = refl

-- the module with another data count and other code
abbrev with_code : Option (ℕ × ℕ) → Option (ℕ × List ℕ) → Components → Components
with_code count code m = record m { data_count = count; code = code }

module _ (Code : CodeRelation) where
  abbrev Same : (m o : Components) → Type 0
  Same m o = HasSameComponents Code m o

  -- ---- modules that consist of the same

  module _ (m o : Components) (h : Same m o) where
    same_counts : (space : Space) → count_in o space ≡ count_in m space
    same_counts space =
        ap (λ (x : Components). count_in x space) h.others
        ∙ elim space as (λ s. count_in (with_code o.data_count o.code m) s ≡ count_in m s) [ spaces.Tables ↦ refl | _ ↦ refl ]

    same_types : o.types ≡ m.types
    same_types = ap (λ (x : Components). x.types) h.others

    same_function_type : (index : ℕ) → function_type_of o index ≡ function_type_of m index
    same_function_type index = ap (λ (ts : List ModuleType). function_type_at (slice_get ts index) index) same_types

    pub same_body_count : body_count_of o ≡ body_count_of m
    same_body_count = ap (λ (x : Components). body_count_of x) h.others

    -- both after a step that leaves the data count and the code as they are
    pub same_after :
        (step : Components → Components) → ((count : Option (ℕ × ℕ)) (code : Option (ℕ × List ℕ)) → step (with_code count code m) ≡ with_code count code (step m)) →
        ((x : Components) → (step x).data_count ≡ x.data_count) → ((x : Components) → (step x).code ≡ x.code) → Same (step m) (step o)
    same_after step stays counts codes = record {
      others =
          ap step h.others ∙ stays o.data_count o.code
          ∙ ap (λ (c : Option (ℕ × ℕ)). with_code c o.code (step m)) (sym (counts o))
          ∙ ap (λ (c : Option (ℕ × List ℕ)). with_code (step o).data_count c (step m)) (sym (codes o));
      counted = ap data_number (counts o) ∙ h.counted ∙ sym (ap data_number (counts m));
      code = subst (Code (step m).code) (sym (codes o)) (subst (λ (c : Option (ℕ × List ℕ)). Code c o.code) (sym (codes m)) h.code);
    }

  -- ---- one more item

  -- A function of modules gives the same for both, where it gives something.
  abbrev pub GivesSame : (Components → Result Components ModuleFault) → Type 0
  GivesSame f = (m o n : Components) → Same m o → f m ≡ Ok n → (p : Components) × (f o ≡ Ok p) × Same n p

  one_more_same :
      (space : Space) (m o more after n : Components) → Same m o → Same more after → one_more_in space m more ≡ Ok n →
      (p : Components) × (one_more_in space o after ≡ Ok p) × Same n p
  one_more_same space m o more after n h g e =
      let room : ℕ → Components → Result Components ModuleFault = λ k x. if nat_lt k (2 ^ 32) then Ok x else Err fault.TooGreat in
      elim (chosen (nat_lt (count_in m space) (2 ^ 32)) (Ok more) (Err fault.TooGreat) (Ok n) e) [
        | inl x ↦ (
          after,
          ap (λ (k : ℕ). room k after) (same_counts m o h space)
              ∙ ap (λ (b : Bool). let r : Result Components ModuleFault = if b then Ok after else Err fault.TooGreat in r) x.0,
          subst (λ (c : Components). Same c after) (ok_same more n x.1) g,
        )
        | inr x ↦ absurd (let no = x.1 in cc)
      ]

  function_same : (index : ℕ) → GivesSame (λ m. with_one_function m index)
  function_same index m o n h e =
      let add : ℕ → Components → Components = λ type x. record x { functions = x.functions ++ type ∷ [] } in
      let p = bind_ok (function_type_of m index) (λ type. one_more_in spaces.Funcs m (add type m)) n e in
      let after = same_after m o h (add p.0) (λ count code. refl) (λ x. refl) (λ x. refl) in
      let q = one_more_same spaces.Funcs m o (add p.0 m) (add p.0 o) n h after p.2 in
      (q.0, first_gives (function_type_of o index) (λ type. one_more_in spaces.Funcs o (add type o)) p.0 (same_function_type m o h index ∙ p.1) ∙ q.1, q.2)

  tag_same : (index : ℕ) → GivesSame (λ m. with_one_tag m index)
  tag_same index m o n h e =
      let add : ℕ → Components → Components = λ type x. record x { tags = x.tags ++ type ∷ [] } in
      let p = bind_ok (function_type_of m index) (λ type. one_more_in spaces.Tags m (add type m)) n e in
      let after = same_after m o h (add p.0) (λ count code. refl) (λ x. refl) (λ x. refl) in
      let q = one_more_same spaces.Tags m o (add p.0 m) (add p.0 o) n h after p.2 in
      (q.0, first_gives (function_type_of o index) (λ type. one_more_in spaces.Tags o (add type o)) p.0 (same_function_type m o h index ∙ p.1) ∙ q.1, q.2)

  table_same : GivesSame with_one_table
  table_same m o n h e =
      let add : Components → Components = λ x. record x { tables = x.tables + 1 } in
      one_more_same spaces.Tables m o (add m) (add o) n h (same_after m o h add (λ count code. refl) (λ x. refl) (λ x. refl)) e

  memory_same : GivesSame with_one_memory
  memory_same m o n h e =
      let add : Components → Components = λ x. record x { memories = x.memories + 1 } in
      one_more_same spaces.Memories m o (add m) (add o) n h (same_after m o h add (λ count code. refl) (λ x. refl) (λ x. refl)) e

  global_same : GivesSame with_one_global
  global_same m o n h e =
      let add : Components → Components = λ x. record x { globals = x.globals + 1 } in
      one_more_same spaces.Globals m o (add m) (add o) n h (same_after m o h add (λ count code. refl) (λ x. refl) (λ x. refl)) e

  element_same : GivesSame with_one_element
  element_same m o n h e =
      let add : Components → Components = λ x. record x { elements = x.elements + 1 } in
      one_more_same spaces.Elements m o (add m) (add o) n h (same_after m o h add (λ count code. refl) (λ x. refl) (λ x. refl)) e

  same_counted : (m o : Components) → Same m o → is_some o.data_count ≡ is_some m.data_count
  same_counted m o h = sym (is_number o.data_count) ∙ ap is_some h.counted ∙ is_number m.data_count

  data_same : GivesSame with_one_data
  data_same m o n h e =
      let add : Components → Components = λ x. record x { datas = x.datas + 1 } in
      let either : Bool → Result Components ModuleFault = λ b. if b then one_more_in spaces.Data o (add o) else Ok o in
      let as_before : with_one_data o ≡ either (is_some m.data_count) = ap either (same_counted m o h) in
      elim (chosen (is_some m.data_count) (one_more_in spaces.Data m (add m)) (Ok m) (Ok n) e) [
        | inl x ↦
            let q = one_more_same spaces.Data m o (add m) (add o) n h (same_after m o h add (λ count code. refl) (λ x. refl) (λ x. refl)) x.1 in
            (q.0, as_before ∙ ap either x.0 ∙ q.1, q.2)
        | inr x ↦ (o, as_before ∙ ap either x.0, subst (λ (c : Components). Same c o) (ok_same m n x.1) h)
      ]

  import_same : (it : Imported) → GivesSame (λ m. with_one_import m it)
  import_same (imported.Func index) m o n h e =
      let add : Components → Components = λ x. record x { imported = length x.functions } in
      let p = bind_ok (with_one_function m index) (λ x. Ok (add x)) n e in
      let q = function_same index m o p.0 h p.1 in
      let after = same_after p.0 q.0 q.2 add (λ count code. refl) (λ x. refl) (λ x. refl) in
      (add q.0, first_gives (with_one_function o index) (λ x. Ok (add x)) q.0 q.1, subst (λ (c : Components). Same c (add q.0)) (ok_same (add p.0) n p.2) after)
  import_same (imported.Tag index) m o n h e = tag_same index m o n h e
  import_same imported.Table m o n h e = table_same m o n h e
  import_same imported.Memory m o n h e = memory_same m o n h e
  import_same imported.Global m o n h e = global_same m o n h e

  -- ---- the items of a section

  -- So does a part that follows a module, wherever its bytes end.
  abbrev pub ReadsSame : (Components → Part Components) → Type 0
  ReadsSame step =
      (m o n : Components) (a b : ℕ) (text rest : List ℕ) → Same m o → step m a text ≡ Ok (n, rest) →
      (p : Components) × (step o b text ≡ Ok (p, rest)) × Same n p

  checked_same : {A : Type 0} (part : Part A) (check : Components → A → Result Components ModuleFault) → AtAnyEnd part → ((x : A) → GivesSame (λ m. check m x)) → ReadsSame (λ m. checked part (check m))
  checked_same part check f g m o n a b text rest h e =
      let p = bind_ok (part a text) (λ x. with_fault (fault_here a text) (check m x.0) >>= λ v. Ok (v, x.1)) (n, rest) e in
      let q = bind_ok (with_fault (fault_here a text) (check m p.0.0)) (λ v. Ok (v, p.0.1)) (n, rest) p.2 in
      let s = g p.0.0 m o q.0 h (with_fault_ok (fault_here a text) (check m p.0.0) q.0 q.1) in
      let both = ok_same (q.0, p.0.1) (n, rest) q.2 in (
        s.0,
        checked_ok part (check o) b text p.0.0 s.0 p.0.1 (f a b text p.0.0 p.0.1 p.1) s.1
            ∙ ap (λ (l : List ℕ). Ok (s.0, l)) (ap (λ (x : Components × List ℕ). x.1) both),
        subst (λ (c : Components). Same c s.0) (ap (λ (x : Components × List ℕ). x.0) both) s.2,
      )

  -- a part, and what depends on the module after it
  after_same : {A : Type 0} (part : Part A) (step : A → Components → Part Components) → AtAnyEnd part → ((x : A) → ReadsSame (step x)) → ReadsSame (λ m. part >=> λ x. step x m)
  after_same part step f g m o n a b text rest h e =
      let p = bind_ok (part a text) (λ x. step x.0 m a x.1) (n, rest) e in
      let q = g p.0.0 m o n a b p.0.1 rest h p.2 in
      (q.0, first_gives (part b text) (λ x. step x.0 o b x.1) p.0 (f a b text p.0.0 p.0.1 p.1) ∙ q.1, q.2)

  pub just_same : ReadsSame (λ m. just m)
  just_same m o n a b text rest h e =
      let both = ok_same (m, text) (n, rest) e in (
        o,
        ap (λ (l : List ℕ). Ok (o, l)) (ap (λ (x : Components × List ℕ). x.1) both),
        subst (λ (c : Components). Same c o) (ap (λ (x : Components × List ℕ). x.0) both) h,
      )

  repeated_same : (step : Components → Part Components) → ReadsSame step → (k : ℕ) → ReadsSame (λ m. repeated step k m)
  unfolding repeated
  repeated_same step f zero m o n a b text rest h e = just_same m o n a b text rest h e
  repeated_same step f (suc k) m o n a b text rest h e =
      let p = bind_ok (step m a text) (λ x. repeated step k x.0 a x.1) (n, rest) e in
      let q = f m o p.0.0 a b text p.0.1 h p.1 in
      let r = repeated_same step f k p.0.0 q.0 n a b p.0.1 rest q.2 p.2 in
      (r.0, first_gives (step o b text) (λ x. repeated step k x.0 b x.1) (q.0, p.0.1) q.1 ∙ r.1, r.2)

  -- the one or the other
  either_same : (c : Bool) (first second : Components → Part Components) → ReadsSame first → ReadsSame second → ReadsSame (λ m. if c then first m else second m)
  either_same true first second f g = f
  either_same false first second f g = g

  import_step_same : ReadsSame import_step
  import_step_same =
      after_same name_part (λ from m. name_part >=> λ name. checked imported_part (with_one_import m)) name_anywhere
      (λ from. after_same name_part (λ name m. checked imported_part (with_one_import m)) name_anywhere
      (λ name. checked_same imported_part with_one_import imported_anywhere import_same))

  export_step_same : ReadsSame export_step
  export_step_same m o n a b text rest h e =
      let p = bind_ok (known_export_part (count_in m) a text) (λ x. Ok (m, x.1)) (n, rest) e in
      let same : known_export_part (count_in o) b text ≡ known_export_part (count_in m) b text =
      ap (λ (counts : Space → ℕ). known_export_part counts b text) (λ i. λ space. same_counts m o h space i) in
      let q = just_same m o n a b p.0.1 rest h p.2 in
      (q.0, first_gives (known_export_part (count_in o) b text) (λ x. Ok (o, x.1)) p.0 (same ∙ export_anywhere (count_in m) a b text p.0.0 p.0.1 p.1) ∙ q.1, q.2)

  item_same : (id : ℕ) → ReadsSame (item_step id)
  item_same id =
      either_same (id == 2) import_step _ import_step_same
      (either_same (id == 3) (λ m. checked number (with_one_function m)) _ (checked_same number with_one_function number_anywhere function_same)
      (either_same (id == 4) (λ m. checked table_part (λ x. with_one_table m)) _ (checked_same table_part (λ m x. with_one_table m) table_anywhere (λ x. table_same))
      (either_same (id == 5) (λ m. checked limits_part (λ x. with_one_memory m)) _ (checked_same limits_part (λ m x. with_one_memory m) limits_anywhere (λ x. memory_same))
      (either_same (id == 6) (λ m. checked global_part (λ x. with_one_global m)) _ (checked_same global_part (λ m x. with_one_global m) global_anywhere (λ x. global_same))
      (either_same (id == 7) export_step _ export_step_same
      (either_same (id == 9) (λ m. checked element_segment_part (λ x. with_one_element m)) _
      (checked_same element_segment_part (λ m x. with_one_element m) element_segment_anywhere (λ x. element_same))
      (either_same (id == 13) (λ m. checked tag_part (with_one_tag m)) (λ m. checked data_segment_part (λ x. with_one_data m))
      (checked_same tag_part with_one_tag tag_anywhere tag_same)
      (checked_same data_segment_part (λ m x. with_one_data m) data_segment_anywhere (λ x. data_same)))))))))

  pub items_same : (id : ℕ) → ReadsSame (items_part id)
  items_same id = after_same number (λ k m. repeated (item_step id) k m) number_anywhere (repeated_same (item_step id) (item_same id))
