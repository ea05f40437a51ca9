-- Other contents that are read as the same: those of a custom section that begin with the same name, and those of the code section,
-- as many bodies.
use Rattle.std.proofs.Common.{◌≡◌, ◌==◌, ℕ, ◌<◌, ◌^◌, List, [], ◌∷◌, ◌++◌, length, Some, Ok, Err, refl, sym, ap, ◌∙◌, subst, inl, inr, append_assoc}
use Rattle.std.specs.List.{AllByRecursion}
use Rattle.std.specs.Str.{is_utf8}
use Rattle.wasm_numbers.proofs.Agreement.{chosen}
use Rattle.wasm_numbers.proofs.ResultLemmas.{bind_ok, ok_same, with_fault_ok}
use Rattle.wasm_numbers.specs.Numbers.{u32}
use Rattle.wasm_numbers.specs.Results.{◌>>=◌, with_fault}
use Rattle.wasm_operators.specs.Shortest.{short_number}
use Rattle.wasm_sections.specs.declared.fault.ModuleFault.TheVariants as fault
use Rattle.wasm_sections.specs.CodeSections.{entry, entries, code_section, BodyAt, IsCode}
use Rattle.wasm_sections.specs.Components.{Components, custom_section, contents_of, body_count_of, body_part, as_many_bodies, bodies_part, code_part}
use Rattle.wasm_sections.specs.Format.{text_if_utf8, name_part}
use Rattle.wasm_sections.specs.Parts.{passed, checked, repeated, no_more, whole_part, fault_here, item_fault, number, piece, bytes_part}
use Rattle.wasm_sections.specs.SameComponents.{CodeRelation, HasSameComponents}
use Rattle.wasm_sections.specs.Sections.{SectionAt, BeginsWithName}
use Rattle.wasm_sections.proofs.NumberLemmas.{short_read}
use Rattle.wasm_sections.proofs.PartLemmas.{checked_ok}
use Rattle.wasm_sections.proofs.SameContentLemmas.{custom_as, code_as}
use Rattle.wasm_sections.proofs.SameSectionLemmas.{piece_front, ReadAs}
use Rattle.wasm_sections.proofs.TypeReadingLemmas.{first_gives}

-- ---- names

sized_bytes : (end : ℕ) (text bytes following : List ℕ) → u32 text ≡ Ok (length bytes, bytes ++ following) → bytes_part end text ≡ Ok (bytes, following)
sized_bytes end text bytes following e =
    first_gives (number end text) (λ n. piece n.0 end n.1) (length bytes, bytes ++ following) (ap (with_fault (item_fault end text)) e)
    ∙ piece_front bytes following end

-- a name that is read is UTF-8
good_name :
    (end : ℕ) (text name following : List ℕ) (x : List ℕ × List ℕ) → bytes_part end text ≡ Ok (name, following) → name_part end text ≡ Ok x → text_if_utf8 name ≡ Ok name
good_name end text name following x bytes e =
    let a = bind_ok (bytes_part end text) (λ y. with_fault (fault_here end text) (text_if_utf8 y.0) >>= λ v. Ok (v, y.1)) x e in
    let b = bind_ok (with_fault (fault_here end text) (text_if_utf8 a.0.0)) (λ v. Ok (v, a.0.1)) x a.2 in
    let same : a.0.0 ≡ name = ap (λ (y : List ℕ × List ℕ). y.0) (ok_same a.0 (name, following) (sym a.1 ∙ bytes)) in
    let good = with_fault_ok (fault_here end text) (text_if_utf8 a.0.0) b.0 b.1 in
    elim (chosen (is_utf8 a.0.0) (Ok a.0.0) (Err fault.BadName) (Ok b.0) good) [
      | inl y ↦
          let kept : text_if_utf8 a.0.0 ≡ Ok a.0.0 = good ∙ ap (λ (l : List ℕ). Ok l) (sym (ok_same a.0.0 b.0 y.1)) in
          ap text_if_utf8 (sym same) ∙ kept ∙ ap (λ (l : List ℕ). Ok l) same
      | inr y ↦ absurd (let no = y.1 in cc)
    ]

module _ (Code : CodeRelation) (s : SectionAt) where
  pub custom_reads : (contents name : List ℕ) → s.id ≡ 0 → BeginsWithName s.contents name → BeginsWithName contents name → ReadAs Code s contents
  custom_reads contents name custom old new = λ m o n end h e.
      let here : custom_section m s.end s.contents ≡ Ok n = ap (λ (k : ℕ). contents_of k m s.end s.contents) (sym custom) ∙ e in
      let p = bind_ok (name_part s.end s.contents) (λ x. Ok m) n here in
      let good = good_name s.end s.contents name old.0 p.0 (sized_bytes s.end s.contents name old.0 old.1) p.1 in
      let named : name_part end contents ≡ Ok (name, new.0) =
      checked_ok bytes_part text_if_utf8 end contents name name new.0 (sized_bytes end contents name new.0 new.1) good in
      let q = custom_as Code m o n s.end end s.contents contents (name, new.0) h here named in
      (q.0, ap (λ (k : ℕ). contents_of k o end contents) custom ∙ q.1, q.2)

-- ---- bodies

body_read : (end : ℕ) (raw rest : List ℕ) → length raw < 2 ^ 32 → passed body_part end (entry raw ++ rest) ≡ Ok (tt, rest)
body_read end raw rest fits =
    first_gives (body_part end (entry raw ++ rest)) (λ x. Ok (tt, x.1)) (raw, rest)
    (ap (body_part end) (append_assoc (short_number (length raw)) raw rest)
    ∙ sized_bytes end (short_number (length raw) ++ (raw ++ rest)) raw rest (short_read (length raw) (raw ++ rest) fits))

entries_read : (end : ℕ) (raws : List (List ℕ)) → AllByRecursion (λ raw. length raw < 2 ^ 32) raws → repeated (λ u. passed body_part) (length raws) tt end (entries raws) ≡ Ok (tt, [])
unfolding repeated
entries_read end [] fit = refl
entries_read end (raw ∷ raws) fit =
    first_gives (passed body_part end (entry raw ++ entries raws)) (λ x. repeated (λ u. passed body_part) (length raws) x.0 end x.1) (tt, entries raws)
    (body_read end raw (entries raws) fit.0)
    ∙ entries_read end raws fit.1

-- as many bodies as there are functions without one
as_many_read :
    (m : Components) (end : ℕ) (contents text : List ℕ) (count : ℕ) (x : Unit {0} × List ℕ) → u32 contents ≡ Ok (count, text) → bodies_part m end contents ≡ Ok x →
    as_many_bodies m count ≡ Ok count
as_many_read m end contents text count x read e =
    let d = bind_ok (checked number (as_many_bodies m) end contents) (λ y. repeated (λ u. passed body_part) y.0 tt end y.1) x e in
    let f = bind_ok (number end contents) (λ y. with_fault (fault_here end contents) (as_many_bodies m y.0) >>= λ v. Ok (v, y.1)) d.0 d.1 in
    let g = bind_ok (with_fault (fault_here end contents) (as_many_bodies m f.0.0)) (λ v. Ok (v, f.0.1)) d.0 f.2 in
    let same : f.0.0 ≡ count = ap (λ (y : ℕ × List ℕ). y.0) (ok_same f.0 (count, text) (sym f.1 ∙ ap (with_fault (item_fault end contents)) read)) in
    let good = with_fault_ok (fault_here end contents) (as_many_bodies m f.0.0) g.0 g.1 in
    elim (chosen (f.0.0 == body_count_of m) (Ok f.0.0) (Err fault.BodyCount) (Ok g.0) good) [
      | inl y ↦
          let kept : as_many_bodies m f.0.0 ≡ Ok f.0.0 = good ∙ ap (λ (k : ℕ). Ok k) (sym (ok_same f.0.0 g.0 y.1)) in
          ap (as_many_bodies m) (sym same) ∙ kept ∙ ap (λ (k : ℕ). Ok k) same
      | inr y ↦ absurd (let no = y.1 in cc)
    ]

bodies_read :
    (m : Components) (end : ℕ) (raws : List (List ℕ)) → as_many_bodies m (length raws) ≡ Ok (length raws) → length raws < 2 ^ 32 →
    AllByRecursion (λ raw. length raw < 2 ^ 32) raws → bodies_part m end (code_section raws) ≡ Ok (tt, [])
bodies_read m end raws as_many few fit =
    let count : ℕ = length raws in
    let text : List ℕ = code_section raws in
    first_gives (checked number (as_many_bodies m) end text) (λ y. repeated (λ u. passed body_part) y.0 tt end y.1) (count, entries raws)
    (checked_ok number (as_many_bodies m) end text count count (entries raws) (ap (with_fault (item_fault end text)) (short_read count (entries raws) few)) as_many)
    ∙ entries_read end raws fit

module _ (Code : CodeRelation) (s : SectionAt) where
  pub code_reads :
      (bodies : List BodyAt) (raws : List (List ℕ)) → s.id ≡ 10 → IsCode s.end s.contents bodies → length bodies ≡ length raws → length raws < 2 ^ 32 →
      AllByRecursion (λ raw. length raw < 2 ^ 32) raws → ((end : ℕ) → Code (Some (s.end, s.contents)) (Some (end, code_section raws))) →
      ReadAs Code s (code_section raws)
  code_reads bodies raws is_code are as_many few fit related = λ m o n end h e.
      let new : List ℕ = code_section raws in
      let here : whole_part (code_part m) s.end s.contents ≡ Ok n = ap (λ (k : ℕ). contents_of k m s.end s.contents) (sym is_code) ∙ e in
      let p = bind_ok (code_part m s.end s.contents) (λ x. no_more x.1 s.end >>= λ u. Ok x.0) n here in
      let q = bind_ok (no_more p.0.1 s.end) (λ u. Ok p.0.0) n p.2 in
      let old = bind_ok (bodies_part m s.end s.contents) (λ x. let y : Components = record m { code = Some (s.end, s.contents) } in Ok (y, x.1)) p.0 p.1 in
      let counted : u32 s.contents ≡ Ok (length raws, are.0) = are.1 ∙ ap (λ (k : ℕ). Ok (k, are.0)) as_many in
      let count = as_many_read m s.end s.contents are.0 (length raws) old.0 counted old.1 in
      let r = code_as Code m o p.0.0 s.end end s.contents new p.0.1 [] tt (related end) h p.1 (bodies_read m end raws count few fit) in (
        r.0,
        ap (λ (k : ℕ). contents_of k o end new) is_code ∙ first_gives (code_part o end new) (λ x. no_more x.1 end >>= λ u. Ok x.0) (r.0, []) r.1,
        subst (λ (c : Components). HasSameComponents Code c r.0) (ok_same p.0.0 n q.2) r.2,
      )
