-- The sections of a module that was read are read again without a fault.
use Rattle.std.proofs.Common.{◌≡◌, ◌≢◌, ◌⊎◌, ℕ, suc, ◌==◌, ◌<◌, ◌≤◌, ◌^◌, ◌-◌, if◌then◌else◌, Bool, true, false, List, [], ◌∷◌, ◌++◌, length, Some, Result, Ok, Err, IsOk, refl, sym, ap, ◌∙◌, inl, inr, arith, length-append}
use Rattle.wasm_numbers.specs.Numbers.{unsigned}
use Rattle.wasm_numbers.specs.Results.{◌>>=◌, with_fault}
use Rattle.wasm_numbers.proofs.ResultLemmas.{bind_ok}
use Rattle.wasm_sections.specs.declared.fault.ModuleError.{ModuleError}
use Rattle.wasm_sections.specs.declared.fault.ModuleFault.TheVariants as fault
use Rattle.wasm_sections.specs.declared.sections.Section.{Section}
use Rattle.wasm_sections.specs.declared.sections.Sections.{Sections}
use Rattle.wasm_sections.specs.Components.{Components, no_components, custom_section, few_types, type_section_part, start_part, bodies_part, code_part, data_count_part, items_part, contents_of, sections_from, preamble_part, counts_agree, module_of}
use Rattle.wasm_sections.specs.Format.{name_part, types_part}
use Rattle.wasm_sections.specs.Parts.{fault_here, number, bytes_part, whole_part}
use Rattle.wasm_sections.specs.References.{contents_references}
use Rattle.wasm_sections.specs.Sections.{section_id, section_part, rank_with, TakesSection}
use Rattle.wasm_sections.proofs.NumberLemmas.{number_takes, is_shorter}
use Rattle.wasm_sections.proofs.ReferencesReadLemmas.{contents_found}
use Rattle.wasm_sections.proofs.TypeReadingLemmas.{first_gives, first_fails}
use Rattle.wasm_module.proofs.SectionsReadLemmas.{NextRead, next_read, fault_first, left_over, rest_of}

no_both : {A : Type 0} (r : Result A ModuleError) (x : A) (e : ModuleError) → r ≡ Ok x → r ≡ Err e → ⊥
no_both r x e a b = cc

pub begins_with_preamble : (file : List ℕ) (m : Components) (e : ModuleError) → module_of file ≡ Ok m → preamble_part (length file) file ≡ Err e → ⊥
begins_with_preamble file m e is p =
    no_both (module_of file) m e is
    (first_fails (preamble_part (length file) file) (λ x. sections_from (length x.1) 0 no_components (length file) x.1 >>= λ m. counts_agree m (length file)) e p)

-- ---- the contents of each section begin with a number

either_fails :
    (b : Bool) (f g : (end : ℕ) → (text : List ℕ) → Result Components ModuleError) (end : ℕ) (text : List ℕ) (e : ModuleError) → f end text ≡ Err e → g end text ≡ Err e →
    (if b then f else g) end text ≡ Err e
either_fails true f g end text e h k = h
either_fails false f g end text e h k = k

uncounted : (id : ℕ) (m : Components) (end : ℕ) (text : List ℕ) (e : ModuleError) → number end text ≡ Err e → contents_of id m end text ≡ Err e
uncounted id m end text e h =
    either_fails (id == 0) (custom_section m) _ end text e
    (first_fails (name_part end text) _ e (first_fails (bytes_part end text) _ e (first_fails (number end text) _ e h)))
    (either_fails (id == 1) (type_section_part m) _ end text e
    (first_fails (whole_part (types_part (2 ^ 64 - 1)) end text >>= few_types) _ e (first_fails (whole_part (types_part (2 ^ 64 - 1)) end text) few_types e (first_fails (types_part (2 ^ 64 - 1) end text) _ e (first_fails (number end text) _ e h))))
    (either_fails (id == 8) _ _ end text e
    (first_fails (start_part m end text) _ e (first_fails _ _ e (first_fails (number end text) _ e h)))
    (either_fails (id == 10) _ _ end text e
    (first_fails (code_part m end text) _ e (first_fails (bodies_part m end text) _ e (first_fails _ _ e (first_fails (number end text) _ e h))))
    (either_fails (id == 12) _ _ end text e
    (first_fails (data_count_part m end text) _ e (first_fails (number end text) _ e h))
    (first_fails (items_part id m end text) _ e (first_fails (number end text) _ e h))))))

ok_or_not : {A : Type 0} (r : Result A ModuleError) → IsOk r ⊎ ((e : ModuleError) × (r ≡ Err e))
ok_or_not (Ok x) = inl refl
ok_or_not (Err e) = inr (e, refl)

counted : (id : ℕ) (m n : Components) (end : ℕ) (text : List ℕ) → contents_of id m end text ≡ Ok n → IsOk (number end text)
counted id m n end text is =
    elim (ok_or_not (number end text)) [
      | inl ok ↦ ok
      | inr h ↦ absurd (no_both (contents_of id m end text) n h.0 is (uncounted id m end text h.0 h.1))
    ]

-- ---- the sections that are left

-- The sections that are left spell something, from what those before them spell on.
pub record StillSpell (left : Sections) : Type 0 where
  pub most : ℕ
  pub enough : length left.left.rest.now ≤ most
  pub before : Components
  pub after : Components
  pub spell : sections_from most left.rank before left.left.end left.left.rest.now ≡ Ok after

pub all_spell :
    (file : List ℕ) (m : Components) (left : Sections) → module_of file ≡ Ok m → preamble_part (length file) file ≡ Ok (tt, left.left.rest.now) → left.left.end ≡ length file →
    left.rank ≡ 0 → StillSpell left
all_spell file m left is p end rank =
    let rest = left.left.rest.now in
    let sections = sections_from (length rest) 0 no_components (length file) rest in
    let whole : (sections >>= λ m. counts_agree m (length file)) ≡ Ok m =
    sym (first_gives (preamble_part (length file) file) (λ x. sections_from (length x.1) 0 no_components (length file) x.1 >>= λ m. counts_agree m (length file)) (tt, rest) p) ∙ is in
    let spelt = bind_ok sections (λ m. counts_agree m (length file)) m whole in
    record {
      most = length rest;
      enough = omega arith;
      before = no_components;
      after = spelt.0;
      spell =
          ap (λ (r : ℕ). sections_from (length rest) r no_components left.left.end rest) rank
          ∙ ap (λ (n : ℕ). sections_from (length rest) 0 no_components n rest) end ∙ spelt.1;
    }

pub never_fails : (a b : Sections) (e : ModuleError) → StillSpell a → TakesSection a (Some (Err e)) b → ⊥
never_fails a b e so takes =
    let end = a.left.end in
    let text = a.left.rest.now in
    let over = left_over so.most a.rank so.before end text takes.0 so.enough in
    let failed = fault_first (section_part end text) (λ x. rank_with a.rank x.0.0) (fault_here end text) ((ℕ × List ℕ) × ℕ) (λ x n. (x.0, n)) (((ℕ × List ℕ) × ℕ) × List ℕ) (λ x v. (v, x.1))
    (rest_of over.0 so.before end) e takes.1 in
    no_both (sections_from so.most a.rank so.before end text) so.after e so.spell (over.2 ∙ failed)

-- a section that is there, and those after it
module _ (a b : Sections) (section : Section) (so : StillSpell a) (takes : TakesSection a (Some (Ok section)) b) where
  taken : NextRead a.rank a.left.end a.left.rest.now (section_id section.kind) section.contents.rest.now b.rank b.left.rest.now
  taken = next_read a.rank a.left.end a.left.rest.now (section_id section.kind) section.contents.rest.now b.rank b.left.rest.now takes.2

  some : a.left.rest.now ≢ []
  some = λ none. let e : section_id section.kind ∷ takes.0.sized ≡ [] = sym takes.0.id_is ∙ none in absurd cc

  shorter : length b.left.rest.now < length a.left.rest.now
  shorter =
      let contents : List ℕ = section.contents.rest.now in
      let front = number_takes unsigned 32 takes.0.sized (length contents) (contents ++ b.left.rest.now) takes.0.size_is in
      let less = is_shorter takes.0.sized (contents ++ b.left.rest.now) front in
      let both = length-append contents b.left.rest.now in
      let all : length a.left.rest.now ≡ suc (length takes.0.sized) = ap length takes.0.id_is in
      omega arith

  pub over : (k : ℕ) × (so.most ≡ suc k)
      × (sections_from so.most a.rank so.before a.left.end a.left.rest.now ≡ (section_part a.left.end a.left.rest.now >>= λ x. with_fault (fault_here a.left.end a.left.rest.now) (rank_with a.rank x.0.0) >>= λ next. rest_of k so.before a.left.end x next))
  over = left_over so.most a.rank so.before a.left.end a.left.rest.now some so.enough

  -- its contents spell something, and the others do after it
  pub section_spells :
      (n : Components) × (contents_of (section_id section.kind) so.before section.contents.end section.contents.rest.now ≡ Ok n)
      × (sections_from over.0 b.rank n a.left.end b.left.rest.now ≡ Ok so.after)
  section_spells =
      let contents : List ℕ = section.contents.rest.now in
      let id : ℕ = section_id section.kind in
      let here = fault_here a.left.end a.left.rest.now in
      let passed =
      over.2
      ∙ first_gives (section_part a.left.end a.left.rest.now) (λ x. with_fault here (rank_with a.rank x.0.0) >>= λ next. rest_of over.0 so.before a.left.end x next)
      ((id, contents), b.left.rest.now) taken.section_is
      ∙ first_gives (with_fault here (rank_with a.rank id)) (λ next. rest_of over.0 so.before a.left.end ((id, contents), b.left.rest.now) next) b.rank taken.rank_is
      ∙ ap (λ (k : ℕ). contents_of id so.before k contents >>= λ n. sections_from over.0 b.rank n a.left.end b.left.rest.now) (sym takes.0.end_is) in
      bind_ok (contents_of id so.before section.contents.end contents) (λ n. sections_from over.0 b.rank n a.left.end b.left.rest.now) so.after (sym passed ∙ so.spell)

  pub section_counted : IsOk (number section.contents.end section.contents.rest.now)
  section_counted = counted (section_id section.kind) so.before section_spells.0 section.contents.end section.contents.rest.now section_spells.1

  pub others_spell : StillSpell b
  others_spell = record {
    most = over.0;
    enough = let short = shorter in let fuel = over.1 in let enough = so.enough in omega arith;
    before = section_spells.0;
    after = so.after;
    spell = ap (λ (n : ℕ). sections_from over.0 b.rank section_spells.0 n b.left.rest.now) takes.1 ∙ section_spells.2;
  }

  -- Its functions can be read unless memory runs out.
  pub refers_unless_memory :
      (e : ModuleError) →
      (e.fault ≡ fault.Memory) ⊎ (contents_references (section_id section.kind) section.contents.end section.contents.rest.now ≡ Err e) → e.fault ≡ fault.Memory
  refers_unless_memory e (inl m) = m
  refers_unless_memory e (inr h) =
      let contents : List ℕ = section.contents.rest.now in
      let id : ℕ = section_id section.kind in
      let found = contents_found id so.before section_spells.0 section.contents.end contents section_spells.1 in
      absurd (no_both (contents_references id section.contents.end contents) found.0 e found.1 h)
