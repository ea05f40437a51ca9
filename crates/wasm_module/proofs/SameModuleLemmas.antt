-- A module that is written, without sections that are given contents, consists of the same as its source.
use Rattle.std.proofs.Common.{◌≡◌, ℕ, zero, suc, ◌+◌, ◌<◌, ◌^◌, List, [], ◌∷◌, ◌++◌, length, Option, Some, None, is_some, Ok, refl, sym, ap, ◌∙◌, subst, arith}
use Rattle.std.proofs.lemmas.List.{append-nil}
use Rattle.wasm_numbers.proofs.ResultLemmas.{ok_same}
use Rattle.wasm_numbers.specs.Numbers.{u32, integer}
use Rattle.wasm_operators.specs.Shortest.{short_number}
use Rattle.wasm_sections.specs.declared.changes.Changes.{Changes}
use Rattle.wasm_sections.specs.declared.changes.NewContents.{NewContents}
use Rattle.wasm_sections.specs.declared.omissions.OmittedSections.{OmittedSections}
use Rattle.wasm_sections.specs.CodeSections.{entries, code_section}
use Rattle.wasm_sections.specs.Components.{Components, module_of}
use Rattle.wasm_sections.specs.GivenContents.{contents_in, bodies_or_none, added_bodies}
use Rattle.wasm_sections.specs.Sections.{preamble, section, SectionAt, rank}
use Rattle.wasm_sections.proofs.NumberLemmas.{short_read}
use Rattle.wasm_sections.proofs.OtherContentLemmas.{custom_reads, code_reads}
use Rattle.wasm_sections.proofs.SameSectionLemmas.{WrittenAs, AreWrittenAs, module_same}
use Rattle.wasm_sections.proofs.SameSectionLemmas.WrittenAs.{left_out, unchanged, changed}
use Rattle.wasm_module.specs.declared.parsed.ParsedModule.{ParsedModule}
use Rattle.wasm_module.specs.SameModules.{HasWrittenCode, IsSameModule}
use Rattle.wasm_module.specs.WrittenModules.{new_after, new_after_section, BodyWriting, HasItemsOf, IsWrittenCode, IsReplacedBy, IsWrittenFor, AreWrittenAt, IsWrittenModule}
use Rattle.wasm_module.specs.WrittenModules.IsReplacedBy.{followed, given_so}
use Rattle.wasm_module.specs.WrittenModules.IsWrittenFor.{code, replaced, carried_over, omitted}
use Rattle.wasm_module.proofs.CodeLemmas.{same_count}

-- ---- where no contents are given

pub nothing_after : (all : List SectionAt) (r : ℕ) → new_after_section [] all r ≡ []
nothing_after all zero = refl
nothing_after all (suc r) = refl

no_bodies : u32 (0 ∷ []) ≡ Ok (0, [])
unfolding integer
no_bodies = refl

-- no bodies are added
pub code_alone :
    (raws : List (List ℕ)) (bodies added contents : List ℕ) → length raws < 2 ^ 32 → bodies ≡ code_section raws → added ≡ 0 ∷ [] → HasItemsOf bodies added contents →
    contents ≡ code_section raws
code_alone raws bodies added contents few is none h =
    let first = ok_same (h.count, h.items) (length raws, entries raws) (sym h.first_is ∙ ap u32 is ∙ short_read (length raws) (entries raws) few) in
    let second = ok_same (h.more, h.others) (0, []) (sym h.second_is ∙ ap u32 none ∙ no_bodies) in
    let count : h.count + h.more ≡ length raws =
    let a = ap (λ (x : ℕ × List ℕ). x.0) first in let b = ap (λ (x : ℕ × List ℕ). x.0) second in omega arith in
    h.contents_are ∙ ap (λ (n : ℕ). short_number n ++ (h.items ++ h.others)) count
    ∙ ap (λ (x : ℕ × List ℕ). short_number (length raws) ++ (x.1 ++ h.others)) first
    ∙ ap (λ (x : ℕ × List ℕ). short_number (length raws) ++ (entries raws ++ x.1)) second
    ∙ ap (λ (l : List ℕ). short_number (length raws) ++ l) (append-nil (entries raws))

module _ (writes : BodyWriting) (source : ParsedModule) (changes : Changes) (omits : OmittedSections) (none : changes.given.items ≡ []) where
  abbrev Code : (old new : Option (ℕ × List ℕ)) → Type 0
  Code old new = HasWrittenCode writes source old new

  both_coded : (old new : Option (ℕ × List ℕ)) → Code old new → is_some new ≡ is_some old
  both_coded None None h = refl
  both_coded None (Some new) h = absurd h
  both_coded (Some old) None h = absurd h
  both_coded (Some old) (Some new) h = refl

  code_written :
      (s : SectionAt) (bodies contents text : List ℕ) → s.id ≡ 10 → IsWrittenCode writes source s bodies → HasItemsOf bodies (added_bodies changes) contents → length contents < 2 ^ 32 →
      text ≡ section 10 contents → WrittenAs Code s text
  code_written s bodies contents text is w items fits parts =
      let added : added_bodies changes ≡ 0 ∷ [] = ap (λ (given : List NewContents). bodies_or_none (contents_in given 10)) none in
      let alone = code_alone w.raws bodies (added_bodies changes) contents w.few w.code_is added items in
      let as_written = subst (λ (l : List ℕ). IsWrittenCode writes source s l) w.code_is w in
      changed (code_section w.raws) (subst (λ (l : List ℕ). length l < 2 ^ 32) alone fits)
      (code_reads Code s w.bodies w.raws is w.are_bodies (same_count writes source source.imported w.bodies w.raws w.pairs w.are_written) w.few w.fit (λ end. (s, refl, as_written)))
      (parts ∙ ap (section 10) alone ∙ ap (λ (k : ℕ). section k (code_section w.raws)) (sym is))

  replaced_written : (s : SectionAt) (contents text : List ℕ) → IsReplacedBy changes s contents → length contents < 2 ^ 32 → text ≡ section s.id contents → WrittenAs Code s text
  replaced_written s contents text (followed custom named same) fits parts =
      changed contents fits (custom_reads Code s contents same.0 custom same.1 same.2) parts
  replaced_written s contents text (given_so other given) fits parts =
      absurd (let no : None ≡ Some contents = ap (λ (l : List NewContents). contents_in l s.id) (sym none) ∙ given in cc)

  section_written : (s : SectionAt) (text : List ℕ) → IsWrittenFor writes source changes omits s text → WrittenAs Code s text
  section_written s text (code bodies contents is w items parts) = code_written s bodies contents text is w items parts.0 parts.1
  section_written s text (replaced contents other kept r parts) = replaced_written s contents text r parts.0 parts.1
  section_written s text (carried_over other kept carried parts) = unchanged other parts
  section_written s text (omitted h parts) = left_out h.is_custom parts

  sections_written : (all ss : List SectionAt) (text : List ℕ) → AreWrittenAt writes source changes omits all ss text → AreWrittenAs Code ss text
  sections_written all [] text h = h
  sections_written all (s ∷ ss) text h =
      let after : new_after_section changes.given.items all (rank s.id) ≡ [] =
      ap (λ (given : List NewContents). new_after_section given all (rank s.id)) none ∙ nothing_after all (rank s.id) in
      let alone : h.0 ≡ h.3.own = h.3.text_is ∙ ap (λ (l : List ℕ). h.3.own ++ l) after ∙ append-nil h.3.own in (
        h.0,
        h.1,
        h.2,
        subst (λ (l : List ℕ). WrittenAs Code s l) (sym alone) (section_written s h.3.own h.3.is_written),
        sections_written all ss h.1 h.4,
      )

  pub written_same : (m : Components) (new : List ℕ) → module_of source.bytes.now ≡ Ok m → IsWrittenModule writes source changes omits new → IsSameModule writes source m new
  written_same m new spells w =
      let front : new_after changes.given.items w.sections 0 ≡ [] = ap (λ (given : List NewContents). new_after given w.sections 0) none in
      let parts : new ≡ preamble ++ w.text = w.new_is ∙ ap (λ (l : List ℕ). preamble ++ (l ++ w.text)) front in
      let n =
      module_same Code tt both_coded source.bytes.now new m w.sections w.text spells w.is_module (sections_written w.sections w.sections w.text w.are_written) parts in
      record { written = n.0; spells = n.1; same = n.2 }
