use Rattle.std.proofs.Common.{◌++◌, ℕ, Bool, List, [], true, false, codes, refl, sym, ap, subst, ◌∙◌}
use Rattle.wasm_sections.specs.CodeSections.{entry}
use Rattle.wasm_sections.specs.Sections.{section, section_at}
use Rattle.module_removal.specs.declared.writing.Writer.{Writer}
use Rattle.module_removal.specs.LeftNames.{AreLeftNames}
use Rattle.module_removal.specs.LeftSections.{names_names, names_metadata, follows_code, LeavesMetadata, LeavesFollowed, IsLeftCustom}
use Rattle.module_removal.proofs.LeftSectionLemmas.{ok_then, writes_bytes, writes_nothing, or_first, or_second, is_name, custom_becomes}
use Rattle.module_removal.proofs.writing.Writer.custom.Goals as goal

pub returns-then-names_debug-clause-is : goal.returns-then-names_debug-clause-is
returns-then-names_debug-clause-is c = λ none.
    let name = c.in-Ok.value.0.now in
    custom_becomes (section_at c.args.section.now) c.args.self.now c.args.self.now name c.in-Ok.value.1.rest.now c.in-Ok.ensures.is
    (sym c.names_object.ensures ∙ c.if-names_object.false) true (follows_code name) (sym c.names_debug.ensures ∙ c.if-names_debug.true) refl [] refl
    (writes_nothing c.args.self.now none)

pub returns-then-is_names-clause-is : goal.returns-then-is_names-clause-is
returns-then-is_names-clause-is c = λ none.
    let name = c.in-Ok.value.0.now in
    let text = c.in-Ok.value.1.rest.now in
    let left = c.args.self.now.remainder.now.left in
    let code = c.args.self.now.code.now in
    let end = c.args.section.now.contents.end in
    let names = sym c.is_names.ensures ∙ c.if-is_names.true in
    ok_then c.names.result c.names.ensures.is
    (λ w.
    (let bytes = section 0 (entry (codes "name") ++ w.0) in
    let becomes : IsLeftCustom left code end text name bytes = (
      w.0,
      subst (λ (b : Bool). LeavesFollowed b left code end text w.0) (sym names)
          (subst (λ (n : ℕ). AreLeftNames left code n text w.0) c.in-Ok.ensures.end w.1),
      ap (λ (l : List ℕ). section 0 (entry l ++ w.0)) (is_name name names),
    ) in
    custom_becomes (section_at c.args.section.now) c.args.self.now c.names.new.self name text c.in-Ok.ensures.is
    (sym c.names_object.ensures ∙ c.if-names_object.false) false true (sym c.names_debug.ensures ∙ c.if-names_debug.false)
    (or_first (names_names name) (names_metadata name) names) bytes becomes (writes_bytes bytes c.args.self.now c.names.new.self none w.2 c.names.ensures.same)))

pub returns-then-is_metadata-clause-is : goal.returns-then-is_metadata-clause-is
returns-then-is_metadata-clause-is c = λ none.
    let name = c.in-Ok.value.0.now in
    let text = c.in-Ok.value.1.rest.now in
    let left = c.args.self.now.remainder.now.left in
    let code = c.args.self.now.code.now in
    let end = c.args.section.now.contents.end in
    let no_names = sym c.is_names.ensures ∙ c.if-is_names.false in
    ok_then c.metadata.result c.metadata.ensures.is
    (λ w.
    (let bytes = section 0 (entry name ++ w.0) in
    let becomes : IsLeftCustom left code end text name bytes = (
      w.0,
      subst (λ (b : Bool). LeavesFollowed b left code end text w.0) (sym no_names)
          (subst (λ (n : ℕ). LeavesMetadata left code n text w.0) c.in-Ok.ensures.end w.1),
      refl,
    ) in
    custom_becomes (section_at c.args.section.now) c.args.self.now c.metadata.new.self name text c.in-Ok.ensures.is
    (sym c.names_object.ensures ∙ c.if-names_object.false) false true (sym c.names_debug.ensures ∙ c.if-names_debug.false)
    (or_second (names_names name) (names_metadata name) no_names ∙ sym c.is_metadata.ensures ∙ c.if-is_metadata.true) bytes becomes
    (writes_bytes bytes c.args.self.now c.metadata.new.self none w.2 c.metadata.ensures.same)))

pub returns-clause-is : goal.returns-clause-is
returns-clause-is c = λ none.
    let name = c.in-Ok.value.0.now in
    let whole = c.args.section.now.whole.now in
    let new : Writer = record c.args.self.now { out = c.extend_from_slice.new.self } in
    custom_becomes (section_at c.args.section.now) c.args.self.now new name c.in-Ok.value.1.rest.now c.in-Ok.ensures.is
    (sym c.names_object.ensures ∙ c.if-names_object.false) false false (sym c.names_debug.ensures ∙ c.if-names_debug.false)
    (or_second (names_names name) (names_metadata name) (sym c.is_names.ensures ∙ c.if-is_names.false) ∙ sym c.is_metadata.ensures ∙ c.if-is_metadata.false) whole
    refl (writes_bytes whole c.args.self.now new none c.in_ok-extend_from_slice.ensures.items refl)
