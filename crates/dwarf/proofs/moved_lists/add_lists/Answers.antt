use Rattle.std.proofs.Common.{◌++◌, ◌∷◌, [], inl, ap, ◌∙◌}
use Rattle.std.proofs.lemmas.Result.{err_from_is_err_and}
use Rattle.dwarf_bytes.specs.Patches.{changes}
use Rattle.dwarf_bytes.specs.Uses.{told}
use Rattle.dwarf.specs.declared.sections.SectionName.{SectionName}
use Rattle.dwarf.specs.Sections.{moved_contents, section_of_lists}
use Rattle.dwarf.specs.PlacedListsViews.{lists_setting}
use Rattle.dwarf.specs.MovedDebug.{IsListSectionNotMoved}
use Rattle.dwarf.specs.MovedDebugViews.{debug_setting, entries_of_module}
use Rattle.dwarf.proofs.Failures.{ok_of, err_of, failure_within}
use Rattle.dwarf.proofs.DebugSteps.{same_setting, list_section_moved, lists_unplaced, list_section_unwritten}
use Rattle.dwarf.proofs.moved_lists.add_lists.Goals as goal

pub returns-clause-moved : goal.returns-clause-moved
returns-clause-moved c =
    let d = debug_setting c.args.sections.now c.args.moves.now in
    let e = entries_of_module c.args.entries.now in
    let kind = c.args.kind in
    let section = c.of-section.result in
    let is = same_setting _ _ _ _ _ _ d.bodies c.of-section.ensures.kind c.of-section.ensures.contents c.of-section.ensures.addresses in
    let replaced = ok_of c.patches.result c.in_ok-patches.patches _ c.in_ok-patches.ensures.moved c.patches.ensures.replaced in
    let written = ok_of c.applied.result c.in_ok-contents.contents _ c.in_ok-contents.ensures.moved c.applied.ensures.written in (
      c.in_ok-contents.contents.items,
      list_section_moved d e kind (lists_setting section c.args.moves.now) _ _ (told c.args.addresses.now) is c.lists-uses.ensures.info c.lists-uses.ensures.types (changes c.in_ok-patches.patches) _ _ _ replaced written
          c.shifting.ensures,
      c.in_ok-add.ensures.added ∙ ap (λ (n : SectionName). moved_contents c.args.out.now.sections.items ++ (n, c.in_ok-contents.contents.items) ∷ []) c.section-name.ensures,
    )

pub returns-in_err-patches-clause-refused : goal.returns-in_err-patches-clause-refused
returns-in_err-patches-clause-refused c =
    let d = debug_setting c.args.sections.now c.args.moves.now in
    let e = entries_of_module c.args.entries.now in
    let kind = c.args.kind in
    let is = same_setting _ _ _ _ _ _ d.bodies c.of-section.ensures.kind c.of-section.ensures.contents c.of-section.ensures.addresses in
    let r = c.in_err-patches.ensures.refused in
    let p = err_from_is_err_and c.from_residual.result c.from_residual.ensures.1 in
    rw (p.1, p.2)
    (failure_within (section_of_lists kind) _ (IsListSectionNotMoved d e kind (told c.args.addresses.now)) _ (r.0 ∙ c.section-name.ensures) (err_of c.patches.result _ _ r.1 c.patches.ensures.refused)
    (λ fault h. lists_unplaced d e kind (lists_setting c.of-section.result c.args.moves.now) _ _ (told c.args.addresses.now) is c.lists-uses.ensures.info c.lists-uses.ensures.types fault h))

pub returns-in_err-contents-clause-refused : goal.returns-in_err-contents-clause-refused
returns-in_err-contents-clause-refused c =
    let d = debug_setting c.args.sections.now c.args.moves.now in
    let e = entries_of_module c.args.entries.now in
    let kind = c.args.kind in
    let is = same_setting _ _ _ _ _ _ d.bodies c.of-section.ensures.kind c.of-section.ensures.contents c.of-section.ensures.addresses in
    let replaced = ok_of c.patches.result c.in_ok-patches.patches _ c.in_ok-patches.ensures.moved c.patches.ensures.replaced in
    let r = c.in_err-contents.ensures.refused in
    let p = err_from_is_err_and c.from_residual-in_err-contents.result c.from_residual-in_err-contents.ensures.1 in
    rw (p.1, p.2)
    (failure_within (section_of_lists kind) _ (IsListSectionNotMoved d e kind (told c.args.addresses.now)) _ (r.0 ∙ c.section-name.ensures) (err_of c.applied.result _ _ r.1 c.applied.ensures.refused)
    (λ fault h. list_section_unwritten d e kind (lists_setting c.of-section.result c.args.moves.now) _ _ (told c.args.addresses.now) is c.lists-uses.ensures.info c.lists-uses.ensures.types (changes c.in_ok-patches.patches) _ fault replaced h))

pub returns-in_err-add-clause-refused : goal.returns-in_err-add-clause-refused
returns-in_err-add-clause-refused c =
    let p = err_from_is_err_and c.from_residual-in_err-add.result c.from_residual-in_err-add.ensures.1 in
    rw (p.1, p.2) (inl c.in_err-add.ensures.memory)
