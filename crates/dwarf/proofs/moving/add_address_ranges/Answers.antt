use Rattle.std.proofs.Common.{◌≡◌, List, Ok, Err, inl, subst}
use Rattle.std.proofs.lemmas.Result.{err_from_is_err_and}
use Rattle.dwarf_bytes.specs.Patches.{changes}
use Rattle.dwarf_bytes.specs.Changes.{SectionChange}
use Rattle.dwarf_info.specs.declared.moved.CodeRange.{CodeRange}
use Rattle.dwarf_info.specs.EntryViews.{entries_moved}
use Rattle.dwarf.specs.AddressRanges.{code_followed}
use Rattle.dwarf.specs.declared.sections.SectionName.TheVariants as names
use Rattle.dwarf.specs.Sections.{contents_by_name}
use Rattle.dwarf.specs.MovedDebug.{section_followed}
use Rattle.dwarf.proofs.Failures.{ok_of, err_of, failure_within, follows, not_follows}
use Rattle.dwarf.proofs.moving.add_address_ranges.Goals as goal

pub returns-clause-added : goal.returns-clause-added
returns-clause-added c =
    let ss = contents_by_name c.args.sections.now.sections.items in
    let m = entries_moved c.args.entries.now.info in
    let new = ok_of c.move_address_ranges.result c.in_ok-contents.contents _ c.in_ok-contents.ensures.moved c.move_address_ranges.ensures.followed in
    let at_code = subst (λ (code : List CodeRange). code_followed c.args.moves.now.bodies.items code (changes c.patches-info.result.now) c.get.result.now ≡ Ok c.in_ok-contents.contents.items) c.code-code.ensures new in
    let same = subst (λ (cs : List SectionChange). code_followed c.args.moves.now.bodies.items m.code cs c.get.result.now ≡ Ok c.in_ok-contents.contents.items) c.patches-info.ensures at_code in
    ((names.AddressRanges, c.in_ok-contents.contents.items), follows ss names.AddressRanges (code_followed c.args.moves.now.bodies.items m.code m.changes) c.get.result.now c.in_ok-contents.contents.items c.get.ensures.named same, c.in_ok-add.ensures.added)

pub returns-in_err-contents-clause-refused : goal.returns-in_err-contents-clause-refused
returns-in_err-contents-clause-refused c =
    let ss = contents_by_name c.args.sections.now.sections.items in
    let m = entries_moved c.args.entries.now.info in
    let r = c.in_err-contents.ensures.refused in
    let p = err_from_is_err_and c.from_residual.result c.from_residual.ensures.1 in
    rw (p.1, p.2)
    (failure_within names.AddressRanges _ (λ section fault. section_followed ss (names.AddressRanges, code_followed c.args.moves.now.bodies.items m.code m.changes) ≡ Err (section, fault)) _ r.0 (err_of c.move_address_ranges.result _ _ r.1 c.move_address_ranges.ensures.refused)
    (λ fault h.
    let at_code = subst (λ (code : List CodeRange). code_followed c.args.moves.now.bodies.items code (changes c.patches-info.result.now) c.get.result.now ≡ Err fault) c.code-code.ensures h in
    let same = subst (λ (cs : List SectionChange). code_followed c.args.moves.now.bodies.items m.code cs c.get.result.now ≡ Err fault) c.patches-info.ensures at_code in
    not_follows ss names.AddressRanges (code_followed c.args.moves.now.bodies.items m.code m.changes) c.get.result.now fault c.get.ensures.named same))

pub returns-in_err-add-clause-refused : goal.returns-in_err-add-clause-refused
returns-in_err-add-clause-refused c =
    let p = err_from_is_err_and c.from_residual-in_err-add.result c.from_residual-in_err-add.ensures.1 in
    rw (p.1, p.2) (inl c.in_err-add.ensures.memory)
