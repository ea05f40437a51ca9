use Rattle.std.proofs.Common.{◌≡◌, ◌++◌, ◌∷◌, [], List, Ok, Err, subst}
use Rattle.std.proofs.lemmas.Result.{err_from_is_err_and}
use Rattle.dwarf_bytes.specs.Changes.{SectionChange}
use Rattle.dwarf_bytes.specs.Patches.{changes}
use Rattle.dwarf.specs.declared.sections.SectionName.TheVariants as names
use Rattle.dwarf.specs.AddressRanges.{code_followed}
use Rattle.dwarf.specs.Replacing.{section_with}
use Rattle.dwarf.specs.Sections.{NamedContents, moved_contents}
use Rattle.dwarf.specs.MovedDebug.{section_followed, name_sections_moved, last_sections_moved}
use Rattle.dwarf.specs.MovedDebugViews.{debug_setting, entries_of_module}
use Rattle.dwarf.proofs.Failures.{failure_more, added_two}
use Rattle.dwarf.proofs.DebugSteps.{last_of, first_fails, names_fail, last_fails}
use Rattle.dwarf.proofs.moving.add_last.Goals as goal

pub returns-clause-added : goal.returns-clause-added
returns-clause-added c =
    let d = debug_setting c.args.sections.now c.args.moves.now in
    let e = entries_of_module c.args.entries.now in
    let cs = changes c.args.addresses.now in
    let r = section_followed d.sections (names.Addresses, section_with cs) in
    let q = name_sections_moved d.sections e.info.changes in
    let t = section_followed d.sections (names.AddressRanges, code_followed d.bodies e.info.code e.info.changes) in
    let a = c.in_ok-add_addresses.ensures.added in
    let b = c.in_ok-add_names.ensures.added in
    let f = c.in_ok-add_address_ranges.ensures.added in
    let same = subst (λ (info : List SectionChange). name_sections_moved d.sections info ≡ Ok b.0) c.patches-info.ensures b.1 in
    let start = moved_contents c.args.out.now.sections.items in
    let one : List NamedContents = a.0 ∷ [] in
    let two : List NamedContents = f.0 ∷ [] in
    (one ++ (b.0 ++ two), last_of r q t a.0 b.0 f.0 a.1 same f.1, added_two start _ _ one (b.0 ++ two) a.2 (added_two _ _ _ b.0 two b.2 f.2))

pub returns-in_err-add_addresses-clause-refused : goal.returns-in_err-add_addresses-clause-refused
returns-in_err-add_addresses-clause-refused c =
    let d = debug_setting c.args.sections.now c.args.moves.now in
    let e = entries_of_module c.args.entries.now in
    let cs = changes c.args.addresses.now in
    let r = section_followed d.sections (names.Addresses, section_with cs) in
    let q = name_sections_moved d.sections e.info.changes in
    let t = section_followed d.sections (names.AddressRanges, code_followed d.bodies e.info.code e.info.changes) in
    let p = err_from_is_err_and c.from_residual.result c.from_residual.ensures.1 in
    rw (p.1, p.2)
    (failure_more (λ section fault. r ≡ Err (section, fault)) (λ section fault. last_sections_moved d e cs ≡ Err (section, fault)) c.in_err-add_addresses.field-0.0 (λ section fault h. first_fails r q t _ h) c.in_err-add_addresses.ensures.refused)

pub returns-in_err-add_names-clause-refused : goal.returns-in_err-add_names-clause-refused
returns-in_err-add_names-clause-refused c =
    let d = debug_setting c.args.sections.now c.args.moves.now in
    let e = entries_of_module c.args.entries.now in
    let cs = changes c.args.addresses.now in
    let r = section_followed d.sections (names.Addresses, section_with cs) in
    let q = name_sections_moved d.sections e.info.changes in
    let t = section_followed d.sections (names.AddressRanges, code_followed d.bodies e.info.code e.info.changes) in
    let a = c.in_ok-add_addresses.ensures.added in
    let p = err_from_is_err_and c.from_residual-in_err-add_names.result c.from_residual-in_err-add_names.ensures.1 in
    rw (p.1, p.2)
    (failure_more (λ section fault. name_sections_moved d.sections (changes c.patches-info.result.now) ≡ Err (section, fault)) (λ section fault. last_sections_moved d e cs ≡ Err (section, fault)) c.in_err-add_names.field-0.0
    (λ section fault h. names_fail r q t a.0 _ a.1 (subst (λ (info : List SectionChange). name_sections_moved d.sections info ≡ Err (section, fault)) c.patches-info.ensures h))
    c.in_err-add_names.ensures.refused)

pub returns-in_err-add_address_ranges-clause-refused : goal.returns-in_err-add_address_ranges-clause-refused
returns-in_err-add_address_ranges-clause-refused c =
    let d = debug_setting c.args.sections.now c.args.moves.now in
    let e = entries_of_module c.args.entries.now in
    let cs = changes c.args.addresses.now in
    let r = section_followed d.sections (names.Addresses, section_with cs) in
    let q = name_sections_moved d.sections e.info.changes in
    let t = section_followed d.sections (names.AddressRanges, code_followed d.bodies e.info.code e.info.changes) in
    let a = c.in_ok-add_addresses.ensures.added in
    let b = c.in_ok-add_names.ensures.added in
    let same = subst (λ (info : List SectionChange). name_sections_moved d.sections info ≡ Ok b.0) c.patches-info.ensures b.1 in
    let p = err_from_is_err_and c.from_residual-in_err-add_address_ranges.result c.from_residual-in_err-add_address_ranges.ensures.1 in
    rw (p.1, p.2)
    (failure_more (λ section fault. t ≡ Err (section, fault)) (λ section fault. last_sections_moved d e cs ≡ Err (section, fault)) c.in_err-add_address_ranges.field-0.0 (λ section fault h. last_fails r q t a.0 b.0 _ a.1 same h) c.in_err-add_address_ranges.ensures.refused)
