use Rattle.std.proofs.Common.{◌≡◌, ◌++◌, ℕ, List, Err, inl, inr, refl, ◌∙◌, subst}
use Rattle.std.proofs.lemmas.Result.{err_from_is_err_and}
use Rattle.dwarf_bytes.specs.declared.addresses.Address.{Address}
use Rattle.dwarf_bytes.specs.declared.fault.DebugFault.TheVariants.{Unsupported}
use Rattle.dwarf_bytes.specs.Patches.{changes}
use Rattle.dwarf_bytes.specs.Uses.{told}
use Rattle.dwarf.specs.declared.sections.SectionName.TheVariants as names
use Rattle.dwarf.specs.Sections.{moved_contents}
use Rattle.dwarf.specs.MovedDebug.{list_kinds, each_shift, AreEntriesNotMoved, AreListSectionsMoved, AreListSectionsNotMoved, AreUnitSectionsNotMoved, last_sections_moved, AreOthersNotMoved}
use Rattle.dwarf.specs.MovedDebugViews.{debug_setting, entries_of_module, list_shifts}
use Rattle.dwarf.proofs.Failures.{ok_of, err_of, failure_more, failure_within, added_two}
use Rattle.dwarf.proofs.moving.move_others.Goals as goal

pub move_addresses-requires : goal.move_addresses-requires
move_addresses-requires c = c.in_ok-lists.ensures.tables ∙ c.new-uses.ensures.tables

pub returns-clause-moved : goal.returns-clause-moved
returns-clause-moved c =
    let d = debug_setting c.args.sections.now c.args.moves.now in
    let tables = c.args.tables.now in
    let e = entries_of_module c.in_ok-entries.entries in
    let found = c.in_ok-lists.ensures.moved in
    let l = list_shifts c.in_ok-lists.lists in
    let by_lists = told c.moved-2.new.uses in
    let lists = subst (λ (us : List (Address × ℕ)). AreListSectionsMoved d e list_kinds us (each_shift l) found.0 by_lists) c.new-uses.ensures.told found.1 in
    let no_names = c.in_ok-check_names_in_expressions.ensures.none in
    let replaced = ok_of c.move_addresses.result c.in_ok-addresses.addresses _ c.in_ok-addresses.ensures.moved c.move_addresses.ensures.replaced in
    let cs = changes c.in_ok-addresses.addresses in
    let units = c.in_ok-add_units.ensures.moved in
    let last = c.in_ok-add_last.ensures.added in (
      found.0 ++ (units.0 ++ last.0),
      record {
        entries = e;
        are_moved = c.in_ok-entries.ensures.moved;
        shifts = l;
        by_lists = by_lists;
        lists = found.0;
        lists_are = lists;
        no_names = no_names;
        addresses = cs;
        addresses_are = replaced;
        units = units.0;
        units_are = units.1;
        last = last.0;
        last_are = last.1;
        news_are = refl;
      },
      added_two (moved_contents c.args.out.now.sections.items) _ _ found.0 (units.0 ++ last.0) found.2 (added_two _ _ _ units.0 last.0 units.2 last.2),
    )

pub returns-in_err-entries-clause-refused : goal.returns-in_err-entries-clause-refused
returns-in_err-entries-clause-refused c =
    let d = debug_setting c.args.sections.now c.args.moves.now in
    let tables = c.args.tables.now in
    let p = err_from_is_err_and c.from_residual.result c.from_residual.ensures.1 in
    rw (p.1, p.2) (failure_more (AreEntriesNotMoved d tables) (AreOthersNotMoved d tables) c.in_err-entries.field-0.0 (λ section fault h. inl h) c.in_err-entries.ensures.refused)

pub returns-in_err-lists-clause-refused : goal.returns-in_err-lists-clause-refused
returns-in_err-lists-clause-refused c =
    let d = debug_setting c.args.sections.now c.args.moves.now in
    let tables = c.args.tables.now in
    let e = entries_of_module c.in_ok-entries.entries in
    let p = err_from_is_err_and c.from_residual-in_err-lists.result c.from_residual-in_err-lists.ensures.1 in
    rw (p.1, p.2)
    (failure_more (AreListSectionsNotMoved d e list_kinds (told c.new-uses.result)) (AreOthersNotMoved d tables) c.in_err-lists.field-0.0
    (λ section fault h.
    inr (e, c.in_ok-entries.ensures.moved, inl (subst (λ (us : List (Address × ℕ)). AreListSectionsNotMoved d e list_kinds us section fault) c.new-uses.ensures.told h)))
    c.in_err-lists.ensures.refused)

pub returns-in_err-check_names_in_expressions-clause-refused : goal.returns-in_err-check_names_in_expressions-clause-refused
returns-in_err-check_names_in_expressions-clause-refused c =
    let d = debug_setting c.args.sections.now c.args.moves.now in
    let tables = c.args.tables.now in
    let e = entries_of_module c.in_ok-entries.entries in
    let found = c.in_ok-lists.ensures.moved in
    let l = list_shifts c.in_ok-lists.lists in
    let by_lists = told c.moved-2.new.uses in
    let lists = subst (λ (us : List (Address × ℕ)). AreListSectionsMoved d e list_kinds us (each_shift l) found.0 by_lists) c.new-uses.ensures.told found.1 in
    let x = c.in_err-check_names_in_expressions.ensures.refused in
    let p = err_from_is_err_and c.from_residual-in_err-check_names_in_expressions.result c.from_residual-in_err-check_names_in_expressions.ensures.1 in
    rw (p.1, p.2) (inr (Unsupported, x.1, inr (e, c.in_ok-entries.ensures.moved, inr (l, found.0, by_lists, lists, inl (x.0, refl, x.2)))))

pub returns-in_err-addresses-clause-refused : goal.returns-in_err-addresses-clause-refused
returns-in_err-addresses-clause-refused c =
    let d = debug_setting c.args.sections.now c.args.moves.now in
    let tables = c.args.tables.now in
    let e = entries_of_module c.in_ok-entries.entries in
    let found = c.in_ok-lists.ensures.moved in
    let l = list_shifts c.in_ok-lists.lists in
    let by_lists = told c.moved-2.new.uses in
    let lists = subst (λ (us : List (Address × ℕ)). AreListSectionsMoved d e list_kinds us (each_shift l) found.0 by_lists) c.new-uses.ensures.told found.1 in
    let no_names = c.in_ok-check_names_in_expressions.ensures.none in
    let r = c.in_err-addresses.ensures.refused in
    let p = err_from_is_err_and c.from_residual-in_err-addresses.result c.from_residual-in_err-addresses.ensures.1 in
    rw (p.1, p.2)
    (failure_within names.Addresses _ (AreOthersNotMoved d tables) _ r.0 (err_of c.move_addresses.result _ _ r.1 c.move_addresses.ensures.refused)
    (λ fault h. inr (e, c.in_ok-entries.ensures.moved, inr (l, found.0, by_lists, lists, inr (no_names, inl (refl, h))))))

pub returns-in_err-add_units-clause-refused : goal.returns-in_err-add_units-clause-refused
returns-in_err-add_units-clause-refused c =
    let d = debug_setting c.args.sections.now c.args.moves.now in
    let tables = c.args.tables.now in
    let e = entries_of_module c.in_ok-entries.entries in
    let found = c.in_ok-lists.ensures.moved in
    let l = list_shifts c.in_ok-lists.lists in
    let by_lists = told c.moved-2.new.uses in
    let lists = subst (λ (us : List (Address × ℕ)). AreListSectionsMoved d e list_kinds us (each_shift l) found.0 by_lists) c.new-uses.ensures.told found.1 in
    let no_names = c.in_ok-check_names_in_expressions.ensures.none in
    let replaced = ok_of c.move_addresses.result c.in_ok-addresses.addresses _ c.in_ok-addresses.ensures.moved c.move_addresses.ensures.replaced in
    let cs = changes c.in_ok-addresses.addresses in
    let p = err_from_is_err_and c.from_residual-in_err-add_units.result c.from_residual-in_err-add_units.ensures.1 in
    rw (p.1, p.2)
    (failure_more (AreUnitSectionsNotMoved d.sections e l cs) (AreOthersNotMoved d tables) c.in_err-add_units.field-0.0
    (λ section fault h. inr (e, c.in_ok-entries.ensures.moved, inr (l, found.0, by_lists, lists, inr (no_names, inr (cs, replaced, inl h)))))
    c.in_err-add_units.ensures.refused)

pub returns-in_err-add_last-clause-refused : goal.returns-in_err-add_last-clause-refused
returns-in_err-add_last-clause-refused c =
    let d = debug_setting c.args.sections.now c.args.moves.now in
    let tables = c.args.tables.now in
    let e = entries_of_module c.in_ok-entries.entries in
    let found = c.in_ok-lists.ensures.moved in
    let l = list_shifts c.in_ok-lists.lists in
    let by_lists = told c.moved-2.new.uses in
    let lists = subst (λ (us : List (Address × ℕ)). AreListSectionsMoved d e list_kinds us (each_shift l) found.0 by_lists) c.new-uses.ensures.told found.1 in
    let no_names = c.in_ok-check_names_in_expressions.ensures.none in
    let replaced = ok_of c.move_addresses.result c.in_ok-addresses.addresses _ c.in_ok-addresses.ensures.moved c.move_addresses.ensures.replaced in
    let cs = changes c.in_ok-addresses.addresses in
    let units = c.in_ok-add_units.ensures.moved in
    let p = err_from_is_err_and c.from_residual-in_err-add_last.result c.from_residual-in_err-add_last.ensures.1 in
    rw (p.1, p.2)
    (failure_more (λ section fault. last_sections_moved d e cs ≡ Err (section, fault)) (AreOthersNotMoved d tables) c.in_err-add_last.field-0.0
    (λ section fault h. inr (e, c.in_ok-entries.ensures.moved, inr (l, found.0, by_lists, lists, inr (no_names, inr (cs, replaced, inr (units.0, units.1, h))))))
    c.in_err-add_last.ensures.refused)
