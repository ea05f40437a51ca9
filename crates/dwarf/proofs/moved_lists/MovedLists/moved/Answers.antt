use Rattle.std.proofs.Common.{◌++◌, ◌∷◌, [], List, inl, inr}
use Rattle.std.proofs.lemmas.Result.{err_from_is_err_and}
use Rattle.dwarf_bytes.specs.Uses.{told}
use Rattle.dwarf.specs.declared.lists.ListKind.TheVariants.{Ranges, Locations, RangeLists, LocationLists}
use Rattle.dwarf.specs.Sections.{NamedContents, moved_contents, section_of_lists}
use Rattle.dwarf.specs.MovedDebug.{list_kinds, IsListSectionNotMoved, AreListSectionsNotMoved}
use Rattle.dwarf.specs.MovedDebugViews.{debug_setting, entries_of_module}
use Rattle.dwarf.proofs.Failures.{failure_more, added_two}
use Rattle.dwarf.proofs.DebugSteps.{no_section, more_sections}
use Rattle.dwarf.proofs.moved_lists.MovedLists.moved.Goals as goal

pub returns-clause-moved : goal.returns-clause-moved
returns-clause-moved c =
    let d = debug_setting c.args.sections.now c.args.moves.now in
    let e = entries_of_module c.args.entries.now in
    let first = c.in_ok-ranges.ensures.moved in
    let second = c.in_ok-locations.ensures.moved in
    let third = c.in_ok-range_lists.ensures.moved in
    let fourth = c.in_ok-location_lists.ensures.moved in
    let one : List NamedContents = (section_of_lists Ranges, first.0) ∷ [] in
    let two : List NamedContents = (section_of_lists Locations, second.0) ∷ [] in
    let three : List NamedContents = (section_of_lists RangeLists, third.0) ∷ [] in
    let four : List NamedContents = (section_of_lists LocationLists, fourth.0) ∷ [] in
    let start = moved_contents c.args.out.now.sections.items in
    let end = moved_contents c.add_lists-4.new.out.sections.items in
    let us = told c.add_lists-4.new.addresses in
    let after_two = added_two start _ _ one two first.2 second.2 in
    let after_three = added_two start _ _ (one ++ two) three after_two third.2 in
    let last = more_sections d e LocationLists [] _ _ fourth.0 us [] [] us fourth.1 (no_section d e us) in
    let lists = more_sections d e RangeLists (LocationLists ∷ []) _ _ third.0 _ _ four us third.1 last in
    let more = more_sections d e Locations (RangeLists ∷ LocationLists ∷ []) _ _ second.0 _ _ (three ++ four) us second.1 lists in (
      one ++ (two ++ (three ++ four)),
      more_sections d e Ranges (Locations ∷ RangeLists ∷ LocationLists ∷ []) _ _ first.0 _ _ (two ++ (three ++ four)) us first.1 more,
      added_two start _ end ((one ++ two) ++ three) four after_three fourth.2,
    )

pub returns-in_err-ranges-clause-refused : goal.returns-in_err-ranges-clause-refused
returns-in_err-ranges-clause-refused c =
    let d = debug_setting c.args.sections.now c.args.moves.now in
    let e = entries_of_module c.args.entries.now in
    let p = err_from_is_err_and c.from_residual.result c.from_residual.ensures.1 in
    rw (p.1, p.2) (failure_more (IsListSectionNotMoved d e Ranges (told c.args.uses.now)) (AreListSectionsNotMoved d e list_kinds (told c.args.uses.now)) c.in_err-ranges.field-0.0 (λ section fault h. inl h) c.in_err-ranges.ensures.refused)

pub returns-in_err-locations-clause-refused : goal.returns-in_err-locations-clause-refused
returns-in_err-locations-clause-refused c =
    let d = debug_setting c.args.sections.now c.args.moves.now in
    let e = entries_of_module c.args.entries.now in
    let first = c.in_ok-ranges.ensures.moved in
    let p = err_from_is_err_and c.from_residual-in_err-locations.result c.from_residual-in_err-locations.ensures.1 in
    rw (p.1, p.2) (failure_more (IsListSectionNotMoved d e Locations (told c.add_lists.new.addresses)) (AreListSectionsNotMoved d e list_kinds (told c.args.uses.now)) c.in_err-locations.field-0.0 (λ section fault h. inr (_, first.0, _, first.1, inl h)) c.in_err-locations.ensures.refused)

pub returns-in_err-range_lists-clause-refused : goal.returns-in_err-range_lists-clause-refused
returns-in_err-range_lists-clause-refused c =
    let d = debug_setting c.args.sections.now c.args.moves.now in
    let e = entries_of_module c.args.entries.now in
    let first = c.in_ok-ranges.ensures.moved in
    let second = c.in_ok-locations.ensures.moved in
    let p = err_from_is_err_and c.from_residual-in_err-range_lists.result c.from_residual-in_err-range_lists.ensures.1 in
    rw (p.1, p.2) (failure_more (IsListSectionNotMoved d e RangeLists (told c.add_lists-2.new.addresses)) (AreListSectionsNotMoved d e list_kinds (told c.args.uses.now)) c.in_err-range_lists.field-0.0 (λ section fault h. inr (_, first.0, _, first.1, inr (_, second.0, _, second.1, inl h))) c.in_err-range_lists.ensures.refused)

pub returns-in_err-location_lists-clause-refused : goal.returns-in_err-location_lists-clause-refused
returns-in_err-location_lists-clause-refused c =
    let d = debug_setting c.args.sections.now c.args.moves.now in
    let e = entries_of_module c.args.entries.now in
    let first = c.in_ok-ranges.ensures.moved in
    let second = c.in_ok-locations.ensures.moved in
    let third = c.in_ok-range_lists.ensures.moved in
    let p = err_from_is_err_and c.from_residual-in_err-location_lists.result c.from_residual-in_err-location_lists.ensures.1 in
    rw (p.1, p.2)
    (failure_more (IsListSectionNotMoved d e LocationLists (told c.add_lists-3.new.addresses)) (AreListSectionsNotMoved d e list_kinds (told c.args.uses.now)) c.in_err-location_lists.field-0.0 (λ section fault h. inr (_, first.0, _, first.1, inr (_, second.0, _, second.1, inr (_, third.0, _, third.1, inl h)))) c.in_err-location_lists.ensures.refused)
