use Rattle.std.proofs.Common.{◌++◌, ◌∷◌, [], List, inl, inr, refl, ap}
use Rattle.std.proofs.lemmas.Result.{err_from_is_err_and}
use Rattle.dwarf_bytes.specs.Patches.{changes}
use Rattle.dwarf_bytes.specs.Changes.{SectionChange}
use Rattle.dwarf_info.specs.declared.unit.UnitSection.TheVariants as units
use Rattle.dwarf_info.specs.Following.{SectionShifts}
use Rattle.dwarf.specs.declared.sections.SectionName.TheVariants as names
use Rattle.dwarf.specs.Sections.{NamedContents, contents_by_name, moved_contents}
use Rattle.dwarf.specs.MovedDebug.{AreUnitSectionsNotMoved}
use Rattle.dwarf.specs.MovedDebugViews.{entries_of_module, list_shifts}
use Rattle.dwarf.proofs.Failures.{ok_of, err_of, failure_within, added_two}
use Rattle.dwarf.proofs.DebugSteps.{units_as, units_refused_as}
use Rattle.dwarf.proofs.moved_units.add_units.Goals as goal

pub returns-clause-moved : goal.returns-clause-moved
returns-clause-moved c =
    let ss = contents_by_name c.args.sections.now.sections.items in
    let e = entries_of_module c.args.entries.now in
    let l = list_shifts c.args.lists.now in
    let cs = changes c.args.addresses.now in
    let same = c.patches-info.ensures in
    let all =
    ap (λ (info : List SectionChange).
    let s : SectionShifts = record {
      info = info;
      ranges = l.ranges;
      locations = l.locations;
      range_lists = l.range_lists;
      location_lists = l.location_lists;
      addresses = cs;
    } in s) same in
    let first = ok_of c.applied_units.result c.in_ok-one.one _ c.in_ok-one.ensures.moved c.applied_units.ensures.written in
    let second = ok_of c.applied_units-2.result c.in_ok-other.other _ c.in_ok-other.ensures.moved c.applied_units-2.ensures.written in
    let one : List NamedContents = (names.Info, c.in_ok-one.one.items) ∷ [] in
    let two : List NamedContents = (names.Types, c.in_ok-other.other.items) ∷ [] in (
      one ++ two,
      (
        c.in_ok-one.one.items,
        c.in_ok-other.other.items,
        units_as _ _ units.Info e.abbreviations _ _ _ _ _ _ c.get-section.ensures.named all c.resizes-resizes.ensures same _ first,
        units_as _ _ units.Types e.abbreviations _ _ _ _ _ _ c.get.ensures.named all c.resizes-resizes.ensures c.patches-types.ensures _ second,
        refl,
      ),
      added_two (moved_contents c.args.out.now.sections.items) _ _ one two c.in_ok-add.ensures.added c.in_ok-add-2.ensures.added,
    )

pub returns-in_err-one-clause-refused : goal.returns-in_err-one-clause-refused
returns-in_err-one-clause-refused c =
    let ss = contents_by_name c.args.sections.now.sections.items in
    let e = entries_of_module c.args.entries.now in
    let l = list_shifts c.args.lists.now in
    let cs = changes c.args.addresses.now in
    let same = c.patches-info.ensures in
    let all =
    ap (λ (info : List SectionChange).
    let s : SectionShifts = record {
      info = info;
      ranges = l.ranges;
      locations = l.locations;
      range_lists = l.range_lists;
      location_lists = l.location_lists;
      addresses = cs;
    } in s) same in
    let r = c.in_err-one.ensures.refused in
    let p = err_from_is_err_and c.from_residual.result c.from_residual.ensures.1 in
    rw (p.1, p.2)
    (failure_within names.Info _ (AreUnitSectionsNotMoved ss e l cs) _ r.0 (err_of c.applied_units.result _ _ r.1 c.applied_units.ensures.refused)
    (λ fault h. inl (refl, units_refused_as _ _ units.Info e.abbreviations _ _ _ _ _ _ c.get-section.ensures.named all c.resizes-resizes.ensures same fault h)))

pub returns-in_err-add-clause-refused : goal.returns-in_err-add-clause-refused
returns-in_err-add-clause-refused c =
    let p = err_from_is_err_and c.from_residual-in_err-add.result c.from_residual-in_err-add.ensures.1 in
    rw (p.1, p.2) (inl c.in_err-add.ensures.memory)

pub returns-in_err-other-clause-refused : goal.returns-in_err-other-clause-refused
returns-in_err-other-clause-refused c =
    let ss = contents_by_name c.args.sections.now.sections.items in
    let e = entries_of_module c.args.entries.now in
    let l = list_shifts c.args.lists.now in
    let cs = changes c.args.addresses.now in
    let same = c.patches-info.ensures in
    let all =
    ap (λ (info : List SectionChange).
    let s : SectionShifts = record {
      info = info;
      ranges = l.ranges;
      locations = l.locations;
      range_lists = l.range_lists;
      location_lists = l.location_lists;
      addresses = cs;
    } in s) same in
    let first = ok_of c.applied_units.result c.in_ok-one.one _ c.in_ok-one.ensures.moved c.applied_units.ensures.written in
    let r = c.in_err-other.ensures.refused in
    let p = err_from_is_err_and c.from_residual-in_err-other.result c.from_residual-in_err-other.ensures.1 in
    rw (p.1, p.2)
    (failure_within names.Types _ (AreUnitSectionsNotMoved ss e l cs) _ r.0 (err_of c.applied_units-2.result _ _ r.1 c.applied_units-2.ensures.refused)
    (λ fault h. inr (
      c.in_ok-one.one.items,
      units_as _ _ units.Info e.abbreviations _ _ _ _ _ _ c.get-section.ensures.named all c.resizes-resizes.ensures same _ first,
      refl,
      units_refused_as _ _ units.Types e.abbreviations _ _ _ _ _ _ c.get.ensures.named all c.resizes-resizes.ensures c.patches-types.ensures fault h,
    )))

pub returns-in_err-add-2-clause-refused : goal.returns-in_err-add-2-clause-refused
returns-in_err-add-2-clause-refused c =
    let p = err_from_is_err_and c.from_residual-in_err-add-2.result c.from_residual-in_err-add-2.ensures.1 in
    rw (p.1, p.2) (inl c.in_err-add-2.ensures.memory)
