use Rattle.std.proofs.Common.{inr}
use Rattle.std.proofs.lemmas.Result.{err_from_is_err_and}
use Rattle.dwarf_info.specs.EntryViews.{entries_moved}
use Rattle.dwarf_info.specs.Views.{tables_of}
use Rattle.dwarf_info.specs.declared.unit.UnitSection.TheVariants as units
use Rattle.dwarf.specs.MovedDebug.{AreUnitsNotMoved, AreEntriesNotMoved}
use Rattle.dwarf.specs.MovedDebugViews.{debug_setting}
use Rattle.dwarf.proofs.Failures.{failure_more}
use Rattle.dwarf.proofs.moved_entries.AllEntries.moved.Goals as goal

pub returns-in_err-types-clause-refused : goal.returns-in_err-types-clause-refused
returns-in_err-types-clause-refused c =
    let p = err_from_is_err_and c.from_residual-in_err-types.result c.from_residual-in_err-types.ensures.1 in
    let d = debug_setting c.args.sections.now c.args.moves.now in
    let tables = c.args.tables.now in
    rw (p.1, p.2)
    (failure_more (AreUnitsNotMoved d tables (tables_of c.in_ok-abbreviations.abbreviations) units.Types) (AreEntriesNotMoved d tables) c.in_err-types.field-0.0 (λ section fault h. inr (tables_of c.in_ok-abbreviations.abbreviations, c.in_ok-abbreviations.ensures.read, inr (entries_moved c.in_ok-info.info, c.in_ok-info.ensures.moved, h)))
    c.in_err-types.ensures.refused)
