use Rattle.std.proofs.Common.{◌≡◌, length}
use Rattle.dwarf_info.specs.EntryViews.{entries_moved}
use Rattle.dwarf_info.specs.Views.{tables_of}
use Rattle.dwarf_info.proofs.Stepping.{UnitsSoFar}
use Rattle.dwarf_info.proofs.entries.move_units.Given as goal

abbrev pub invariant-units : goal.invariant-units
invariant-units l = record {
  so_far : UnitsSoFar (record { kind = l.kind; tables = tables_of l.abbreviations; bodies = l.moves.bodies.items; addresses = l.addresses; end = length l.section })
      l.section (entries_moved l.fn.out) l.input.rest.now (entries_moved l.out);
  same_end : l.input.end ≡ length l.section;
}

abbrev pub decreases-units : goal.decreases-units
decreases-units l = length l.input.rest.now
