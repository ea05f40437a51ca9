use Rattle.std.proofs.Common.{◌≡◌, length, option_map}
use Rattle.dwarf_info.specs.Contexts.{unit_bases}
use Rattle.dwarf_info.specs.EntryViews.{unit_setting, entries_moved}
use Rattle.dwarf_info.proofs.Stepping.{EntriesSoFar}
use Rattle.dwarf_info.proofs.entries.UnitContext.move_entries.Given as goal

abbrev pub invariant-entries : goal.invariant-entries
invariant-entries l = record {
  so_far : EntriesSoFar (unit_setting l.self) l.self.unit.entries.rest.now (entries_moved l.fn.out) l.scopes.items (option_map unit_bases l.known) l.input.rest.now (entries_moved l.out);
  same_end : l.input.end ≡ l.self.unit.entries.end;
}

abbrev pub decreases-entries : goal.decreases-entries
decreases-entries l = length l.input.rest.now
