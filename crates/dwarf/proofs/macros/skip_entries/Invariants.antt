use Rattle.std.proofs.Common.{◌≡◌, ◌≤◌, length}
use Rattle.dwarf.proofs.MacroLemmas.{PassedSoFar}
use Rattle.dwarf.proofs.macros.skip_entries.Given as goal

abbrev pub invariant-entries : goal.invariant-entries
invariant-entries l = record {
  so_far : PassedSoFar l.size l.fn.input.rest.now l.input.rest.now;
  same_end : l.input.end ≡ l.fn.input.end;
  shorter : length l.input.rest.now ≤ length l.fn.input.rest.now;
}

abbrev pub decreases-entries : goal.decreases-entries
decreases-entries l = length l.input.rest.now
