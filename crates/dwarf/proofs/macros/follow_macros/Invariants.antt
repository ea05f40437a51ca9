use Rattle.std.proofs.Common.{◌≡◌, [], length}
use Rattle.dwarf_bytes.specs.Patches.{changes}
use Rattle.dwarf.specs.Macros.{macros_followed}
use Rattle.dwarf.proofs.Repeating.{ReplacedSoFar}
use Rattle.dwarf.proofs.macros.follow_macros.Given as goal

abbrev pub invariant-units : goal.invariant-units
invariant-units l = record {
  so_far : ReplacedSoFar (macros_followed l.tables (length l.section)) l.section [] l.input.rest.now (changes l.out);
  same_end : l.input.end ≡ length l.section;
}

abbrev pub decreases-units : goal.decreases-units
decreases-units l = length l.input.rest.now
