use Rattle.std.proofs.Common.{◌≡◌, length}
use Rattle.dwarf_bytes.specs.Patches.{changes}
use Rattle.dwarf.specs.IndexEntries.{unit_offset_followed}
use Rattle.dwarf.proofs.Repeating.{ReplacedSoFar}
use Rattle.dwarf.proofs.name_index.follow_units.Given as goal

abbrev pub invariant-units : goal.invariant-units
invariant-units l = record {
  so_far : ReplacedSoFar (unit_offset_followed (changes l.info) l.size l.fn.list.end) l.fn.list.rest.now (changes l.fn.out) l.left.rest.now (changes l.out);
  same_end : l.left.end ≡ l.fn.list.end;
}

abbrev pub decreases-units : goal.decreases-units
decreases-units l = length l.left.rest.now
