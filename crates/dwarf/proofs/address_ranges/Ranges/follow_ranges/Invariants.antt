use Rattle.std.proofs.Common.{◌≡◌, length}
use Rattle.dwarf_bytes.specs.Patches.{changes}
use Rattle.dwarf.specs.AddressRanges.{range_followed}
use Rattle.dwarf.specs.RangesViews.{ranges_following}
use Rattle.dwarf.proofs.Repeating.{ReplacedSoFar}
use Rattle.dwarf.proofs.address_ranges.Ranges.follow_ranges.Given as goal

abbrev pub invariant-each : goal.invariant-each
invariant-each l = record {
  so_far : ReplacedSoFar (range_followed (ranges_following l.self) l.unit l.size l.fn.input.end) l.fn.input.rest.now (changes l.fn.out) l.input.rest.now (changes l.out);
  same_end : l.input.end ≡ l.fn.input.end;
}

abbrev pub decreases-each : goal.decreases-each
decreases-each l = length l.input.rest.now
