use Rattle.std.proofs.Common.{◌≡◌, [], length}
use Rattle.dwarf_bytes.specs.Patches.{changes}
use Rattle.dwarf.specs.AddressRanges.{ranges_table_followed}
use Rattle.dwarf.specs.RangesViews.{ranges_following}
use Rattle.dwarf.proofs.Repeating.{ReplacedSoFar}
use Rattle.dwarf.proofs.address_ranges.Ranges.follow_tables.Given as goal

abbrev pub invariant-tables : goal.invariant-tables
invariant-tables l = record {
  so_far : ReplacedSoFar (ranges_table_followed (ranges_following l.self) (length l.section)) l.section [] l.input.rest.now (changes l.out);
  same_end : l.input.end ≡ length l.section;
}

abbrev pub decreases-tables : goal.decreases-tables
decreases-tables l = length l.input.rest.now
