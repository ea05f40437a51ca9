use Rattle.std.proofs.Common.{◌≡◌, ◌<◌, ◌≤◌, ◌-◌, ℕ, false, length, slice_index_or}
use Rattle.dwarf_info.specs.declared.moved.CodeRange.{CodeRange}
use Rattle.dwarf.specs.AddressRanges.{is_range_of}
use Rattle.dwarf.proofs.address_ranges.has_code.Given as goal

-- none of those before the place is the range, and those from there on begin at its first address or after it
abbrev pub invariant-same : goal.invariant-same
invariant-same l = record {
  none : (k : ℕ) (d : CodeRange) → k < l.at → is_range_of l.range.unit l.range.begin l.range.length (slice_index_or l.code k d) ≡ false;
  later : (k : ℕ) (d : CodeRange) → l.at ≤ k → k < length l.code → l.range.begin ≤ (slice_index_or l.code k d).begin;
}

abbrev pub decreases-same : goal.decreases-same
decreases-same l = length l.code - l.at
