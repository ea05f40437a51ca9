-- What is appended so far, and then what the pairs that are left give, is all; if these fit, all do; and the last of them is the last.
use Rattle.std.proofs.Common.{◌≡◌, ◌++◌, length, take, drop}
use Rattle.std.specs.List.{AllByRecursion}
use Rattle.location_pairs.specs.PackedPairs.{FitPair, packed_after, last_after}
use Rattle.location_pairs.proofs.packing.pack_after.Given as goal

abbrev pub invariant-loop-pair : goal.invariant-loop-pair
invariant-loop-pair l = record {
  packed : l.packed.items ++ packed_after l.last.location l.last.place (drop l.pair-index l.pairs) ≡ l.fn.packed.items ++ packed_after l.fn.before.location l.fn.before.place l.pairs;
  fit : AllByRecursion FitPair (drop l.pair-index l.pairs) → AllByRecursion FitPair l.pairs;
  last : last_after (l.last.location, l.last.place) (drop l.pair-index l.pairs) ≡ last_after (l.fn.before.location, l.fn.before.place) l.pairs;
  unchanged : take (length l.fn.packed.items) l.packed.items ≡ l.fn.packed.items;
}
