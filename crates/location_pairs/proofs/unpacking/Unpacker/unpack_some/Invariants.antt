-- The pairs that are left are packed in the bytes that are left; and those that were read fit.
use Rattle.std.proofs.Common.{◌≡◌, ℕ, ◌+◌, List, ◌++◌, length}
use Rattle.std.specs.List.{AllByRecursion}
use Rattle.location_pairs.specs.PackedPairs.{FitPair, packed_after}
use Rattle.location_pairs.specs.PackedPieces.{HasLeft}
use Rattle.location_pairs.proofs.unpacking.Unpacker.unpack_some.Given as goal

abbrev pub invariant-loop : goal.invariant-loop
invariant-loop l = record {
  left : (ps : List (ℕ × ℕ)) → HasLeft l.fn.self ps →
      (rest : List (ℕ × ℕ)) × (l.pairs.items ++ rest ≡ ps) × (l.left ≡ packed_after l.last.location l.last.place rest) × AllByRecursion FitPair rest
      × (l.counter + length rest ≡ l.fn.self.count);
  count : length l.pairs.items ≡ l.counter;
  fit : AllByRecursion FitPair l.pairs.items;
}
