-- Location pairs that are packed or unpacked some at a time.
use Rattle.std.specs.Prelude.{◌≡◌, ◌≤◌, ◌+◌, ℕ, List, length, drop}
use Rattle.std.specs.List.{AllByRecursion}
use Rattle.location_pairs.specs.declared.packing.Packer.{Packer}
use Rattle.location_pairs.specs.declared.unpacking.Unpacker.{Unpacker}
use Rattle.location_pairs.specs.PackedPairs.{FitPair, packed_after, last_after}

-- At the end of these bytes, after room for a number, these pairs are packed so far.
pub record HasPacked (packer : Packer) (bytes : List ℕ) (pairs : List (ℕ × ℕ)) : Type 0 where
  pub has_room : packer.begin + 10 ≤ length bytes
  pub packed_are : drop (packer.begin + 10) bytes ≡ packed_after 0 0 pairs
  pub count_is : packer.count ≡ length pairs
  pub location_is : packer.last.location ≡ (last_after (0, 0) pairs).0
  pub place_is : packer.last.place ≡ (last_after (0, 0) pairs).1
  pub fit : AllByRecursion FitPair pairs

-- These pairs are still to be unpacked.
pub record HasLeft (unpacker : Unpacker) (pairs : List (ℕ × ℕ)) : Type 0 where
  pub left_are : unpacker.left.now ≡ packed_after unpacker.last.location unpacker.last.place pairs
  pub count_is : unpacker.count ≡ length pairs
  pub fit : AllByRecursion FitPair pairs
