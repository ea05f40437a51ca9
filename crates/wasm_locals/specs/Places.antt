-- A list of numbers beside the place of each.
use Rattle.std.specs.Prelude.{◌≡◌, ℕ, List, Bool, false, Option, Some, None, nat_eq, slice_get}

abbrev pub holds_place : ℕ → Option ℕ → Bool
holds_place n None = false
holds_place n (Some found) = nat_eq found n

abbrev pub holds_at : List ℕ → ℕ → Option ℕ → Bool
holds_at list n None = false
holds_at list n (Some place) = holds_place n (slice_get list place)

-- the list has the number at the place that is kept for it
abbrev pub is_placed : (places list : List ℕ) → ℕ → Bool
is_placed places list n = holds_at list n (slice_get places n)

-- the place that is kept for each number of the list is the one at which it is
abbrev pub Lead : (places list : List ℕ) → Type 0
Lead places list = (k n : ℕ) → slice_get list k ≡ Some n → slice_get places n ≡ Some k

-- a place that was there stays
abbrev pub KeepsPlaces : (places more : List ℕ) → Type 0
KeepsPlaces places more = (n place : ℕ) → slice_get places n ≡ Some place → slice_get more n ≡ Some place
