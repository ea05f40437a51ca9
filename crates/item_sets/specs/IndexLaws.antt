-- New indices ascend, without gaps.
use Rattle.std.specs.Prelude.{◌≡◌, ◌<◌, ◌↔◌, ℕ, Bool, List, Some}
use Rattle.item_sets.specs.ItemsLeft.{left_count, index_left}

-- The order of items stays.
abbrev pub InOrder : Type 0
InOrder = (marks : List Bool) (i j m n : ℕ) → index_left marks i ≡ Some m → index_left marks j ≡ Some n → i < j → m < n

-- A number is the new index of an item exactly if it is below the count of those that are left.
abbrev pub WithoutGaps : Type 0
WithoutGaps = (marks : List Bool) (n : ℕ) → ((i : ℕ) × (index_left marks i ≡ Some n)) ↔ (n < left_count marks)
