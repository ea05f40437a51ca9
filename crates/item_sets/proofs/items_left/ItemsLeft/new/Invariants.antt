use Rattle.std.proofs.Common.{◌≡◌, ℕ, ◌<◌, length, get_or, take}
use Rattle.item_sets.specs.ItemsLeft.{left_count}
use Rattle.item_sets.proofs.items_left.ItemsLeft.new.Given as goal

-- The items so far have their counts.
abbrev pub invariant-loop-is_left : goal.invariant-loop-is_left
invariant-loop-is_left l =
    (length l.before.items ≡ l.is_left-index) × (l.count ≡ left_count (take l.is_left-index l.fn.marks.items))
    × ((i : ℕ) → i < l.is_left-index → get_or l.before.items i 0 ≡ left_count (take i l.fn.marks.items))
