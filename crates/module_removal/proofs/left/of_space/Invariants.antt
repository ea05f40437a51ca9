use Rattle.std.proofs.Common.{◌≡◌, ℕ, ◌+◌, ◌<◌, length}
use Rattle.item_sets.specs.ItemsLeft.{is_left}
use Rattle.module_removal.specs.ItemNumbers.{first_number}
use Rattle.module_removal.proofs.left.of_space.Given as goal

abbrev pub invariant-items : goal.invariant-items
invariant-items l = record {
  count : length l.left.items ≡ l.index;
  each : (i : ℕ) → i < l.index → is_left l.left.items i ≡ is_left l.marks (first_number l.counts l.fn.space + i);
}
