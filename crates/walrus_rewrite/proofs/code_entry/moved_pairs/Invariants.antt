-- The pairs that were moved come before those that are left, moved.
use Rattle.std.proofs.Common.{◌≡◌, ◌++◌, ◌+◌, ◌≤◌, map, length}
use Rattle.std.specs.List.{AllByRecursion}
use Rattle.walrus_rewrite.specs.RawBodies.{moved_pair}
use Rattle.walrus_rewrite.proofs.code_entry.moved_pairs.Given as goal

abbrev pub invariant-left : goal.invariant-left
invariant-left l = (l.made.items ++ map (moved_pair l.fn.base) l.left ≡ map (moved_pair l.fn.base) l.fn.pairs) × AllByRecursion (λ p. l.fn.base + p.1 ≤ l.fn.end) l.left

abbrev pub decreases-left : goal.decreases-left
decreases-left l = length l.left
