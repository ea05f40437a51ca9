-- The remaining types decide.
use Rattle.std.proofs.Common.{◌≡◌, length}
use Rattle.walrus_ir.specs.Types.{same_types}
use Rattle.walrus_numbering.proofs.balance.are_same_lists.Given as goal

abbrev pub invariant-left : goal.invariant-left
invariant-left l = same_types l.left l.right ≡ same_types l.fn.a l.fn.b

abbrev pub decreases-left : goal.decreases-left
decreases-left l = length l.left
