use Rattle.std.proofs.Common.{◌≡◌, length, nat_eq}
use Rattle.std.specs.Cmp.Lexicographic.{pointwise}
use Rattle.wasm_operators.proofs.branch_table.are_same.Given as goal

abbrev pub invariant-loop-x : goal.invariant-loop-x
invariant-loop-x l = pointwise nat_eq l.a l.b ≡ pointwise nat_eq l.initial.a l.initial.b

abbrev pub decreases-loop-x : goal.decreases-loop-x
decreases-loop-x l = length l.a
