use Rattle.std.proofs.Common.{◌≡◌, length}
use Rattle.wasm_operators.specs.Lists.{clause_eq}
use Rattle.std.specs.Cmp.Lexicographic.{pointwise}
use Rattle.wasm_operators.proofs.catch_list.are_same.Given as goal

abbrev pub invariant-loop-x : goal.invariant-loop-x
invariant-loop-x l = pointwise clause_eq l.a l.b ≡ pointwise clause_eq l.initial.a l.initial.b

abbrev pub decreases-loop-x : goal.decreases-loop-x
decreases-loop-x l = length l.a
