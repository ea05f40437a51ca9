use Rattle.std.proofs.Common.{◌≡◌, ℕ, List, ◌++◌, Some, length}
use Rattle.dwarf_expressions.specs.Expressions.{ExpressionOperation, BeginWith, Begins}
use Rattle.dwarf_expressions.specs.Moving.{expression_moved, WritesOfExpression}
use Rattle.dwarf_expressions.proofs.moving.move_operations.Given as goal

abbrev pub invariant-loop-rest : goal.invariant-loop-rest
invariant-loop-rest l =
    (os news : List ExpressionOperation) × (text : List ℕ) × BeginWith (Begins l.encoding) l.expression os l.rest
    × (expression_moved l.body os ≡ Some news)
    × (l.out.items ≡ l.fn.out.items ++ text)
    × WritesOfExpression (Begins l.encoding) text news

abbrev pub decreases-loop-rest : goal.decreases-loop-rest
decreases-loop-rest l = length l.rest
