use Rattle.std.proofs.Common.{◌≡◌, ℕ, List, ◌++◌, Some, length}
use Rattle.dwarf_expressions.specs.Expressions.{Simple, BeginWith, BeginsSimple}
use Rattle.dwarf_expressions.specs.Moving.{expression_all_of, moved_simple, WritesOfExpression}
use Rattle.dwarf_expressions.proofs.moving.move_simples.Given as goal

abbrev pub invariant-loop-rest : goal.invariant-loop-rest
invariant-loop-rest l =
    (ss news : List Simple) × (text : List ℕ) × BeginWith (BeginsSimple l.encoding) l.expression ss l.rest
    × (expression_all_of (moved_simple l.body) ss ≡ Some news)
    × (l.out.items ≡ l.fn.out.items ++ text)
    × WritesOfExpression (BeginsSimple l.encoding) text news

abbrev pub decreases-loop-rest : goal.decreases-loop-rest
decreases-loop-rest l = length l.rest
