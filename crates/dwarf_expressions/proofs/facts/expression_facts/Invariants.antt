use Rattle.std.proofs.Common.{◌≡◌, List, length}
use Rattle.std.specs.List.{list_any}
use Rattle.dwarf_expressions.specs.Expressions.{ExpressionOperation, expression_has, is_branch, expression_is_entry, BeginWith, Begins}
use Rattle.dwarf_expressions.proofs.facts.expression_facts.Given as goal

abbrev pub invariant-loop-rest : goal.invariant-loop-rest
invariant-loop-rest l =
    (os : List ExpressionOperation) × BeginWith (Begins l.encoding) l.expression os l.rest
    × (l.facts.branches ≡ list_any (expression_has is_branch) os)
    × (l.facts.names_entries ≡ list_any (expression_has expression_is_entry) os)

abbrev pub decreases-loop-rest : goal.decreases-loop-rest
decreases-loop-rest l = length l.rest
