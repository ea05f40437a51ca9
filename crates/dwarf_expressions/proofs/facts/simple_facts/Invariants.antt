use Rattle.std.proofs.Common.{◌≡◌, List, length}
use Rattle.std.specs.List.{list_any}
use Rattle.dwarf_expressions.specs.Expressions.{Simple, simple_has, is_branch, expression_is_entry, BeginWith, BeginsSimple}
use Rattle.dwarf_expressions.proofs.facts.simple_facts.Given as goal

abbrev pub invariant-loop-rest : goal.invariant-loop-rest
invariant-loop-rest l =
    (ss : List Simple) × BeginWith (BeginsSimple l.encoding) l.expression ss l.rest
    × (l.facts.branches ≡ list_any (simple_has is_branch) ss)
    × (l.facts.names_entries ≡ list_any (simple_has expression_is_entry) ss)

abbrev pub decreases-loop-rest : goal.decreases-loop-rest
decreases-loop-rest l = length l.rest
