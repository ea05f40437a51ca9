-- If the numbers of the remaining clauses fit, those of all clauses do.
use Rattle.std.proofs.Common.{length}
use Rattle.std.specs.List.{AllByRecursion}
use Rattle.wasm_operators.specs.Fitting.{FitsClause}
use Rattle.wasm_encode.proofs.law.law_clauses.Given as goal

abbrev pub invariant-clauses : goal.invariant-clauses
invariant-clauses l = AllByRecursion FitsClause l.left → AllByRecursion FitsClause l.fn.clauses

abbrev pub decreases-clauses : goal.decreases-clauses
decreases-clauses l = length l.left
