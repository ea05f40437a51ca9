-- The listed clauses come before the remaining ones.
use Rattle.std.proofs.Common.{◌≡◌, ◌++◌, Ok}
use Rattle.wasm_numbers.specs.Results.{◌>>=◌, each}
use Rattle.wasm_renumber.specs.Changes.{changed_clause}
use Rattle.wasm_renumber.proofs.lists.list_clauses.Given as goal

abbrev pub invariant-clauses : goal.invariant-clauses
invariant-clauses g l =
    let clause = changed_clause (g.T.Translate.changes l.with) in
    (goal.iterator-clauses g).can_next l.raw × (goal.iterator-clauses g).is_finite l.raw × ((each clause l.raw >>= λ cs. Ok (l.clauses.items ++ cs)) ≡ each clause l.catches)
