-- The listed depths come before those of the remaining labels.
use Rattle.std.proofs.Common.{◌≡◌, ◌++◌, Ok}
use Rattle.wasm_numbers.specs.Results.{◌>>=◌, each}
use Rattle.wasm_renumber.proofs.lists.list_labels.Given as goal

abbrev pub invariant-targets : goal.invariant-targets
invariant-targets g l =
    let label = (g.T.Translate.changes l.with).label in
    (goal.iterator-targets g).can_next l.targets × (goal.iterator-targets g).is_finite l.targets × ((each label l.targets >>= λ ns. Ok (l.labels.items ++ ns)) ≡ each label l.table.0)
