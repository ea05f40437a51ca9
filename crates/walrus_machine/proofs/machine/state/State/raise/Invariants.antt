-- The exception is passed outwards, starting at the remaining labels.
use Rattle.std.proofs.Common.{◌≡◌, ℕ, length}
use Rattle.wasm_body.specs.Machine as M
use Rattle.walrus_machine.specs.Tracing.{continued_run}
use Rattle.walrus_machine.proofs.machine.state.State.raise.Given as goal

abbrev pub invariant-labels : goal.invariant-labels
invariant-labels l = (again go : M.From ℕ) →
    continued_run l.fn.table l.fn.self (λ ls o. M.raise again go l.fn.tags.keys ls o 0) ≡ continued_run l.table l.self (λ ls o. M.raise again go l.tags.keys ls o 0)

abbrev pub decreases-labels : goal.decreases-labels
decreases-labels l = length l.self.labels.items
