-- The remaining steps lead to the same run as all of them.
use Rattle.std.proofs.Common.{◌≡◌, ℕ, length}
use Rattle.wasm_body.specs.Machine as M
use Rattle.walrus_machine.specs.Tables.{place_from}
use Rattle.walrus_machine.specs.Tracing.{continued_run}
use Rattle.walrus_machine.proofs.machine.state.State.turn.Given as goal

abbrev pub invariant-steps : goal.invariant-steps
invariant-steps l = (again : M.From ℕ) →
    continued_run l.fn.table l.fn.self (M.straight again (length (place_from l.fn.table l.fn.from)) (place_from l.fn.table l.fn.from))
    ≡ continued_run l.table l.self (M.straight again l.left (place_from l.table l.place))

abbrev pub decreases-steps : goal.decreases-steps
decreases-steps l = l.left
