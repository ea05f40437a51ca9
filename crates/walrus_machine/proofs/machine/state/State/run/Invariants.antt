-- The remaining turns lead to the same run as all of them.
use Rattle.std.proofs.Common.{◌≡◌, length}
use Rattle.wasm_body.specs.Machine as M
use Rattle.walrus_machine.specs.Tables.{place_from}
use Rattle.walrus_machine.specs.Tracing.{continued_run}
use Rattle.walrus_machine.proofs.machine.state.State.run.Given as goal

abbrev pub invariant-turns : goal.invariant-turns
invariant-turns l =
    continued_run l.fn.table l.fn.self (M.bounded_run length l.fn.turns (place_from l.fn.table 0)) ≡ continued_run l.table l.self (M.bounded_run length l.left (place_from l.table l.place))

abbrev pub decreases-turns : goal.decreases-turns
decreases-turns l = l.left
