use Rattle.std.proofs.Common.{ap, sym, ◌∙◌}
use Rattle.wasm_body.specs.Machine as M
use Rattle.walrus_machine.specs.Tracing.{continued_run}
use Rattle.walrus_machine.proofs.machine.state.State.leave.Goals as goal

pub returns-in-None : goal.returns-in-None
returns-in-None c = λ again go. c.in-None.ensures.none c.args.table.now (M.leave go)

pub returns-in-Some : goal.returns-in-Some
returns-in-Some c = λ again go.
    let cs = c.args.table.now in
    c.in-Some.ensures.some cs (M.leave go) ∙ ap (λ place. continued_run cs c.leave_label.new.self (λ ls o. go place ls o)) (sym c.after_closer.ensures)
