use Rattle.std.proofs.Common.{◌∙◌, ap}
use Rattle.wasm_body.specs.Machine as M
use Rattle.walrus_machine.specs.Tracing.{caught_in}
use Rattle.walrus_machine.proofs.Tracing.{rethrown}
use Rattle.walrus_machine.proofs.machine.state.State.rethrow.Goals as goal

pub returns-in-None : goal.returns-in-None
returns-in-None c = λ again go.
    let cs = c.args.table.now in
    c.in_ok-executed.ensures cs (λ ls o. M.rethrow (λ tags. M.raise again go tags ls o 0) (M.caught_at ls c.args.n))
    ∙ rethrown again go cs c.executed.new.self c.args.n _ (c.caught_at.ensures cs ∙ ap caught_in c.in-None.is)

pub returns-in_ok-next-in-Some : goal.returns-in_ok-next-in-Some
returns-in_ok-next-in-Some c = λ again go.
    let cs = c.args.table.now in
    c.in_ok-executed.ensures cs (λ ls o. M.rethrow (λ tags. M.raise again go tags ls o 0) (M.caught_at ls c.args.n))
    ∙ (rethrown again go cs c.executed.new.self c.args.n _ (c.caught_at.ensures cs ∙ ap caught_in c.in-Some.is) ∙ c.in_ok-next-in-Some.ensures again go)
