use Rattle.std.proofs.Common.{◌≡◌, ◌-◌, length, sym, ap, ◌∙◌, arith}
use Rattle.wasm_body.specs.Machine as M
use Rattle.walrus_machine.specs.Controls.{control_meaning}
use Rattle.walrus_machine.specs.Tables.{place_from}
use Rattle.walrus_machine.specs.Tracing.{continued_by, continued_run}
use Rattle.walrus_machine.proofs.Tables.{within, length_left}
use Rattle.walrus_machine.proofs.Tracing.{same_on, one_step, no_step}
use Rattle.walrus_machine.proofs.machine.state.State.turn.Goals as goal

pub steps-init : goal.steps-init
steps-init c = λ again.
    let cs = c.args.table.now in
    let from = c.args.from in
    let count : length (place_from cs from) ≡ c.saturating_sub-left.result = omega (arith, length_left cs from, c.saturating_sub-left.ensures, c.len.ensures) in
    ap (λ n. continued_run cs c.args.self.now (M.straight again n (place_from cs from))) count

pub returns-in_default : goal.returns-in_default
returns-in_default c = λ again.
    let cs = c.args.table.now in
    c.steps.invariant again ∙ same_on cs c.steps.self _ _ (λ ls o. no_step again cs c.steps.place ls o c.steps.left (sym c.in_default.ensures.control))

pub step-requires : goal.step-requires
step-requires c = omega (arith, within c.args.table.now c.steps.place (control_meaning c.in-Some.control.now) (sym c.in-Some.ensures.control), c.in-Some.ensures.fits)

pub returns-in-Turn : goal.returns-in-Turn
returns-in-Turn c = λ again.
    let cs = c.args.table.now in
    let go = M.straight again (c.steps.left - 1) in
    c.steps.invariant again
    ∙ (same_on cs c.steps.self _ _ (λ ls o. one_step again cs c.steps.place ls o c.steps.left (control_meaning c.in-Some.control.now) c.steps-test.true (sym c.in-Some.ensures.control))
    ∙ (c.in_ok-next.ensures again go ∙ ap (λ next. continued_run cs c.step.new.self (continued_by again go cs next)) c.in-Turn.is))

pub returns-in-Finished : goal.returns-in-Finished
returns-in-Finished c = λ again.
    let cs = c.args.table.now in
    let go = M.straight again (c.steps.left - 1) in
    c.steps.invariant again
    ∙ (same_on cs c.steps.self _ _ (λ ls o. one_step again cs c.steps.place ls o c.steps.left (control_meaning c.in-Some.control.now) c.steps-test.true (sym c.in-Some.ensures.control))
    ∙ (c.in_ok-next.ensures again go ∙ ap (λ next. continued_run cs c.step.new.self (continued_by again go cs next)) c.in-Finished.is))

pub steps-preserved : goal.steps-preserved
steps-preserved c = λ again.
    let cs = c.args.table.now in
    let go = M.straight again (c.steps.left - 1) in
    c.steps.invariant again
    ∙ (same_on cs c.steps.self _ _ (λ ls o. one_step again cs c.steps.place ls o c.steps.left (control_meaning c.in-Some.control.now) c.steps-test.true (sym c.in-Some.ensures.control))
    ∙ (c.in_ok-next.ensures again go ∙ ap (λ next. continued_run cs c.step.new.self (continued_by again go cs next)) c.in-Continue.is))
