use Rattle.std.proofs.Common.{◌+◌, ap, sym, ◌∙◌}
use Rattle.wasm_body.specs.Machine as M
use Rattle.walrus_machine.specs.declared.machine.control.Construct.{Construct}
use Rattle.walrus_machine.specs.Controls.{construct_meaning}
use Rattle.walrus_machine.specs.Tables.{place_from}
use Rattle.walrus_machine.specs.Tracing.{label_of, continued_run}
use Rattle.walrus_machine.proofs.Tracing.{same_on, inner_branch, arrive_out}
use Rattle.walrus_machine.proofs.machine.state.State.branch.Goals as goal

pub returns-in_default : goal.returns-in_default
returns-in_default c = λ again go.
    let cs = c.args.table.now in
    same_on cs c.args.self.now _ _ (inner_branch again go c.args.n) ∙ (c.close.ensures.closed cs (M.branch again go 0) ∙ c.in_default.ensures.none cs (M.branch again go 0))

pub returns-in_ok-open-in-Loop : goal.returns-in_ok-open-in-Loop
returns-in_ok-open-in-Loop c = λ again go.
    let cs = c.args.table.now in
    let l = c.in-Some.label in
    same_on cs c.args.self.now _ _ (inner_branch again go c.args.n)
    ∙ (c.close.ensures.closed cs (M.branch again go 0)
    ∙ (c.in-Some.ensures.some cs (M.branch again go 0)
    ∙ (ap (λ (x : Construct). continued_run cs c.leave_label.new.self (λ ls o. M.arrive again go (construct_meaning x) (label_of cs l) ls o)) c.in-Loop.is
    ∙ c.in_ok-open-in-Loop.ensures cs (again (place_from cs (l.opener + 1))))))

pub returns-in_default-construct : goal.returns-in_default-construct
returns-in_default-construct c = λ again go.
    let cs = c.args.table.now in
    let l = c.in-Some.label in
    same_on cs c.args.self.now _ _ (inner_branch again go c.args.n)
    ∙ (c.close.ensures.closed cs (M.branch again go 0)
    ∙ (c.in-Some.ensures.some cs (M.branch again go 0)
    ∙ (same_on cs c.leave_label.new.self _ _ (arrive_out again go l.construct c.in_default-construct.not-Loop (label_of cs l))
    ∙ ap (λ place. continued_run cs c.leave_label.new.self (λ ls o. go place ls o)) (sym c.after_closer.ensures))))
