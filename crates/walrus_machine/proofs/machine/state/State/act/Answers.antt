use Rattle.std.proofs.Common.{◌+◌, ◌≡◌, ℕ, List, ap, ◌∙◌}
use Rattle.wasm_body.specs.Control as C
use Rattle.wasm_body.specs.Machine as M
use Rattle.walrus_machine.specs.declared.machine.control.Action.{Action}
use Rattle.walrus_machine.specs.declared.machine.state.State.{State}
use Rattle.walrus_machine.specs.Controls.{action_meaning}
use Rattle.walrus_machine.specs.Tables.{place_from}
use Rattle.walrus_machine.specs.Tracing.{continued_run}
use Rattle.walrus_machine.proofs.machine.state.State.act.Goals as goal

acts : (again go : M.From ℕ) (cs : List C.Control) (s : State) (i : ℕ) {x y : Action} → x ≡ y →
    continued_run cs s (M.act again go (action_meaning x) i (place_from cs (i + 1))) ≡ continued_run cs s (M.act again go (action_meaning y) i (place_from cs (i + 1)))
acts again go cs s i e = ap (λ (x : Action). continued_run cs s (M.act again go (action_meaning x) i (place_from cs (i + 1)))) e

pub returns-in_ok-next-in-Branch : goal.returns-in_ok-next-in-Branch
returns-in_ok-next-in-Branch c = λ again go.
    acts again go c.args.table.now c.args.self.now c.args.position c.in-Branch.is
    ∙ (c.in_ok-executed-in-Branch.ensures c.args.table.now (M.branch again go c.in-Branch.n) ∙ c.in_ok-next-in-Branch.ensures again go)

pub returns-in_ok-executed-in-Return : goal.returns-in_ok-executed-in-Return
returns-in_ok-executed-in-Return c = λ again go.
    acts again go c.args.table.now c.args.self.now c.args.position c.in-Return.is ∙ c.in_ok-executed-in-Return.ensures c.args.table.now (λ ls o. M.ends M.Returned)

pub returns-in_ok-executed-in-Unreachable : goal.returns-in_ok-executed-in-Unreachable
returns-in_ok-executed-in-Unreachable c = λ again go.
    acts again go c.args.table.now c.args.self.now c.args.position c.in-Unreachable.is ∙ c.in_ok-executed-in-Unreachable.ensures c.args.table.now (λ ls o. M.ends M.Trapped)
