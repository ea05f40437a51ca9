use Rattle.std.proofs.Common.{◌+◌, ◌∷◌, ◌∙◌}
use Rattle.wasm_body.specs.Machine as M
use Rattle.walrus_machine.specs.Controls.{construct_meaning}
use Rattle.walrus_machine.specs.Tables.{place_from}
use Rattle.walrus_machine.proofs.Tracing.{same_on, entered}
use Rattle.walrus_machine.proofs.machine.state.State.enter.Goals as goal

pub returns-in_ok-open_construct-in_default : goal.returns-in_ok-open_construct-in_default
returns-in_ok-open_construct-in_default c = λ again go.
    let cs = c.args.table.now in
    let i = c.args.position in
    let place = place_from cs (i + 1) in
    let construct = construct_meaning c.args.construct.now in
    same_on cs c.args.self.now _ _ (entered go c.args.construct.now c.in_default.not-If i place)
    ∙ (c.in_ok-executed-in_default.ensures cs (λ ls o. go place (M.label i construct place ∷ ls) o) ∙ c.in_ok-open_construct-in_default.ensures cs (go place))
