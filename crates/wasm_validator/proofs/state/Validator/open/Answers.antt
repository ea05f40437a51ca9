use Rattle.std.proofs.Common.{[], length, ap, ◌∙◌}
use Rattle.wasm_validator.specs.States.{frames_onto}
use Rattle.wasm_validator.specs.Steps.{arguments_of}
use Rattle.wasm_validator.proofs.Frames.{opens_from, frames_last}
use Rattle.wasm_validator.proofs.state.Validator.open.Goals as goal

pub returns-in-Ok-clause-ok : goal.returns-in-Ok-clause-ok
returns-in-Ok-clause-ok c =
    let v = c.args.self.now in
    let k = v.context.now in
    let initial = length (arguments_of v) in
    opens_from v (record v { outer = c.push.new.self }) c.enter.new.self c.args.opened c.args.starts c.args.ends c.enter.result
    (ap (λ l. frames_onto k initial l []) c.in-Ok.ensures.items ∙ frames_last k initial v.outer.items v.inner [])
    c.enter.ensures.ok
