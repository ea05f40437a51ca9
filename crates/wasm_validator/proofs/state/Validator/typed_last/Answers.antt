use Rattle.wasm_validator.proofs.PlainOperators.{last_done}
use Rattle.wasm_validator.proofs.state.Validator.typed_last.Goals as goal

pub returns-in-Ok-clause-plain : goal.returns-in-Ok-clause-plain
returns-in-Ok-clause-plain c =
    last_done c.args.self.now c.pop.new.self c.apply.new.self c.args.takes.now c.args.last c.args.gives.now c.apply.result c.in-Ok.ensures.pops c.pop.ensures.same
    c.apply.ensures.typed c.apply.ensures.same
