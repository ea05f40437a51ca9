use Rattle.wasm_validator.specs.Steps.{open_state}
use Rattle.wasm_validator.specs.Core.{given_in, ends_in}
use Rattle.wasm_validator.proofs.Constructs.{ends_given, given_results}
use Rattle.wasm_validator.proofs.state.Validator.end_construct.Goals as goal

pub returns-in-Ok-clause-goes_on : goal.returns-in-Ok-clause-goes_on
returns-in-Ok-clause-goes_on c =
    let v = c.args.self.now in
    let w = c.pop_control.new.self in
    given_results (ends_in v) (given_in w) (open_state c.give.new.self) c.give.result
    (ends_given v w c.requires.parted c.in-Ok.ensures.pops c.in-Ok.ensures.same) c.give.ensures.ok c.give.ensures.err
