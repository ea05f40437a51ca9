use Rattle.wasm_validator.proofs.Constructs.{give_done}
use Rattle.wasm_validator.proofs.state.Validator.give.Goals as goal

pub returns-clause-ok : goal.returns-clause-ok
returns-clause-ok c = give_done c.args.self.now c.leave.new.self c.push_list.new.self c.leave.result c.push_list.result c.requires c.leave.ensures.leaves c.push_list.ensures.ok c.push_list.ensures.same
