use Rattle.std.proofs.Common.{[], ap, ◌∙◌}
use Rattle.wasm_validator.specs.States.{operands_onto}
use Rattle.wasm_validator.proofs.Lists.{lower}
use Rattle.wasm_validator.proofs.state.Validator.set_unreachable.Goals as goal

pub returns-clause-operands : goal.returns-clause-operands
returns-clause-operands c = ap (λ l. operands_onto l []) c.truncate.ensures.items ∙ lower c.args.self.now.operands.items c.args.self.now.inner.height
