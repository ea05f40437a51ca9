use Rattle.std.proofs.Common.{◌≡◌, ◌≤◌, replicate}
use Rattle.wasm_validator.specs.Steps.{setting_of, operand_stack, inner_of, pop_each_in, pop_all_in}
use Rattle.wasm_validator.proofs.state.Validator.pop_same.Given as goal

abbrev pub invariant-loop-left : goal.invariant-loop-left
invariant-loop-left l = record {
  within : l.left ≤ l.count;
  same : l.self ≡ record l.fn.self { operands = l.self.operands };
  pops : pop_each_in (setting_of l.fn.self) (inner_of l.fn.self) (replicate l.left l.ty) (operand_stack l.self)
      ≡ pop_all_in (setting_of l.fn.self) (inner_of l.fn.self) (replicate l.count l.ty) (operand_stack l.fn.self);
}

abbrev pub decreases-loop-left : goal.decreases-loop-left
decreases-loop-left l = l.left
