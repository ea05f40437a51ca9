use Rattle.std.proofs.Common.{◌≡◌, ◌≤◌, length, take}
use Rattle.wasm_validator.specs.Plain.{field_types}
use Rattle.wasm_validator.specs.Steps.{setting_of, operand_stack, inner_of, pop_all_in}
use Rattle.wasm_validator.proofs.state.Validator.pop_fields.Given as goal

abbrev pub invariant-loop-left : goal.invariant-loop-left
invariant-loop-left l = record {
  within : l.left ≤ length l.fields;
  same : l.self ≡ record l.fn.self { operands = l.self.operands };
  pops : pop_all_in (setting_of l.fn.self) (inner_of l.fn.self) (take l.left (field_types l.fields)) (operand_stack l.self)
      ≡ pop_all_in (setting_of l.fn.self) (inner_of l.fn.self) (field_types l.fields) (operand_stack l.fn.self);
}

abbrev pub decreases-loop-left : goal.decreases-loop-left
decreases-loop-left l = l.left
