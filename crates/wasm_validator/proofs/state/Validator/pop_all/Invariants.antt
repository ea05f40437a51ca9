use Rattle.std.proofs.Common.{◌≡◌, ◌≤◌, length, take}
use Rattle.wasm_validator.specs.Steps.{setting_of, operand_stack, inner_of, pop_all_in, ReachesHeight}
use Rattle.wasm_validator.proofs.state.Validator.pop_all.Given as goal

abbrev pub invariant-loop-left : goal.invariant-loop-left
invariant-loop-left l = record {
  within : l.left ≤ length l.types;
  same : l.self ≡ record l.fn.self { operands = l.self.operands };
  reach : ReachesHeight l.fn.self → ReachesHeight l.self;
  pops : pop_all_in (setting_of l.fn.self) (inner_of l.fn.self) (take l.left l.types) (operand_stack l.self)
      ≡ pop_all_in (setting_of l.fn.self) (inner_of l.fn.self) l.types (operand_stack l.fn.self);
}

abbrev pub decreases-loop-left : goal.decreases-loop-left
decreases-loop-left l = l.left
