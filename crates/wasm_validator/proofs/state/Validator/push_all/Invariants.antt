use Rattle.std.proofs.Common.{◌≡◌, drop}
use Rattle.wasm_validator.specs.Steps.{setting_of, operand_stack, push_each_in, ReachesHeight}
use Rattle.wasm_validator.proofs.state.Validator.push_all.Given as goal

abbrev pub invariant-loop-ty : goal.invariant-loop-ty
invariant-loop-ty l = record {
  same : l.self ≡ record l.fn.self { operands = l.self.operands };
  reach : ReachesHeight l.fn.self → ReachesHeight l.self;
  pushes : push_each_in (setting_of l.fn.self) (drop l.ty-index l.types) (operand_stack l.self)
      ≡ push_each_in (setting_of l.fn.self) l.types (operand_stack l.fn.self);
}
