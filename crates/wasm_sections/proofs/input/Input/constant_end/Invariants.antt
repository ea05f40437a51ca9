use Rattle.std.proofs.Common.{◌≡◌, length}
use Rattle.wasm_sections.proofs.ConstantLemmas.{OperatorsLeft}
use Rattle.wasm_sections.proofs.input.Input.constant_end.Given as goal

abbrev pub invariant-operators : goal.invariant-operators
invariant-operators l = record {
  same_end : l.self.end ≡ l.initial.self.end;
  left : OperatorsLeft l.initial.self.end l.initial.self.rest.now l.self.rest.now;
}

abbrev pub decreases-operators : goal.decreases-operators
decreases-operators l = length l.self.rest.now
