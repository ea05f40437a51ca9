use Rattle.std.proofs.Common.{◌≡◌, ◌≤◌, [], length, take}
use Rattle.wasm_validator.specs.States.{operands_onto}
use Rattle.wasm_validator.specs.Core.{holds_in, holds_from}
use Rattle.wasm_validator.proofs.state.Validator.holds.Given as goal

abbrev pub invariant-loop-left : goal.invariant-loop-left
invariant-loop-left l = record {
  within : l.left ≤ length l.types;
  above : l.self.inner.height ≤ l.height;
  below : l.height ≤ length l.self.operands.items;
  same : holds_from l.self (operands_onto (take l.height l.self.operands.items) []) (take l.left l.types) ≡ holds_in l.self l.types;
}

abbrev pub decreases-loop-left : goal.decreases-loop-left
decreases-loop-left l = l.left
