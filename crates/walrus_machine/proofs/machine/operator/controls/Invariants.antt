-- What the operators so far do to the control.
use Rattle.std.proofs.Common.{◌≡◌, map, take}
use Rattle.wasm_body.specs.Control.{control_of}
use Rattle.walrus_machine.specs.Controls.{control_meaning}
use Rattle.walrus_machine.specs.NamedOperators.{named_operation}
use Rattle.walrus_machine.proofs.machine.operator.controls.Given as goal

abbrev pub invariant-operators : goal.invariant-operators
invariant-operators l = map control_meaning l.controls.items ≡ map control_of (map named_operation (take l.op-index l.ops))
