-- If the remaining lanes are bytes, all lanes are.
use Rattle.std.proofs.Common.{length}
use Rattle.std.specs.List.{AllByRecursion}
use Rattle.wasm_operators.specs.Fitting.{FitsLane}
use Rattle.wasm_encode.proofs.law.law_lanes.Given as goal

abbrev pub invariant-lanes : goal.invariant-lanes
invariant-lanes l = AllByRecursion FitsLane l.left → AllByRecursion FitsLane l.fn.lanes

abbrev pub decreases-lanes : goal.decreases-lanes
decreases-lanes l = length l.left
