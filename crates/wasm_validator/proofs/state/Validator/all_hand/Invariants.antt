use Rattle.std.proofs.Common.{◌≡◌, length}
use Rattle.wasm_validator.specs.Steps.{setting_of}
use Rattle.wasm_validator.specs.Core.{open_frames, clauses_step}
use Rattle.wasm_validator.proofs.state.Validator.all_hand.Given as goal

abbrev pub invariant-loop-clause : goal.invariant-loop-clause
invariant-loop-clause l = clauses_step (setting_of l.self) (open_frames l.self) l.left ≡ clauses_step (setting_of l.self) (open_frames l.self) l.catches

abbrev pub decreases-loop-clause : goal.decreases-loop-clause
decreases-loop-clause l = length l.left
