use Rattle.wasm_validation.proofs.CheckedSteps.{same_steps}
use Rattle.wasm_validation.proofs.laws.law_same_steps.Goals as goal

pub returns : goal.returns
returns c = same_steps
