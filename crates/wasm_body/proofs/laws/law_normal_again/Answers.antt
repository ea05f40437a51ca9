use Rattle.wasm_body.proofs.NormalForm.NormalAgain.{normal_again}
use Rattle.wasm_body.proofs.laws.law_normal_again.Goals as goal

pub returns : goal.returns
returns c = normal_again
