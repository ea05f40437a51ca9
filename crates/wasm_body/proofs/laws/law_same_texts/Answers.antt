use Rattle.wasm_body.proofs.NormalForm.SameTexts.{same_texts}
use Rattle.wasm_body.proofs.laws.law_same_texts.Goals as goal

pub returns : goal.returns
returns g c = same_texts _ _
