use Rattle.wasm_module.proofs.ModuleLawLemmas.{one_spelling}
use Rattle.wasm_module.proofs.laws.law_module.Goals as goal

pub returns : goal.returns
returns c = λ m e. one_spelling c.args.bytes.now m e
