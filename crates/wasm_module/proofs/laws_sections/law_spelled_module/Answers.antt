use Rattle.wasm_module.proofs.SpelledModuleLemmas.{spelled_module}
use Rattle.wasm_module.proofs.laws_sections.law_spelled_module.Goals as goal

pub returns : goal.returns
returns c = λ m sections p is. spelled_module c.args.bytes.now m sections p is
