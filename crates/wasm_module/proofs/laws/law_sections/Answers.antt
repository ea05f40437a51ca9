use Rattle.wasm_module.proofs.ModuleCodeLemmas.{of_sections}
use Rattle.wasm_module.proofs.laws.law_sections.Goals as goal

pub returns : goal.returns
returns c = λ m sections e p. of_sections c.args.bytes.now m sections e p
