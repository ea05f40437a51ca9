use Rattle.wasm_module.proofs.ModuleCodeLemmas.{module_read}
use Rattle.wasm_module.proofs.laws.law_code.Goals as goal

pub returns : goal.returns
returns c = λ m sections e p. (module_read c.args.bytes.now m sections e p).code
