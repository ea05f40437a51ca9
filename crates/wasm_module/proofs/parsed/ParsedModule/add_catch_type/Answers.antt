use Rattle.wasm_module.proofs.ModuleLemmas.{extends_same}
use Rattle.wasm_module.proofs.parsed.ParsedModule.add_catch_type.Goals as goal

pub returns-in_err-caught-clause-extends : goal.returns-in_err-caught-clause-extends
returns-in_err-caught-clause-extends c = extends_same c.args.self.now
