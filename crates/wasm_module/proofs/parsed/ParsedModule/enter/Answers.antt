use Rattle.wasm_module.proofs.ModuleLemmas.{extends_same}
use Rattle.wasm_module.proofs.parsed.ParsedModule.enter.Goals as goal

pub returns-in_err-types-clause-extends : goal.returns-in_err-types-clause-extends
returns-in_err-types-clause-extends c = extends_same c.args.self.now
