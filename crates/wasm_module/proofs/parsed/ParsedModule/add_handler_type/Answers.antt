use Rattle.wasm_module.proofs.ModuleLemmas.{extends_same}
use Rattle.wasm_module.proofs.parsed.ParsedModule.add_handler_type.Goals as goal

pub returns-in_err-results-clause-extends : goal.returns-in_err-results-clause-extends
returns-in_err-results-clause-extends c = extends_same c.args.self.now
