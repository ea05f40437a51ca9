use Rattle.wasm_module.proofs.ModuleLemmas.{extends_same}
use Rattle.wasm_module.proofs.parsed.ParsedModule.is_to_be_kept.Goals as goal

pub returns-else-takes : goal.returns-else-takes
returns-else-takes c = extends_same c.args.self.now
