use Rattle.wasm_module.proofs.ModuleLemmas.{extends_then}
use Rattle.wasm_module.proofs.parsed.ParsedModule.add_missing_types.Goals as goal

pub returns-in-Ok-clause-extends : goal.returns-in-Ok-clause-extends
returns-in-Ok-clause-extends c = extends_then c.args.self.now c.add_entry_type.new.self c.add_handler_types.new.self c.add_entry_type.ensures.extends c.add_handler_types.ensures.extends
