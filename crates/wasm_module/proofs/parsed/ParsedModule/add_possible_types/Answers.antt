use Rattle.wasm_module.proofs.ModuleLemmas.{extends_then}
use Rattle.wasm_module.proofs.parsed.ParsedModule.add_possible_types.Goals as goal

pub returns-in-true-clause-extends : goal.returns-in-true-clause-extends
returns-in-true-clause-extends c = extends_then c.args.self.now c.add_entry_type.new.self c.add_handler_types.new.self c.in-Ok.ensures.extends c.add_handler_types.ensures.extends
