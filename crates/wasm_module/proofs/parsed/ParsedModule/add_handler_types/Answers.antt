use Rattle.wasm_module.proofs.ModuleLemmas.{extends_same, extends_then}
use Rattle.wasm_module.proofs.parsed.ParsedModule.add_handler_types.Goals as goal

pub operators-init : goal.operators-init
operators-init c = extends_same c.args.self.now

pub returns-then-is_err-clause-extends : goal.returns-then-is_err-clause-extends
returns-then-is_err-clause-extends c = extends_same c.args.self.now

pub operators-preserved : goal.operators-preserved
operators-preserved c = extends_then c.args.self.now c.operators.self c.add_type_at.new.self c.operators.invariant c.add_type_at.ensures.extends

pub returns-in-Err-clause-extends : goal.returns-in-Err-clause-extends
returns-in-Err-clause-extends c = extends_then c.args.self.now c.operators.self c.add_type_at.new.self c.operators.invariant c.add_type_at.ensures.extends
