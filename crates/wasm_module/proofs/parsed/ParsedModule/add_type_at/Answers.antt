use Rattle.wasm_module.proofs.ModuleLemmas.{extends_same}
use Rattle.wasm_module.proofs.parsed.ParsedModule.add_type_at.Goals as goal

pub returns-in-Some-clause-extends : goal.returns-in-Some-clause-extends
returns-in-Some-clause-extends c = extends_same c.args.self.now

pub returns-in_default-copied-clause-extends : goal.returns-in_default-copied-clause-extends
returns-in_default-copied-clause-extends c = extends_same c.args.self.now

pub returns-in_default-operator-clause-extends : goal.returns-in_default-operator-clause-extends
returns-in_default-operator-clause-extends c = extends_same c.args.self.now

pub returns-in-End-clause-extends : goal.returns-in-End-clause-extends
returns-in-End-clause-extends c = extends_same c.args.self.now

pub returns-in_err-push-clause-extends : goal.returns-in_err-push-clause-extends
returns-in_err-push-clause-extends c = extends_same c.args.self.now
