use Rattle.wasm_sections.specs.CodeSections.{body_at}
use Rattle.wasm_module.proofs.ModuleLemmas.{extends_then}
use Rattle.wasm_module.proofs.RefusalLemmas.{if_refused_then}
use Rattle.wasm_module.proofs.RewritingLemmas.{accepted_ok}
use Rattle.wasm_module.proofs.parsed.ParsedModule.check.Goals as goal

pub returns-in_ok-add_missing_types-in-Err-clause-extends : goal.returns-in_ok-add_missing_types-in-Err-clause-extends
returns-in_ok-add_missing_types-in-Err-clause-extends c =
    let before = extends_then c.args.self.now c.check_once.new.self c.add_missing_types.new.self c.check_once.ensures.extends c.add_missing_types.ensures.extends in
    extends_then c.args.self.now c.add_missing_types.new.self c.check_once-in-Err.new.self before c.check_once-in-Err.ensures.extends

pub returns-in_ok-add_missing_types-in-Err-clause-accepted : goal.returns-in_ok-add_missing_types-in-Err-clause-accepted
returns-in_ok-add_missing_types-in-Err-clause-accepted c =
    let before = extends_then c.args.self.now c.check_once.new.self c.add_missing_types.new.self c.check_once.ensures.extends c.add_missing_types.ensures.extends in
    accepted_ok c.args.self.now c.add_missing_types.new.self c.check_once-in-Err.new.self c.args.body.func (body_at c.args.body) c.check_once-in-Err.result before
    c.check_once-in-Err.ensures.accepted

pub returns-in_ok-add_missing_types-in-Err-clause-refused : goal.returns-in_ok-add_missing_types-in-Err-clause-refused
returns-in_ok-add_missing_types-in-Err-clause-refused c =
    let first = extends_then c.args.self.now c.check_once.new.self c.add_missing_types.new.self c.check_once.ensures.extends c.add_missing_types.ensures.extends in
    if_refused_then c.args.self.now c.add_missing_types.new.self c.check_once-in-Err.new.self c.args.body.func (body_at c.args.body) c.check_once-in-Err.result first
    c.check_once-in-Err.ensures.refused

pub returns-in_err-add_missing_types-in-Err-clause-extends : goal.returns-in_err-add_missing_types-in-Err-clause-extends
returns-in_err-add_missing_types-in-Err-clause-extends c =
    extends_then c.args.self.now c.check_once.new.self c.add_missing_types.new.self c.check_once.ensures.extends c.add_missing_types.ensures.extends
