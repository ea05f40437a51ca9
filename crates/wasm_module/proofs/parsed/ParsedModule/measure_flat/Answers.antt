use Rattle.wasm_sections.specs.CodeSections.{body_at}
use Rattle.wasm_module.proofs.ModuleLemmas.{extends_then}
use Rattle.wasm_module.proofs.RefusalLemmas.{if_not_rewritten_then}
use Rattle.wasm_module.proofs.RewritingLemmas.{measured_then}
use Rattle.wasm_module.proofs.parsed.ParsedModule.measure_flat.Goals as goal

pub returns-in_ok-add_missing_types-in-Err-clause-extends : goal.returns-in_ok-add_missing_types-in-Err-clause-extends
returns-in_ok-add_missing_types-in-Err-clause-extends c =
    let first = extends_then c.args.self.now c.measure_flat_once.new.self c.add_missing_types.new.self c.measure_flat_once.ensures.extends c.add_missing_types.ensures.extends in
    extends_then c.args.self.now c.add_missing_types.new.self c.measure_flat_once-in-Err.new.self first c.measure_flat_once-in-Err.ensures.extends

pub returns-in_ok-add_missing_types-in-Err-clause-measured : goal.returns-in_ok-add_missing_types-in-Err-clause-measured
returns-in_ok-add_missing_types-in-Err-clause-measured c =
    let first = extends_then c.args.self.now c.measure_flat_once.new.self c.add_missing_types.new.self c.measure_flat_once.ensures.extends c.add_missing_types.ensures.extends in
    measured_then c.args.self.now c.add_missing_types.new.self c.args.body.func (body_at c.args.body) c.measure_flat_once-in-Err.result first
    c.measure_flat_once-in-Err.ensures.measured

pub returns-in_ok-add_missing_types-in-Err-clause-refused : goal.returns-in_ok-add_missing_types-in-Err-clause-refused
returns-in_ok-add_missing_types-in-Err-clause-refused c =
    let first = extends_then c.args.self.now c.measure_flat_once.new.self c.add_missing_types.new.self c.measure_flat_once.ensures.extends c.add_missing_types.ensures.extends in
    if_not_rewritten_then c.args.self.now c.add_missing_types.new.self c.measure_flat_once-in-Err.new.self c.args.body.func (body_at c.args.body) c.measure_flat_once-in-Err.result first
    c.measure_flat_once-in-Err.ensures.refused

pub returns-in_err-add_missing_types-in-Err-clause-extends : goal.returns-in_err-add_missing_types-in-Err-clause-extends
returns-in_err-add_missing_types-in-Err-clause-extends c =
    extends_then c.args.self.now c.measure_flat_once.new.self c.add_missing_types.new.self c.measure_flat_once.ensures.extends c.add_missing_types.ensures.extends
