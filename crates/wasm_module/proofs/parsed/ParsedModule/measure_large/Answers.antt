use Rattle.wasm_module.proofs.KeptLemmas.{on_then}
use Rattle.wasm_module.proofs.ModuleLemmas.{extends_then, then_ok}
use Rattle.wasm_module.proofs.parsed.ParsedModule.measure_large.Goals as goal

pub returns-in-true-clause-extends : goal.returns-in-true-clause-extends
returns-in-true-clause-extends g c =
    on_then c.write_large.result _ _ (λ x. extends_then c.args.self.now c.is_to_be_kept.new.self c.write_large.new.self c.is_to_be_kept.ensures x) c.write_large.ensures.extends

pub returns-in-true-clause-kept : goal.returns-in-true-clause-kept
returns-in-true-clause-kept g c = λ source e.
    c.write_large.ensures.kept source (extends_then source c.args.self.now c.is_to_be_kept.new.self e c.is_to_be_kept.ensures)

pub returns-in-false-clause-extends : goal.returns-in-false-clause-extends
returns-in-false-clause-extends g c =
    on_then c.measure_large_body.result _ _ (λ x. extends_then c.args.self.now c.is_to_be_kept.new.self c.measure_large_body.new.parsed c.is_to_be_kept.ensures x)
    c.measure_large_body.ensures.extends

pub returns-in-false-clause-kept : goal.returns-in-false-clause-kept
returns-in-false-clause-kept g c = λ source e. then_ok c.measure_large_body.result (λ every. every)
