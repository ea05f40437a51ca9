use Rattle.wasm_sections.specs.CodeSections.{body_at}
use Rattle.wasm_module.proofs.RewritingLemmas.{measured_then}
use Rattle.wasm_module.proofs.body_writer.RewritingBodyWriter.measure_large_body.Goals as goal

pub returns-clause-measured : goal.returns-clause-measured
returns-clause-measured c = λ source e.
    measured_then source c.args.parsed.now c.args.body.func (body_at c.args.body) c.measure_flat.result e c.measure_flat.ensures.measured
