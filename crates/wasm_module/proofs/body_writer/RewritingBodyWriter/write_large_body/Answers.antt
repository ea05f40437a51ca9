use Rattle.wasm_sections.specs.CodeSections.{body_at}
use Rattle.wasm_module.proofs.RewritingLemmas.{rewritten_to}
use Rattle.wasm_module.proofs.body_writer.RewritingBodyWriter.write_large_body.Goals as goal

pub returns-clause-written : goal.returns-clause-written
returns-clause-written g c = λ source e.
    rewritten_to source c.args.parsed.now c.args.body.func (body_at c.args.body) c.args.needs_pairs (g.S.ByteSink.takes c.args.sink.now c.rewrite_flat_to.new.sink) c.rewrite_flat_to.result e c.rewrite_flat_to.ensures.rewritten
