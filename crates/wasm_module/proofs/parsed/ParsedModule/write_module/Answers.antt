use Rattle.wasm_module.proofs.SameModuleLemmas.{written_same}
use Rattle.wasm_module.proofs.WritingLemmas.{ok_so}
use Rattle.wasm_module.proofs.parsed.ParsedModule.write_module.Goals as goal

pub returns-clause-written : goal.returns-clause-written
returns-clause-written g c = ok_so c.write_with_sink.result c.write_with_sink.ensures.written (λ w. (w.bytes, w.is_written, w.appends))

pub returns-clause-same : goal.returns-clause-same
returns-clause-same g c = λ m spells none.
    let made = c.args.rewritten.now in
    let writes = g.B.BodyWriter.writes made.bodies in
    ok_so c.write_with_sink.result c.write_with_sink.ensures.written
    (λ w. (w.bytes, written_same writes c.args.self.now made.changes made.omitted none m w.bytes spells w.is_written, w.appends))
