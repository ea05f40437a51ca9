use Rattle.wasm_module.proofs.WritingLemmas.{ok_so}
use Rattle.wasm_module.proofs.parsed.ParsedModule.write_module_with_sink.Goals as goal

pub returns-clause-written : goal.returns-clause-written
returns-clause-written g c = ok_so c.write_with_sink.result c.write_with_sink.ensures.written (λ w. (w.bytes, w.is_written, w.appends, w.told))
