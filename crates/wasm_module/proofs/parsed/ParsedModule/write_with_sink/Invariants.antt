use Rattle.wasm_module.specs.RewrittenCode.{Extends}
use Rattle.wasm_module.proofs.SectionLemmas.{ModuleSoFar}
use Rattle.wasm_module.proofs.parsed.ParsedModule.write_with_sink.Given as goal

abbrev pub invariant-sections : goal.invariant-sections
invariant-sections g l = record {
  extends : Extends l.fn.self l.self;
  so_far :
      ModuleSoFar (g.B.BodyWriter.writes l.rewritten.bodies) l.fn.self g.T.MapSink.records g.T.MapSink.needs l.rewritten.changes l.rewritten.omitted l.initial.section-iterator.left.end l.initial.section-iterator.left.rest.now
      l.section-iterator (g.W.Write.contents l.fn.out) (g.W.Write.contents l.out) 0 l.end l.fn.sink l.sink;
}
