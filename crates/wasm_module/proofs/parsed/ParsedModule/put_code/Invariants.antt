use Rattle.std.proofs.Common.{◌+◌}
use Rattle.wasm_module.specs.declared.parsed.ParsedModule.{ParsedModule}
use Rattle.wasm_module.specs.RewrittenCode.{Extends}
use Rattle.wasm_module.proofs.CodeLemmas.{CodeSoFar}
use Rattle.wasm_module.proofs.parsed.ParsedModule.put_code.Given as goal

abbrev pub invariant-bodies : goal.invariant-bodies
invariant-bodies g l = record {
  extends : Extends l.fn.self l.self;
  so_far : (source : ParsedModule) → Extends source l.fn.self →
      CodeSoFar (g.B.BodyWriter.writes l.rewritten.bodies) source g.T.MapSink.records g.T.MapSink.needs l.section.contents.end l.initial.source.left.rest.now l.source l.counter (l.count + l.more) (g.W.Write.contents l.fn.out) (g.W.Write.contents l.out) l.at l.end l.fn.sink l.sink;
}
