use Rattle.wasm_module.specs.declared.parsed.ParsedModule.{ParsedModule}
use Rattle.wasm_module.specs.RewrittenCode.{Extends}
use Rattle.wasm_module.specs.KeptCode.{AreKeptBodies}
use Rattle.wasm_module.proofs.parsed.ParsedModule.measure_code.Given as goal

abbrev pub invariant-bodies : goal.invariant-bodies
invariant-bodies g l = record {
  extends : Extends l.fn.self l.self;
  kept : (source : ParsedModule) → Extends source l.fn.self → AreKeptBodies (g.B.BodyWriter.writes l.bodies) source l.keeper.kept;
}
