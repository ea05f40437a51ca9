use Rattle.wasm_module.specs.RewrittenCode.{Extends}
use Rattle.wasm_module.proofs.ChangedLemmas.{KeptSoFar}
use Rattle.wasm_module.proofs.parsed.ParsedModule.change_code.Given as goal

abbrev pub invariant-bodies : goal.invariant-bodies
invariant-bodies g l = record {
  extends : Extends l.fn.self l.self;
  so_far : KeptSoFar g.C.ChangeFunction.changes l.fn.self (g.C.ChangeFunction.state l.fn.change) l.kept l.body-iterator.next (g.C.ChangeFunction.state l.change);
}
