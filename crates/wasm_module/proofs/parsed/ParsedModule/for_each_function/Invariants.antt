use Rattle.std.specs.Prelude.{ℕ, List}
use Rattle.wasm_module.specs.ReadFrom.{IsModuleOf}
use Rattle.wasm_module.specs.RewrittenCode.{Extends}
use Rattle.wasm_module.proofs.VisitedLemmas.{VisitedSoFar}
use Rattle.wasm_module.proofs.parsed.ParsedModule.for_each_function.Given as goal

abbrev pub invariant-bodies : goal.invariant-bodies
invariant-bodies g l = record {
  callable : goal.F-IsAlwaysCallable g l.visit;
  extends : Extends l.fn.self l.self;
  so_far : (source : List ℕ) → IsModuleOf source l.fn.self → VisitedSoFar (goal.F-step g) l.fn.self l.fn.visit l.body-iterator l.visit;
}
