use Rattle.std.specs.Prelude.{ℕ, List}
use Rattle.wasm_module.specs.ReadFrom.{IsModuleOf}
use Rattle.wasm_module.specs.RewrittenCode.{Extends}
use Rattle.wasm_module.proofs.CheckedLemmas.{CheckedSoFar}
use Rattle.wrewrite_c.proofs.checking.check_bodies.Given as goal

abbrev pub invariant-bodies : goal.invariant-bodies
invariant-bodies l = record {
  extends : Extends l.fn.parsed l.parsed;
  so_far : (source : List ℕ) → IsModuleOf source l.fn.parsed → CheckedSoFar l.fn.parsed l.fn.first l.body-iterator;
}
