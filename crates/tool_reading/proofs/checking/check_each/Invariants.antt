use Rattle.std.specs.Prelude.{◌≡◌, ℕ, List}
use Rattle.wasm_module.specs.ReadFrom.{IsModuleOf}
use Rattle.wasm_module.specs.RewrittenCode.{Extends}
use Rattle.wasm_module.proofs.CheckedLemmas.{CheckedSoFar}
use Rattle.tool_reading.proofs.checking.check_each.Given as goal

abbrev pub invariant-bodies : goal.invariant-bodies
invariant-bodies g l = record {
  extends : Extends l.fn.parsed l.parsed;
  so_far : (source : List ℕ) → IsModuleOf source l.fn.parsed → l.count ≡ 0 → CheckedSoFar l.fn.parsed 0 l.body-iterator;
}
