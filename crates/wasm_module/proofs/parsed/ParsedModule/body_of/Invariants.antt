use Rattle.std.proofs.Common.{ℕ, List}
use Rattle.wasm_module.specs.ReadFrom.{IsModuleOf}
use Rattle.wasm_module.proofs.PassedLemmas.{PassedBefore}
use Rattle.wasm_module.proofs.parsed.ParsedModule.body_of.Given as goal

abbrev pub invariant-bodies : goal.invariant-bodies
invariant-bodies l = (source : List ℕ) → IsModuleOf source l.self → PassedBefore l.self l.fn.index l.body-iterator
