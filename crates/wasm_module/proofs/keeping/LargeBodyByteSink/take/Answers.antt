use Rattle.std.proofs.Common.{ℕ, List, subst}
use Rattle.wasm_body.specs.Pairs.{Pair}
use Rattle.wasm_module.specs.KeptPieces.{TakesMore}
use Rattle.wasm_module.proofs.KeptPieceLemmas.{on_true}
use Rattle.wasm_module.proofs.keeping.LargeBodyByteSink.take.Goals as goal

pub returns-clause-taken : goal.returns-clause-taken
returns-clause-taken c =
    on_true c.take.result _ (
      subst (λ (l : List ℕ). TakesMore c.args.self.now c.keep.new.self l c.args.pairs.now.items) c.deref.ensures.value
          (subst (λ (l : List Pair). TakesMore c.args.self.now c.keep.new.self c.deref.result.now l) c.deref-2.ensures.value c.keep.ensures.takes),
      c.keep.ensures.has_pairs,
    )
