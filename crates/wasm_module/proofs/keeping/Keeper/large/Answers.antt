use Rattle.std.proofs.Common.{◌≡◌, [], length, take, Option, Some, None, Bool, true, false, refl, sym, ap, subst, ◌∙◌, arith}
use Rattle.std.proofs.lemmas.List.{take_all}
use Rattle.location_pairs.specs.declared.packing.Packer.{Packer}
use Rattle.wasm_module.specs.declared.changing.kept_bodies.KeptBodies.{KeptBodies}
use Rattle.wasm_module.specs.KeptPieces.{HasTaken}
use Rattle.wasm_module.proofs.KeptPieceLemmas.{nothing_taken}
use Rattle.wasm_module.proofs.keeping.Keeper.large.Goals.{in-true+in-Ok, in-true+in-Err, in-false}
use Rattle.wasm_module.proofs.keeping.Keeper.large.Goals as goal

pub returns : goal.returns
returns c = record {
  taken = λ whole.
      let was = c.replace-kept.result in
      let from = c.byte_len-from.result in
      let at : from ≡ length was.raws.items = c.byte_len-from.ensures in
      let all = was.pairs.items in
      let same : take (length all) all ≡ all = take_all (length all) all (omega arith) in
      subst (λ (k : KeptBodies). HasTaken k c.if-self.kept from c.if-self.packer.0 [] []) c.replace-kept.ensures.value
      (elim c.if-self.branch [
        | in-true+in-Ok w ↦
            let begun = w.begin_pairs.ensures in
            let now = w.begin_pairs.new.self in
            let packer = w.in-Ok.packer in
            let taken = nothing_taken was now from (Some packer) begun.first begun.bodies begun.raws at begun.front (w.in-Ok.ensures.begin, w.in-Ok.ensures.none) in
            subst (λ (k : KeptBodies). HasTaken was k from c.if-self.packer.0 [] []) (sym w.kept-is)
            (subst (λ (p : Option Packer × Bool). HasTaken was now from p.0 [] []) (sym w.packer-is) taken)
        | in-true+in-Err w ↦
            let no : false ≡ true = sym (ap (λ (p : Option Packer × Bool). p.1) w.packer-is) ∙ whole in
            absurd cc
        | in-false w ↦
            subst (λ (k : KeptBodies). HasTaken was k from c.if-self.packer.0 [] []) (sym w.kept-is)
            (subst (λ (p : Option Packer × Bool). HasTaken was was from p.0 [] []) (sym w.packer-is) (nothing_taken was was from None refl refl refl at same tt))
      ]);
}
