use Rattle.std.proofs.Common.{◌≡◌, ◌+◌, ◌<◌, ℕ, List, ◌∷◌, ◌++◌, length, drop, sym, ap, ◌∙◌, subst, arith}
use Rattle.std.proofs.lemmas.List.{drop_more}
use Rattle.std.specs.List.{AllByRecursion}
use Rattle.wasm_encode.proofs.Appending.{kept_then}
use Rattle.location_pairs.specs.PackedPairs.{FitPair, packed_after, last_after}
use Rattle.location_pairs.proofs.PackedPairs.{packed_more}
use Rattle.location_pairs.proofs.packing.pack_after.Goals as goal

pub loop-pair-preserved : goal.loop-pair-preserved
loop-pair-preserved c =
    let at = c.loop-pair in
    let ps = c.args.pairs.now in
    let x = c.pair-item.result in
    let rest = drop (at.pair-index + 1) ps in
    let within : at.pair-index < length ps = omega arith in
    let head : drop at.pair-index ps ≡ x ∷ rest = drop_more ps at.pair-index x within ∙ ap (λ (y : ℕ × ℕ). y ∷ rest) (sym c.pair-item.is) in
    let appended = ap (λ (b : List ℕ). b ++ packed_after x.0 x.1 rest) c.in_ok-pack_one.ensures.packed ∙ packed_more at.packed.items at.last.location at.last.place x rest in
    let whole = ap (λ (xs : List (ℕ × ℕ)). at.packed.items ++ packed_after at.last.location at.last.place xs) (sym head) ∙ at.invariant.packed in
    let fits : FitPair x = (omega (arith, c.of-last.ensures.location), omega (arith, c.of-last.ensures.place)) in
    record {
      packed = (λ i. c.pack_one.new.packed.items ++ packed_after (c.of-last.ensures.location i) (c.of-last.ensures.place i) rest) ∙ appended ∙ whole;
      fit = λ h. at.invariant.fit (subst (λ (xs : List (ℕ × ℕ)). AllByRecursion FitPair xs) (sym head) (fits, h));
      last =
          (λ i. last_after (c.of-last.ensures.location i, c.of-last.ensures.place i) rest)
          ∙ ap (λ (xs : List (ℕ × ℕ)). last_after (at.last.location, at.last.place) xs) (sym head) ∙ at.invariant.last;
      unchanged = kept_then c.args.packed.now.items at.packed.items c.pack_one.new.packed.items at.invariant.unchanged c.in_ok-pack_one.ensures.unchanged;
    }
