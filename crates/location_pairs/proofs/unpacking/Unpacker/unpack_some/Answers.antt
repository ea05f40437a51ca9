use Rattle.std.proofs.Common.{◌≡◌, ◌+◌, ℕ, List, [], ◌∷◌, ◌++◌, length, length-append, sym, ap, ◌∙◌, subst, append_assoc, arith}
use Rattle.std.specs.List.{AllByRecursion}
use Rattle.location_pairs.specs.PackedPairs.{FitPair, packed_after}
use Rattle.location_pairs.proofs.PackedPairs.{same_pair, first_left, all_more}
use Rattle.location_pairs.proofs.unpacking.Unpacker.unpack_some.Goals as goal

pub loop-preserved : goal.loop-preserved
loop-preserved c =
    let at = c.loop in
    let pair : ℕ × ℕ = (c.location_of.result, c.unpack_one.result.0.place) in
    let fits : FitPair pair = (omega (arith, c.location_of.ensures), omega arith) in
    record {
      left = λ ps h.
          let so = at.invariant.left ps h in
          let next = first_left so.0 at.counter c.args.self.now.count so.4 (omega arith) in
          let x = next.0 in
          let xs = next.1 in
          let others = subst (λ (l : List (ℕ × ℕ)). AllByRecursion FitPair l) next.2 so.3 in
          let left : at.left.now ≡ packed_after at.last.location at.last.place (x ∷ xs) =
          so.2 ∙ ap (λ (l : List (ℕ × ℕ)). packed_after at.last.location at.last.place l) next.2 in
          let one = c.unpack_one.ensures x.0 x.1 others.0.0 others.0.1 (packed_after x.0 x.1 xs) left in
          let same : pair ≡ x = same_pair pair x (c.location_of.ensures ∙ one.0) one.1 in
          let items : c.push.new.self.items ++ xs ≡ ps =
          ap (λ (l : List (ℕ × ℕ)). l ++ xs) c.in_ok-push.ensures.items ∙ append_assoc at.pairs.items (pair ∷ []) xs
          ∙ ap (λ (y : ℕ × ℕ). at.pairs.items ++ y ∷ xs) same ∙ ap (λ (l : List (ℕ × ℕ)). at.pairs.items ++ l) (sym next.2) ∙ so.1 in
          let count : at.counter + 1 + length xs ≡ c.args.self.now.count = omega (arith, so.4, ap (λ (l : List (ℕ × ℕ)). length l) next.2) in
          let later = one.2 ∙ (λ i. packed_after (sym one.0 i) (sym one.1 i) xs) in
          (xs, items, later, others.1, count);
      count = omega (arith, at.invariant.count, ap (λ (l : List (ℕ × ℕ)). length l) c.in_ok-push.ensures.items, length-append at.pairs.items (pair ∷ []));
      fit = subst (λ (l : List (ℕ × ℕ)). AllByRecursion FitPair l) (sym c.in_ok-push.ensures.items) (all_more at.pairs.items pair at.invariant.fit fits);
    }
