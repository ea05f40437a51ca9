-- The facts of a function agree with its other calls, since all of them are about its one tree.
use Rattle.std.proofs.Common.{true≢false, ◌≡◌, ◌||◌, ℕ, List, [], ◌∷◌, IsTrue, refl, sym, ap, ◌∙◌}
use Rattle.std.proofs.lemmas.Cmp.{nat_eq_equiv}
use Rattle.walrus_ir.specs.Unfolding.{among}
use Rattle.walrus_ir.proofs.WalkLaws.{one_tree}
use Rattle.walrus_facts.specs.Facts.{count, segments, are_some}
use Rattle.walrus_facts.specs.FactLaws.{FactsHaveSize, FactsUseFound}

pub facts_have_size : FactsHaveSize
facts_have_size b start f n h k = h.holds.size ∙ (ap (λ t. count t.items) (one_tree b start h.tree k.tree h.is_tree k.is_tree) ∙ sym k.holds)

one_among : (xs : List ℕ) → IsTrue (are_some xs) → (d : ℕ) × IsTrue (among d xs)
one_among [] h = absurd (true≢false (sym h))
one_among (x ∷ xs) h = (x, ap (λ b. b || among x xs) (nat_eq_equiv.refl x))

some_there : (xs : List ℕ) (d : ℕ) → IsTrue (among d xs) → IsTrue (are_some xs)
some_there [] d h = h
some_there (x ∷ xs) d h = refl

pub facts_use_found : (S : Type 0) → FactsUseFound S
facts_use_found S b start f found h k =
    let same = ap (λ t. segments t.items) (one_tree b start h.tree k.tree h.is_tree k.is_tree) in
    let uses : f.uses_data_segments ≡ are_some (segments k.tree.items) = h.holds.uses_data_segments ∙ ap (λ xs. are_some xs) same in (
      (λ used. let one = one_among (segments k.tree.items) (sym uses ∙ used) in (one.0, k.holds one.0 ∙ one.1)),
      (λ one. uses ∙ some_there (segments k.tree.items) one.0 (sym (k.holds one.0) ∙ one.1)),
    )
