-- What is below a sequence of a tree stays if only this sequence changes: it's in no sequence that it contains.
use Rattle.std.proofs.Common.{◌≡◌, ◌⊎◌, ◌==◌, ◌||◌, ℕ, List, [], ◌∷◌, Bool, true, false, Some, refl, sym, ap, ◌∙◌, inl, inr, subst}
use Rattle.std.specs.Prelude.{slice_get, slice_set}
use Rattle.walrus_ir.specs.declared.seq.InstrSeq.{InstrSeq}
use Rattle.walrus_ir.specs.Tree.{Items, item, Sequences, sequence}
use Rattle.walrus_ir.specs.Unfolding.{SequenceAt, LocatedInstr, AreTreeItems, are_no_items, are_items, AreSequences, are_no_sequences, are_sequences, slots_reached, slots_reached_each, among, Apart}
use Rattle.walrus_insertion.proofs.EditedFunctions.{after_set}

either : (y z : Bool) → z ≡ true → (y || z) ≡ true
either true z h = refl
either false z h = h

module _ (old : List InstrSeq) (start : ℕ) (new_sequence : InstrSeq) where
  abbrev new : List InstrSeq
  new = slice_set old start new_sequence

  other : (p : ℕ) (seq : InstrSeq) (seen : List ℕ) → among start seen ≡ true → among p seen ≡ false → slice_get old p ≡ Some seq → slice_get new p ≡ Some seq
  other p seq seen h k known = by_place (after_set old start new_sequence p seq known)
    where
      by_place : ((p ≡ start) × (slice_get new p ≡ Some new_sequence)) ⊎ (slice_get new p ≡ Some seq) → slice_get new p ≡ Some seq
      by_place (inl f) = let z : true ≡ false = sym h ∙ subst (λ q. among q seen ≡ false) f.0 k in absurd (cc z)
      by_place (inr f) = f

  -- the start stays among what was reached; and if that is apart, what is reached first is, and is as it was
  mutual
    pub items_elsewhere : {xs : List LocatedInstr} {is : Items SequenceAt LocatedInstr} (seen : List ℕ) → among start seen ≡ true → AreTreeItems old xs is
        → (among start (slots_reached is seen) ≡ true) × (Apart (slots_reached is seen) → Apart seen × AreTreeItems new xs is)
    items_elsewhere seen h are_no_items = (h, λ a. (a, are_no_items))
    items_elsewhere seen h (are_items {inside = ss} inside rest) =
        let first = sequences_elsewhere seen h inside in
        let following = items_elsewhere (slots_reached_each ss seen) first.0 rest in (
          following.0,
          λ a. let after = following.1 a in
              let before = first.1 after.0 in
              (before.0, are_items before.1 after.1),
        )

    sequences_elsewhere : {ps : List ℕ} {ss : Sequences SequenceAt LocatedInstr} (seen : List ℕ) → among start seen ≡ true → AreSequences old ps ss
        → (among start (slots_reached_each ss seen) ≡ true) × (Apart (slots_reached_each ss seen) → Apart seen × AreSequences new ps ss)
    sequences_elsewhere seen h are_no_sequences = (h, λ a. (a, are_no_sequences))
    sequences_elsewhere seen h (are_sequences {p = p} {seq = seq} {items = is} known items others) =
        let first = items_elsewhere (p ∷ seen) (either (start == p) (among start seen) h) items in
        let following = sequences_elsewhere (slots_reached is (p ∷ seen)) first.0 others in (
          following.0,
          λ a. let after = following.1 a in
              let before = first.1 after.0 in
              (before.0.1, are_sequences (other p seq seen h before.0.0 known) before.1 after.1),
        )
