-- Every function has a tree or a first fault: the walk ends, since each step reaches one more sequence.
use Rattle.std.proofs.Common.{◌≡◌, ◌⊎◌, ◌≤◌, ℕ, zero, suc, List, [], ◌∷◌, Bool, true, false, Option, Some, None, length, replicate, get_or, set, refl, inl, inr, arith}
use Rattle.std.proofs.lemmas.List.{length-replicate}
use Rattle.std.specs.Prelude.{slice_get}
use Rattle.walrus_ir.specs.declared.seq.InstrSeq.{InstrSeq}
use Rattle.walrus_ir.specs.declared.error.WalkError.{WalkError}
use Rattle.walrus_ir.specs.declared.error.WalkError.TheVariants.{UnknownSequence, SharedSequence}
use Rattle.walrus_ir.specs.Tree.{Tree}
use Rattle.walrus_ir.specs.Unfolding.{SequenceAt, LocatedInstr, IsTree}
use Rattle.walrus_ir.specs.Faults.{FirstWalkFault}
use Rattle.walrus_ir.specs.WalkLaws.{TreeOrFault}
use Rattle.walrus_ir.specs.Planning.{IsReached}
use Rattle.walrus_ir.proofs.Marks.{all_unmarked, unreached, unreached-set}
use Rattle.walrus_ir.proofs.Planning.{HasReached, reached_first, reached_enter, reached_last, reach_within, refused_fault}

abbrev Ends : List InstrSeq → ℕ → Type 0
Ends b start = ((t : Tree SequenceAt LocatedInstr) × IsTree b start t) ⊎ ((e : WalkError) × FirstWalkFault b start e)

-- the walk ends at the next slot, or goes on from there
ends_at : {b : List InstrSeq} {start : ℕ} {marks : List Bool} {order : List ℕ} (p : ℕ) (next : List ℕ) → HasReached b start marks order (p ∷ next)
    → (found : Option InstrSeq) (mark : Bool) → slice_get b p ≡ found → get_or marks p false ≡ mark
    → ((seq : InstrSeq) → slice_get b p ≡ Some seq → get_or marks p false ≡ false → Ends b start) → Ends b start
ends_at p next h None mark known seen on = inr (UnknownSequence, refused_fault p UnknownSequence h known)
ends_at p next h (Some seq) true known seen on = inr (SharedSequence, refused_fault p SharedSequence h seen)
ends_at p next h (Some seq) false known seen on = on seq known seen

-- the walk ends from this state on, since each step lowers the bound for the sequences that are not reached
ends : {b : List InstrSeq} {start : ℕ} {marks : List Bool} {order : List ℕ} (n : ℕ) (next : List ℕ) → HasReached b start marks order next → unreached marks b ≤ n → Ends b start
ends n [] h few = let whole = reached_last h in inl (whole.tree, whole.is_tree)
ends {b = b} {marks = marks} zero (p ∷ next) h few =
    ends_at p next h (slice_get b p) (get_or marks p false) refl refl
    (λ seq known seen.
    let fewer = unreached-set marks b p seq (reach_within p seq h known) known seen in
    absurd (omega (arith, few, fewer)))
ends {b = b} {marks = marks} (suc n) (p ∷ next) h few =
    ends_at p next h (slice_get b p) (get_or marks p false) refl refl
    (λ seq known seen.
    let fewer = unreached-set marks b p seq (reach_within p seq h known) known seen in
    let reached : IsReached b p seq marks (set marks p true) = record { known = known; fresh = seen; marked = refl } in
    ends n _ (reached_enter p seq (set marks p true) reached h) (omega (arith, few, fewer)))

pub tree_or_fault : TreeOrFault
tree_or_fault b start =
    let marks = replicate (length b) false in
    ends (unreached marks b) (start ∷ []) (reached_first b start marks (length-replicate (length b) false) (all_unmarked (length b) marks refl)) (omega arith)
