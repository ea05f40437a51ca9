-- The first fault of a walk, if a function has no tree.
use Rattle.std.specs.Prelude.{◌≡◌, ℕ, List, [], ◌∷◌, ◌++◌, true, false, Some, None, slice_get}
use Rattle.walrus_ir.specs.declared.seq.InstrSeq.{InstrSeq}
use Rattle.walrus_ir.specs.declared.error.WalkError.{WalkError}
use Rattle.walrus_ir.specs.declared.error.WalkError.TheVariants.{UnknownSequence, SharedSequence}
use Rattle.walrus_ir.specs.Unfolding.{slots_in_all, among}

-- The walk in its order; there need not be a tree: it has reached the sequences `seen`, the last first, which are all
-- known and distinct, and goes on to the slots `next`. The slots in a sequence come after its own slot, and before the slots
-- that followed it.
pub data Walks (b : List InstrSeq) (start : ℕ) : (seen next : List ℕ) → Type 0 where
  begun : Walks b start [] (start ∷ [])
  onward : {seen : List ℕ} {p : ℕ} {next : List ℕ} {seq : InstrSeq}
      → Walks b start seen (p ∷ next) → slice_get b p ≡ Some seq → among p seen ≡ false
      → Walks b start (p ∷ seen) (slots_in_all seq.instrs ++ next)

-- the fault at the first slot in walk order that is unknown or was reached before: which of the two it is
pub data FirstWalkFault (b : List InstrSeq) (start : ℕ) : WalkError → Type 0 where
  unknown : {seen : List ℕ} {p : ℕ} {next : List ℕ}
      → Walks b start seen (p ∷ next) → slice_get b p ≡ None → FirstWalkFault b start UnknownSequence
  shared : {seen : List ℕ} {p : ℕ} {next : List ℕ}
      → Walks b start seen (p ∷ next) → among p seen ≡ true → FirstWalkFault b start SharedSequence
