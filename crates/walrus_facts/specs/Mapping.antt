-- Each instruction of a function is changed in its place.
use Rattle.std.specs.Prelude.{◌≡◌, ℕ, List, [], ◌∷◌}
use Rattle.std.specs.Borrow.{MutBor}
use Rattle.walrus_ir.specs.declared.seq.InstrSeq.{InstrSeq}
use Rattle.walrus_ir.specs.declared.instr.Instr.{Instr}
use Rattle.walrus_ir.specs.Function.{Function}
use Rattle.walrus_ir.specs.Unfolding.{LocatedInstr}

-- a call of the closure f with this instruction and location leaves the instruction `new`, and the closure g
pub record IsCalled {F : Type 0} (step : F → MutBor Instr → ℕ → Unit {0} → MutBor Instr → F → Type 0) (f : F) (old : Instr)
    (location : ℕ) (new : Instr) (g : F) : Type 0 where
  pub shown : MutBor Instr
  pub shows : shown.now ≡ old
  pub left : MutBor Instr
  pub called : step f shown location tt left g
  pub leaves : left.now ≡ new

-- the items were changed one after the other, each in its place, from the state f to the state `last`
abbrev pub EachChanges : {F X : Type 0} → (F → X → X → F → Type 0) → F → (old new : List X) → F → Type 0
EachChanges changes f [] new last = (new ≡ []) × (f ≡ last)
EachChanges {F} {X} changes f (x ∷ xs) new last =
    (y : X) × (g : F) × changes f x y g × (ys : List X) × (new ≡ y ∷ ys) × EachChanges changes g xs ys last

module _ {F : Type 0} (changes : F → (old : Instr) → (location : ℕ) → (new : Instr) → F → Type 0) where
  -- an instruction was changed, and its location stays
  pub record IsMappedItem (f : F) (old new : LocatedInstr) (g : F) : Type 0 where
    pub changed : changes f old.0 old.1 new.0 g
    pub location : new.1 ≡ old.1

  -- the instructions of a sequence were changed, and all else of it stays
  pub record IsMappedSequence (f : F) (old new : InstrSeq) (g : F) : Type 0 where
    pub id : new.id ≡ old.id
    pub type : new.ty ≡ old.ty
    pub end : new.end ≡ old.end
    pub instrs : EachChanges IsMappedItem f old.instrs new.instrs g

  -- the instructions of all sequences were changed, by slot, and all else of the function stays
  pub record IsMapped (f : F) (old new : Function) (g : F) : Type 0 where
    pub type : new.type ≡ old.type
    pub entry : new.entry ≡ old.entry
    pub sequences : EachChanges IsMappedSequence f old.sequences new.sequences g
