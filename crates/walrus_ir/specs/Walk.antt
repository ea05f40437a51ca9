-- How a walk ends.
use Rattle.std.specs.Prelude.{◌≡◌, ◌⊎◌, ℕ, List}
use Rattle.walrus_ir.specs.declared.seq.InstrSeq.{InstrSeq}
use Rattle.walrus_ir.specs.declared.error.WalkError.{WalkError}
use Rattle.walrus_ir.specs.declared.error.WalkError.TheVariants.{Memory}
use Rattle.walrus_ir.specs.Tree.{Tree}
use Rattle.walrus_ir.specs.Unfolding.{SequenceAt, LocatedInstr, IsTree}
use Rattle.walrus_ir.specs.Faults.{FirstWalkFault}
use Rattle.walrus_ir.specs.Events.{WalkEvent, events, Folds, Stops}

-- there is a tree, and the visitor accepted its events
pub record Finishes {V : Type 0} (b : List InstrSeq) (start : ℕ) (steps : V → WalkEvent → V → Type 0) (old new : V)
    : Type 0 where
  pub tree : Tree SequenceAt LocatedInstr
  pub is_tree : IsTree b start tree
  pub folds : Folds steps old (events tree) new

-- there is a tree, and the visitor accepted its events up to one that it refused
pub record IsRefused {V F : Type 0} (b : List InstrSeq) (start : ℕ) (steps : V → WalkEvent → V → Type 0)
    (refuses : V → WalkEvent → F → Type 0) (same : V → V → Type 0) (old new : V) (fault : F) : Type 0 where
  pub tree : Tree SequenceAt LocatedInstr
  pub is_tree : IsTree b start tree
  pub stops : Stops steps refuses same old (events tree) new fault

-- memory ran out, or there is no tree, with this first fault
abbrev pub HasNoWalk : List InstrSeq → ℕ → WalkError → Type 0
HasNoWalk b start error = (error ≡ Memory) ⊎ FirstWalkFault b start error

-- there is no walk, and the visitor was not called
pub record IsNotWalked {V F : Type 0} (b : List InstrSeq) (start : ℕ) (becomes : WalkError → F → Type 0) (old new : V)
    (fault : F) : Type 0 where
  pub error : WalkError
  pub why : HasNoWalk b start error
  pub is_fault : becomes error fault
  pub unchanged : new ≡ old
