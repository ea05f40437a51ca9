-- Laws that connect the definitions of trees, faults and walks.
use Rattle.std.specs.Prelude.{◌≡◌, ◌⊎◌, ℕ, List, []}
use Rattle.walrus_ir.specs.declared.seq.InstrSeq.{InstrSeq}
use Rattle.walrus_ir.specs.declared.error.WalkError.{WalkError}
use Rattle.walrus_ir.specs.Tree.{Tree, alone}
use Rattle.walrus_ir.specs.Unfolding.{SequenceAt, LocatedInstr, IsTree, slots_reached_each}
use Rattle.walrus_ir.specs.Faults.{Walks, FirstWalkFault}

abbrev pub OneTree : Type 0
OneTree = (b : List InstrSeq) (start : ℕ) (t u : Tree SequenceAt LocatedInstr) → IsTree b start t → IsTree b start u → t ≡ u

abbrev pub TreeHasNoFault : Type 0
TreeHasNoFault =
    (b : List InstrSeq) (start : ℕ) (t : Tree SequenceAt LocatedInstr) (e : WalkError) → IsTree b start t → FirstWalkFault b start e → ⊥

abbrev pub OneFault : Type 0
OneFault = (b : List InstrSeq) (start : ℕ) (e f : WalkError) → FirstWalkFault b start e → FirstWalkFault b start f → e ≡ f

-- every function has a tree from a sequence on, or a first fault
abbrev pub TreeOrFault : Type 0
TreeOrFault =
    (b : List InstrSeq) (start : ℕ) → ((t : Tree SequenceAt LocatedInstr) × IsTree b start t) ⊎ ((e : WalkError) × FirstWalkFault b start e)

-- if there is a tree, the walk reaches the tree's slots in the tree's order, and then has none left
abbrev pub TreeIsWalked : Type 0
TreeIsWalked =
    (b : List InstrSeq) (start : ℕ) (t : Tree SequenceAt LocatedInstr) → IsTree b start t → Walks b start (slots_reached_each (alone t) []) []

-- a tree that reaches these slots, the last first
pub record Reaches (b : List InstrSeq) (start : ℕ) (seen : List ℕ) : Type 0 where
  pub tree : Tree SequenceAt LocatedInstr
  pub is_tree : IsTree b start tree
  pub slots : slots_reached_each (alone tree) [] ≡ seen

-- if the walk has no slot left, it has walked through a tree
abbrev pub WalkMakesTree : Type 0
WalkMakesTree = (b : List InstrSeq) (start : ℕ) (seen : List ℕ) → Walks b start seen [] → Reaches b start seen
