-- The state of the plan of a walk: the sequences that it has reached, and the tasks that are left.
use Rattle.std.specs.Prelude.{◌≡◌, ℕ, ◌+◌, ◌*◌, ◌≤◌, List, [], ◌∷◌, ◌++◌, Bool, true, false, Some, None}
use Rattle.std.specs.Prelude.{length, reverse, slice_get, slice_index_or, slice_set}
use Rattle.std.specs.List.{flat_map, sum_by}
use Rattle.walrus_ir.specs.declared.seq.InstrSeq.{InstrSeq}
use Rattle.walrus_ir.specs.declared.instr.Instr.{Instr}
use Rattle.walrus_ir.specs.declared.instr.Instr.TheVariants.{Block, Loop, IfElse, TryTable, Try}
use Rattle.walrus_ir.specs.declared.error.WalkError.{WalkError}
use Rattle.walrus_ir.specs.declared.error.WalkError.TheVariants.{UnknownSequence, SharedSequence}
use Rattle.walrus_ir.specs.declared.plan.Plan.{Plan}
use Rattle.walrus_ir.specs.declared.plan.Task.{Task}
use Rattle.walrus_ir.specs.declared.plan.Task.TheVariants.{Enter, Resume, Clauses}
use Rattle.walrus_ir.specs.Tree.{Tree, alone}
use Rattle.walrus_ir.specs.Unfolding.{SequenceAt, LocatedInstr, handlers, slots_in, slots_in_all, slots_reached_each, IsTree}

-- the slots that a task goes on to, and those that the tasks on a stack go on to, the top first
abbrev pub goes_to : Task → List ℕ
goes_to (Enter p) = p ∷ []
goes_to (Resume rest) = slots_in_all rest.now
goes_to (Clauses rest) = handlers rest.now

abbrev pub agenda : List Task → List ℕ
agenda tasks = flat_map goes_to (reverse tasks)

-- an upper bound on the steps for an instruction, some instructions, a task and the tasks on a stack, without the steps for
-- the instructions inside the sequences
abbrev pub work_of : Instr → ℕ
work_of (Block x) = 1
work_of (Loop x) = 1
work_of (IfElse x) = 2
work_of (TryTable x) = 1
work_of (Try x) = 2 + 2 * length x.catches
work_of _ = 0

abbrev pub work_of_all : List LocatedInstr → ℕ
work_of_all [] = 0
work_of_all (x ∷ xs) = 1 + (work_of x.0 + work_of_all xs)

abbrev pub work_of_task : Task → ℕ
work_of_task (Enter p) = 1
work_of_task (Resume rest) = 1 + work_of_all rest.now
work_of_task (Clauses rest) = 1 + 2 * length rest.now

abbrev pub work : List Task → ℕ
work tasks = sum_by work_of_task tasks

-- the tasks on a stack go on to these slots first, and take at most this many more steps
pub record Adds (old new : List Task) (slots : List ℕ) (more : ℕ) : Type 0 where
  pub goes : agenda new ≡ slots ++ agenda old
  pub falls : work new ≤ more + work old

-- the first of the instructions that contains sequences, and the instructions after it
pub record IsNextHolder (all : List LocatedInstr) (holder : Instr) (following : List LocatedInstr) : Type 0 where
  pub goes : slots_in_all all ≡ slots_in holder ++ slots_in_all following
  pub falls : 1 + (work_of holder + work_of_all following) ≤ work_of_all all

-- the fault if a sequence is not reached
abbrev pub IsRefusedAt : List InstrSeq → List Bool → ℕ → WalkError → Type 0
IsRefusedAt b marks p UnknownSequence = slice_get b p ≡ None
IsRefusedAt b marks p SharedSequence = slice_index_or marks p false ≡ true
IsRefusedAt b marks p _ = ⊥

-- a sequence is reached
pub record IsReached (b : List InstrSeq) (p : ℕ) (seq : InstrSeq) (old new : List Bool) : Type 0 where
  pub known : slice_get b p ≡ Some seq
  pub fresh : slice_index_or old p false ≡ false
  pub marked : new ≡ slice_set old p true

-- a sequence is entered: it is reached, and is the next in the order
pub record IsEntered (b : List InstrSeq) (p : ℕ) (old new : Plan) : Type 0 where
  pub seq : InstrSeq
  pub reached : IsReached b p seq old.reached.items new.reached.items
  pub ordered : new.order.items ≡ old.order.items ++ p ∷ []
  pub adds : Adds old.tasks.items new.tasks.items
      (slots_in_all seq.instrs) (1 + work_of_all seq.instrs)

-- no sequence is reached, and the tasks go on to the same slots
pub record IsContinued (task : Task) (old new : Plan) : Type 0 where
  pub same_marks : new.reached.items ≡ old.reached.items
  pub same_order : new.order.items ≡ old.order.items
  pub goes : agenda new.tasks.items ≡ goes_to task ++ agenda old.tasks.items
  pub falls : 1 + work new.tasks.items ≤ work_of_task task + work old.tasks.items

-- a task is done
abbrev pub IsDone : List InstrSeq → Task → Plan → Plan → Type 0
IsDone b (Enter p) old new = IsEntered b p old new
IsDone b task old new = IsContinued task old new

-- the fault if a task is not done
abbrev pub IsNotDone : List InstrSeq → List Bool → Task → WalkError → Type 0
IsNotDone b marks (Enter p) e = IsRefusedAt b marks p e
IsNotDone b marks _ e = ⊥

-- these are the slots of the tree from a sequence on, in walk order
pub record IsOrder (b : List InstrSeq) (start : ℕ) (order : List ℕ) : Type 0 where
  pub tree : Tree SequenceAt LocatedInstr
  pub is_tree : IsTree b start tree
  pub slots : order ≡ reverse (slots_reached_each (alone tree) [])
