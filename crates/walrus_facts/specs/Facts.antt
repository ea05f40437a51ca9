-- Facts of a function's tree: its instructions, their number, and the data segments, functions and locals that they name.
use Rattle.std.specs.Prelude.{◌≡◌, ◌==◌, ℕ, Bool, true, false, List, [], ◌∷◌, ◌++◌, length}
use Rattle.std.specs.HashSet.{contains}
use Rattle.std.specs.List.{flat_map}
use Rattle.walrus_ir.specs.declared.seq.InstrSeq.{InstrSeq}
use Rattle.walrus_ir.specs.declared.instr.Instr.{Instr}
use Rattle.walrus_ir.specs.declared.instr.Instr.TheVariants.{RefFunc, LocalGet, LocalSet, LocalTee, MemoryInit, DataDrop, ArrayNewData, ArrayInitData}
use Rattle.walrus_ir.specs.Tree.{Items, no_items, item, Sequences, no_sequences, sequence, Tree}
use Rattle.walrus_ir.specs.Unfolding.{SequenceAt, LocatedInstr, IsTree, among}
use Rattle.walrus_facts.specs.declared.facts.EmitFacts.{EmitFacts}

-- the instructions, in walk order
abbrev mutual
  pub instructions : {S I : Type 0} → Items S I → List I
  instructions no_items = []
  instructions (item i inside rest) = i ∷ (instructions_inside inside ++ instructions rest)

  pub instructions_inside : {S I : Type 0} → Sequences S I → List I
  instructions_inside no_sequences = []
  instructions_inside (sequence head items rest) = instructions items ++ instructions_inside rest

-- the number of instructions
abbrev pub count : {S I : Type 0} → Items S I → ℕ
count items = length (instructions items)

-- the data segment that an instruction names, if it names one
abbrev pub segment_of : Instr → List ℕ
segment_of (MemoryInit x) = x.data_id ∷ []
segment_of (DataDrop x) = x.data_id ∷ []
segment_of (ArrayNewData x) = x.data_id ∷ []
segment_of (ArrayInitData x) = x.data_id ∷ []
segment_of _ = []

-- the data segments that the instructions name, with repeats
abbrev pub segments : Items SequenceAt LocatedInstr → List ℕ
segments items = flat_map (λ (x : LocatedInstr). segment_of x.0) (instructions items)

-- the function that an instruction refers to, if it is a `ref.func`
abbrev pub function_of : Instr → List ℕ
function_of (RefFunc x) = x.func ∷ []
function_of _ = []

-- the functions that the instructions refer to, in walk order, with repeats
abbrev pub referred : Items SequenceAt LocatedInstr → List ℕ
referred items = flat_map (λ (x : LocatedInstr). function_of x.0) (instructions items)

-- the local that an instruction reads or writes, if there is one
abbrev pub local_of_instr : Instr → List ℕ
local_of_instr (LocalGet x) = x.local ∷ []
local_of_instr (LocalSet x) = x.local ∷ []
local_of_instr (LocalTee x) = x.local ∷ []
local_of_instr _ = []

-- the locals that the instructions read or write, with repeats
abbrev pub locals_used : Items SequenceAt LocatedInstr → List ℕ
locals_used items = flat_map (λ (x : LocatedInstr). local_of_instr x.0) (instructions items)

-- whether the list has an item
abbrev pub are_some : {A : Type 0} → List A → Bool
are_some [] = false
are_some (x ∷ xs) = true

-- These are the facts of a tree's instructions.
pub record AreFacts (items : Items SequenceAt LocatedInstr) (f : EmitFacts) : Type 0 where
  pub size : f.size ≡ count items
  pub uses_data_segments : f.uses_data_segments ≡ are_some (segments items)
  pub ref_funcs : f.ref_funcs.items ≡ referred items
  pub used_locals : (l : ℕ) → contains (λ x y. x == y) f.used_locals l ≡ among l (locals_used items)

-- The sequences from this one on are a tree, and it has this property.
pub record TreeHas (b : List InstrSeq) (start : ℕ) (Holds : Tree SequenceAt LocatedInstr → Type 0) : Type 0 where
  pub tree : Tree SequenceAt LocatedInstr
  pub is_tree : IsTree b start tree
  pub holds : Holds tree
