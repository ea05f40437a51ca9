-- The tree of a function: sequences, each with its type and the location of its end, and in them instructions, each with
-- its location and with the sequences in it.
use Rattle.std.specs.Prelude.{◌≡◌, ℕ, ◌==◌, if◌then◌else◌, List}
use Rattle.walrus_ir.specs.declared.val_type.InstrSeqType.{InstrSeqType}
use Rattle.walrus_ir.specs.Tree.{Items, Sequences, Tree, alone, map_items, map_sequences}
use Rattle.walrus_ir.specs.Locations.{default_location}
use Rattle.wasm_operators.specs.Operations.{Operation}

-- the target of a branch: a sequence around it, given by the number of sequences between them, or a sequence outside
pub data Target : Type 0 where
  Depth : (n : ℕ) → Target
  Outside : Target

-- An operator in the tree. Its block type is only a placeholder among the immediates: the type is that of its first sequence.
-- The alignment of an access is a number of bytes.
abbrev pub TreeOperation : Type 0
TreeOperation = Operation Target (Unit {0})

-- the data of a sequence in the tree, its instructions apart
pub record Head : Type 0 where
  pub type : InstrSeqType
  pub end_location : ℕ

-- a clause of a legacy `try`; the handlers are the sequences after the body, in order
pub data LegacyClause : Type 0 where
  handles : (tag : ℕ) → LegacyClause
  handles_all : LegacyClause
  delegates : (n : ℕ) → LegacyClause

-- the data of an instruction in the tree, the sequences in it apart
pub record Instruction : Type 0 where
  pub op : TreeOperation
  pub clauses : List LegacyClause
  pub location : ℕ

abbrev pub FunctionTree : Type 0
FunctionTree = Tree Head Instruction

-- the second of two locations, or the first if the second says nothing
abbrev pub last_location : ℕ → ℕ → ℕ
last_location l m = if m == default_location then l else m

-- ---- the same tree: equal apart from all locations

abbrev pub Bare : Type 0
Bare = TreeOperation × List LegacyClause

abbrev pub bare : Instruction → Bare
bare i = (i.op, i.clauses)

abbrev pub bare_items : Items Head Instruction → Items InstrSeqType Bare
bare_items is = map_items (λ h. h.type) bare is

abbrev pub bare_sequences : Sequences Head Instruction → Sequences InstrSeqType Bare
bare_sequences ss = map_sequences (λ h. h.type) bare ss

abbrev pub IsSameTree : FunctionTree → FunctionTree → Type 0
IsSameTree t u = bare_sequences (alone t) ≡ bare_sequences (alone u)
