-- An operator as the definitions see it: its opcode, and its immediates in the order of writing (WebAssembly core specification
-- 3.0, binary format, instructions; the proposals for threads, wide arithmetic and legacy exception handling). `L` is the type
-- of labels and `B` that of block types: depths and encoded block types in an encoded operator, other types in a named operator
-- or in a tree.
use Rattle.std.specs.Prelude.{ℕ, ℤ, List, Option, Bool}
use Rattle.wasm_types.specs.declared.val_type.HeapType.{HeapType}
use Rattle.wasm_types.specs.declared.val_type.ValType.{ValType}
use Rattle.wasm_operators.specs.declared.types.BlockType.{BlockType}
use Rattle.wasm_operators.specs.declared.types.Opcode.{Opcode}
use Rattle.wasm_operators.specs.declared.types.Space.{Space}

-- An access to memory. The alignment is an exponent of two in encoded and named operators, and a number of bytes in the tree of
-- a function.
pub record Access : Type 0 where
  pub alignment : ℕ
  pub memory : ℕ
  pub offset : ℕ

-- A clause of `try_table`: whether it passes a reference to the exception, its tag (none if it catches all), and its label.
pub record CatchClause (L : Type 0) : Type 0 where
  pub by_reference : Bool
  pub tag : Option ℕ
  pub label : L

-- The immediates of `br_on_cast` and `br_on_cast_fail`.
pub record Cast (L : Type 0) : Type 0 where
  pub from_nullable : Bool
  pub to_nullable : Bool
  pub label : L
  pub source : HeapType ℕ
  pub target : HeapType ℕ

-- One immediate. An index has its space; a type index can also be part of a value, heap or block type.
pub data Immediate (L B : Type 0) : Type 0 where
  index : (space : Space) (n : ℕ) → Immediate L B
  local : (n : ℕ) → Immediate L B
  label : (l : L) → Immediate L B
  handler : (depth : ℕ) → Immediate L B  -- of `rethrow`: the depth of an enclosing handler
  outer : (depth : ℕ) → Immediate L B  -- of `delegate`: a label, counted from outside its construct
  number : (n : ℕ) → Immediate L B  -- a field of a struct, or the length of an array
  access : (a : Access) → Immediate L B
  branch_table : (targets : List L) (default : L) → Immediate L B
  clauses : (cs : List (CatchClause L)) → Immediate L B
  block : (type : B) → Immediate L B
  heap : (type : HeapType ℕ) → Immediate L B
  value : (type : ValType ℕ) → Immediate L B  -- of `select` with one type
  cast : (c : Cast L) → Immediate L B
  i32 : (z : ℤ) → Immediate L B
  i64 : (z : ℤ) → Immediate L B
  f32 : (bits : ℕ) → Immediate L B
  f64 : (bits : ℕ) → Immediate L B
  v128 : (bits : ℕ) → Immediate L B
  lane : (n : ℕ) → Immediate L B
  lanes : (ns : List ℕ) → Immediate L B  -- of `i8x16.shuffle`: sixteen
  zero_byte : Immediate L B  -- of `atomic.fence`

pub record Operation (L B : Type 0) : Type 0 where
  pub opcode : Opcode
  pub immediates : List (Immediate L B)

abbrev pub operation : {L B : Type 0} → Opcode → List (Immediate L B) → Operation L B
operation opcode immediates = record { opcode = opcode; immediates = immediates }

-- An immediate and an operator as they are encoded: raw indices, and labels as depths.
abbrev pub RawImmediate : Type 0
RawImmediate = Immediate ℕ BlockType

abbrev pub RawOperation : Type 0
RawOperation = Operation ℕ BlockType
