-- The meaning of an operator of the code: its opcode and its immediates, one row for each operator.
use Rattle.std.specs.Prelude.{ℕ, List, [], ◌∷◌}
use Rattle.wasm_operators.specs.declared.operator.Op.{Op}
use Rattle.wasm_operators.specs.declared.operator.Op.TheVariants as operator
use Rattle.wasm_operators.specs.declared.types.Opcode.TheVariants.{Byte, Prefixed}
use Rattle.wasm_operators.specs.declared.types.Space.TheVariants.{Tables, Types, Funcs, Globals, Memories, Elements, Data, Tags}
use Rattle.wasm_operators.specs.Operations.{CatchClause, index, local, label, handler, outer, branch_table, clauses, block, value, i32, i64, f32, f64, v128, lanes, zero_byte, RawOperation, operation}
use Rattle.wasm_operators.specs.Immediates.{Table}
use Rattle.wasm_operators.specs.UnaryOperations.{unary_operation}
use Rattle.wasm_operators.specs.BinaryOperations.{binary_operation}
use Rattle.wasm_operators.specs.TernaryOperations.{ternary_operation}
use Rattle.wasm_operators.specs.AccessOperations.{access_of, load_operation, store_operation}
use Rattle.wasm_operators.specs.VectorAccessOpcodes.{vector_access_operation}
use Rattle.wasm_operators.specs.AtomicOpcodes.{atomic_operation}
use Rattle.wasm_operators.specs.ReferenceOperations.{reference_operation}

-- The form in contracts of an operator with its lists. Lists that are read refer to the input, and lists that are written are
-- slices; in a contract, both are lists.
abbrev pub Listed : Type 0
Listed = Op Table (List (CatchClause ℕ))

abbrev pub meaning : Listed → RawOperation
meaning operator.Unreachable = operation (Byte 0x00) []
meaning operator.Nop = operation (Byte 0x01) []
meaning (operator.Block type) = operation (Byte 0x02) (block type ∷ [])
meaning (operator.Loop type) = operation (Byte 0x03) (block type ∷ [])
meaning (operator.If type) = operation (Byte 0x04) (block type ∷ [])
meaning operator.Else = operation (Byte 0x05) []
meaning (operator.Try type) = operation (Byte 0x06) (block type ∷ [])
meaning (operator.Catch tag) = operation (Byte 0x07) (index Tags tag ∷ [])
meaning (operator.Throw tag) = operation (Byte 0x08) (index Tags tag ∷ [])
meaning (operator.Rethrow depth) = operation (Byte 0x09) (handler depth ∷ [])
meaning operator.ThrowRef = operation (Byte 0x0a) []
meaning operator.End = operation (Byte 0x0b) []
meaning (operator.Br depth) = operation (Byte 0x0c) (label depth ∷ [])
meaning (operator.BrIf depth) = operation (Byte 0x0d) (label depth ∷ [])
meaning (operator.BrTable t) = operation (Byte 0x0e) (branch_table t.0 t.1 ∷ [])
meaning operator.Return = operation (Byte 0x0f) []
meaning (operator.Call func) = operation (Byte 0x10) (index Funcs func ∷ [])
meaning (operator.CallIndirect type table) = operation (Byte 0x11) (index Types type ∷ index Tables table ∷ [])
meaning (operator.ReturnCall func) = operation (Byte 0x12) (index Funcs func ∷ [])
meaning (operator.ReturnCallIndirect type table) = operation (Byte 0x13) (index Types type ∷ index Tables table ∷ [])
meaning (operator.CallRef type) = operation (Byte 0x14) (index Types type ∷ [])
meaning (operator.ReturnCallRef type) = operation (Byte 0x15) (index Types type ∷ [])
meaning (operator.Delegate depth) = operation (Byte 0x18) (outer depth ∷ [])
meaning operator.CatchAll = operation (Byte 0x19) []
meaning operator.Drop = operation (Byte 0x1a) []
meaning operator.Select = operation (Byte 0x1b) []
meaning (operator.TypedSelect type) = operation (Byte 0x1c) (value type ∷ [])
meaning (operator.TryTable type catches) = operation (Byte 0x1f) (block type ∷ clauses catches ∷ [])
meaning (operator.LocalGet n) = operation (Byte 0x20) (local n ∷ [])
meaning (operator.LocalSet n) = operation (Byte 0x21) (local n ∷ [])
meaning (operator.LocalTee n) = operation (Byte 0x22) (local n ∷ [])
meaning (operator.GlobalGet global) = operation (Byte 0x23) (index Globals global ∷ [])
meaning (operator.GlobalSet global) = operation (Byte 0x24) (index Globals global ∷ [])
meaning (operator.TableGet table) = operation (Byte 0x25) (index Tables table ∷ [])
meaning (operator.TableSet table) = operation (Byte 0x26) (index Tables table ∷ [])
meaning (operator.Load kind memarg) = load_operation kind (access_of memarg)
meaning (operator.Store kind memarg) = store_operation kind (access_of memarg)
meaning (operator.LoadSimd kind memarg) = vector_access_operation kind (access_of memarg)
meaning (operator.Atomic kind memarg) = atomic_operation kind (access_of memarg)
meaning operator.AtomicFence = operation (Prefixed 0xfe 3) (zero_byte ∷ [])
meaning (operator.MemorySize memory) = operation (Byte 0x3f) (index Memories memory ∷ [])
meaning (operator.MemoryGrow memory) = operation (Byte 0x40) (index Memories memory ∷ [])
meaning (operator.I32Const n) = operation (Byte 0x41) (i32 n ∷ [])
meaning (operator.I64Const n) = operation (Byte 0x42) (i64 n ∷ [])
meaning (operator.F32Const bits) = operation (Byte 0x43) (f32 bits ∷ [])
meaning (operator.F64Const bits) = operation (Byte 0x44) (f64 bits ∷ [])
meaning (operator.Unop op) = unary_operation op
meaning (operator.Binop op) = binary_operation op
meaning (operator.TernOp op) = ternary_operation op
meaning (operator.MemoryInit data_segment memory) = operation (Prefixed 0xfc 8) (index Data data_segment ∷ index Memories memory ∷ [])
meaning (operator.DataDrop data_segment) = operation (Prefixed 0xfc 9) (index Data data_segment ∷ [])
meaning (operator.MemoryCopy target source) = operation (Prefixed 0xfc 10) (index Memories target ∷ index Memories source ∷ [])
meaning (operator.MemoryFill memory) = operation (Prefixed 0xfc 11) (index Memories memory ∷ [])
meaning (operator.TableInit element table) = operation (Prefixed 0xfc 12) (index Elements element ∷ index Tables table ∷ [])
meaning (operator.ElemDrop element) = operation (Prefixed 0xfc 13) (index Elements element ∷ [])
meaning (operator.TableCopy target source) = operation (Prefixed 0xfc 14) (index Tables target ∷ index Tables source ∷ [])
meaning (operator.TableGrow table) = operation (Prefixed 0xfc 15) (index Tables table ∷ [])
meaning (operator.TableSize table) = operation (Prefixed 0xfc 16) (index Tables table ∷ [])
meaning (operator.TableFill table) = operation (Prefixed 0xfc 17) (index Tables table ∷ [])
meaning operator.I64Add128 = operation (Prefixed 0xfc 19) []
meaning operator.I64Sub128 = operation (Prefixed 0xfc 20) []
meaning operator.I64MulWideS = operation (Prefixed 0xfc 21) []
meaning operator.I64MulWideU = operation (Prefixed 0xfc 22) []
meaning (operator.V128Const bits) = operation (Prefixed 0xfd 12) (v128 bits ∷ [])
meaning (operator.I8x16Shuffle indices) = operation (Prefixed 0xfd 13) (lanes indices ∷ [])
meaning operator.I8x16Swizzle = operation (Prefixed 0xfd 14) []
meaning operator.V128Bitselect = operation (Prefixed 0xfd 82) []
meaning (operator.Reference op) = reference_operation op
