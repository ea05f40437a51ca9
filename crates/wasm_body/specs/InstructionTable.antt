-- The operator of each instruction of the tree: its opcode, and its immediates in the order in which they are written
-- (WebAssembly core specification 3.0, binary format, instructions). A label is the place of the sequence that it names in
-- the function's builder, and a block type is only a placeholder.
use Rattle.std.specs.Prelude.{ℕ, List, [], ◌∷◌, map, Bool, true, false, Option, Some, None}
use Rattle.walrus_ir.specs.declared.instr.Instr.{Instr}
use Rattle.walrus_ir.specs.declared.instr.Instr.TheVariants as instr
use Rattle.walrus_ir.specs.declared.control.TryTableCatch.{TryTableCatch}
use Rattle.walrus_ir.specs.declared.control.TryTableCatch.TheVariants as table_catch
use Rattle.walrus_ir.specs.declared.control.LegacyCatch.{LegacyCatch}
use Rattle.walrus_ir.specs.declared.control.LegacyCatch.TheVariants as legacy_catch
use Rattle.wasm_types.specs.declared.memory.MemArg.{MemArg}
use Rattle.walrus_ir.specs.declared.value.Value.{Value}
use Rattle.walrus_ir.specs.declared.value.Value.TheVariants.{I32, I64, F32, F64, V128}
use Rattle.wasm_types.specs.declared.val_type.ValType.{ValType}
use Rattle.wasm_operators.specs.declared.types.AtomicKind.{AtomicKind}
use Rattle.wasm_operators.specs.declared.types.AtomicKind.TheVariants.{Notify, Wait32, Wait64, Rmw, Cmpxchg}
use Rattle.wasm_operators.specs.declared.types.Opcode.TheVariants.{Byte, Prefixed}
use Rattle.wasm_operators.specs.declared.types.Space.TheVariants.{Types, Funcs, Tables, Globals, Memories, Elements, Data, Tags}
use Rattle.wasm_operators.specs.Operations.{Access, CatchClause, Immediate, index, local, label, handler, number, branch_table, clauses, block, heap, value, cast, i32, i64, f32, f64, v128, lanes, zero_byte, Operation, operation}
use Rattle.wasm_operators.specs.UnaryOperations.{unary_operation}
use Rattle.wasm_operators.specs.BinaryOperations.{binary_operation}
use Rattle.wasm_operators.specs.TernaryOperations.{ternary_operation}
use Rattle.wasm_operators.specs.AccessOperations.{load_operation, store_operation}
use Rattle.wasm_operators.specs.VectorAccessOpcodes.{vector_access_operation}
use Rattle.wasm_operators.specs.AtomicOpcodes.{atomic_operation}
use Rattle.wasm_operators.specs.ReferenceOperations.{by_null}
use Rattle.wasm_body.specs.FunctionTree.{LegacyClause, handles, handles_all, delegates}

abbrev pub PlacedImmediate : Type 0
PlacedImmediate = Immediate ℕ (Unit {0})

abbrev pub PlacedOperation : Type 0
PlacedOperation = Operation ℕ (Unit {0})

-- ---- immediates

abbrev pub block_immediate : PlacedImmediate
block_immediate = block tt

abbrev pub table_clause : TryTableCatch → CatchClause ℕ
table_clause (table_catch.Catch tag place) = record { by_reference = false; tag = Some tag; label = place }
table_clause (table_catch.CatchRef tag place) = record { by_reference = true; tag = Some tag; label = place }
table_clause (table_catch.CatchAll place) = record { by_reference = false; tag = None; label = place }
table_clause (table_catch.CatchAllRef place) = record { by_reference = true; tag = None; label = place }

-- with the alignment as a number of bytes
abbrev pub access_at : ℕ → MemArg → Access
access_at memory arg = record { alignment = arg.align; memory = memory; offset = arg.offset }

-- ---- operators

abbrev pub const_operation : Value → PlacedOperation
const_operation (I32 z) = operation (Byte 0x41) (i32 z ∷ [])
const_operation (I64 z) = operation (Byte 0x42) (i64 z ∷ [])
const_operation (F32 bits) = operation (Byte 0x43) (f32 bits ∷ [])
const_operation (F64 bits) = operation (Byte 0x44) (f64 bits ∷ [])
const_operation (V128 bits) = operation (Prefixed 0xfd 12) (v128 bits ∷ [])

abbrev pub select_operation : Option (ValType ℕ) → PlacedOperation
select_operation None = operation (Byte 0x1b) []
select_operation (Some type) = operation (Byte 0x1c) (value type ∷ [])

abbrev pub wait_kind : Bool → AtomicKind
wait_kind false = Wait32
wait_kind true = Wait64

-- ---- the table

-- one row for each instruction
abbrev pub operation_of : Instr → PlacedOperation
-- control, calls, operands, locals, globals and vectors
operation_of instr.Unreachable = operation (Byte 0x00) []
operation_of (instr.Block x) = operation (Byte 0x02) (block_immediate ∷ [])
operation_of (instr.Loop x) = operation (Byte 0x03) (block_immediate ∷ [])
operation_of (instr.IfElse x) = operation (Byte 0x04) (block_immediate ∷ [])
operation_of (instr.Try x) = operation (Byte 0x06) (block_immediate ∷ [])
operation_of (instr.TryTable x) =
    operation (Byte 0x1f) (block_immediate ∷ clauses (map table_clause x.catches) ∷ [])
operation_of (instr.Throw x) = operation (Byte 0x08) (index Tags x.tag ∷ [])
operation_of (instr.Rethrow x) = operation (Byte 0x09) (handler x.relative_depth ∷ [])
operation_of instr.ThrowRef = operation (Byte 0x0a) []
operation_of (instr.Br x) = operation (Byte 0x0c) (label x.block ∷ [])
operation_of (instr.BrIf x) = operation (Byte 0x0d) (label x.block ∷ [])
operation_of (instr.BrTable x) = operation (Byte 0x0e) (branch_table x.blocks x.default ∷ [])
operation_of (instr.BrOnNull x) = operation (Byte 0xd5) (label x.block ∷ [])
operation_of (instr.BrOnNonNull x) = operation (Byte 0xd6) (label x.block ∷ [])
operation_of (instr.BrOnCast x) = operation (Prefixed 0xfb 24) (cast (record { from_nullable = x.from_nullable; to_nullable = x.to_nullable; label = x.block; source = x.from_heap_type; target = x.to_heap_type }) ∷ [])
operation_of (instr.BrOnCastFail x) = operation (Prefixed 0xfb 25) (cast (record { from_nullable = x.from_nullable; to_nullable = x.to_nullable; label = x.block; source = x.from_heap_type; target = x.to_heap_type }) ∷ [])
operation_of instr.Return = operation (Byte 0x0f) []
operation_of (instr.Call x) = operation (Byte 0x10) (index Funcs x.func ∷ [])
operation_of (instr.CallIndirect x) = operation (Byte 0x11) (index Types x.ty ∷ index Tables x.table ∷ [])
operation_of (instr.CallRef x) = operation (Byte 0x14) (index Types x.ty ∷ [])
operation_of (instr.ReturnCall x) = operation (Byte 0x12) (index Funcs x.func ∷ [])
operation_of (instr.ReturnCallIndirect x) = operation (Byte 0x13) (index Types x.ty ∷ index Tables x.table ∷ [])
operation_of (instr.ReturnCallRef x) = operation (Byte 0x15) (index Types x.ty ∷ [])
operation_of instr.Drop = operation (Byte 0x1a) []
operation_of (instr.Select x) = select_operation x.ty
operation_of (instr.LocalGet x) = operation (Byte 0x20) (local x.local ∷ [])
operation_of (instr.LocalSet x) = operation (Byte 0x21) (local x.local ∷ [])
operation_of (instr.LocalTee x) = operation (Byte 0x22) (local x.local ∷ [])
operation_of (instr.GlobalGet x) = operation (Byte 0x23) (index Globals x.global ∷ [])
operation_of (instr.GlobalSet x) = operation (Byte 0x24) (index Globals x.global ∷ [])
operation_of (instr.Const x) = const_operation x.value
operation_of (instr.Unop x) = unary_operation x.op
operation_of (instr.Binop x) = binary_operation x.op
operation_of (instr.TernOp x) = ternary_operation x.op
operation_of (instr.I8x16Shuffle x) = operation (Prefixed 0xfd 13) (lanes x.indices ∷ [])
operation_of instr.I8x16Swizzle = operation (Prefixed 0xfd 14) []
operation_of instr.V128Bitselect = operation (Prefixed 0xfd 82) []
operation_of instr.I64Add128 = operation (Prefixed 0xfc 19) []
operation_of instr.I64Sub128 = operation (Prefixed 0xfc 20) []
operation_of instr.I64MulWideS = operation (Prefixed 0xfc 21) []
operation_of instr.I64MulWideU = operation (Prefixed 0xfc 22) []
-- memories and tables
operation_of (instr.Load x) = load_operation x.kind (access_at x.memory x.arg)
operation_of (instr.Store x) = store_operation x.kind (access_at x.memory x.arg)
operation_of (instr.LoadSimd x) = vector_access_operation x.kind (access_at x.memory x.arg)
operation_of (instr.AtomicRmw x) = atomic_operation (Rmw x.op x.width) (access_at x.memory x.arg)
operation_of (instr.Cmpxchg x) = atomic_operation (Cmpxchg x.width) (access_at x.memory x.arg)
operation_of (instr.AtomicNotify x) = atomic_operation Notify (access_at x.memory x.arg)
operation_of (instr.AtomicWait x) = atomic_operation (wait_kind x.sixty_four) (access_at x.memory x.arg)
operation_of instr.AtomicFence = operation (Prefixed 0xfe 3) (zero_byte ∷ [])
operation_of (instr.MemorySize x) = operation (Byte 0x3f) (index Memories x.memory ∷ [])
operation_of (instr.MemoryGrow x) = operation (Byte 0x40) (index Memories x.memory ∷ [])
operation_of (instr.MemoryInit x) = operation (Prefixed 0xfc 8) (index Data x.data_id ∷ index Memories x.memory ∷ [])
operation_of (instr.DataDrop x) = operation (Prefixed 0xfc 9) (index Data x.data_id ∷ [])
operation_of (instr.MemoryCopy x) = operation (Prefixed 0xfc 10) (index Memories x.dst ∷ index Memories x.src ∷ [])
operation_of (instr.MemoryFill x) = operation (Prefixed 0xfc 11) (index Memories x.memory ∷ [])
operation_of (instr.TableGet x) = operation (Byte 0x25) (index Tables x.table ∷ [])
operation_of (instr.TableSet x) = operation (Byte 0x26) (index Tables x.table ∷ [])
operation_of (instr.TableInit x) = operation (Prefixed 0xfc 12) (index Elements x.elem ∷ index Tables x.table ∷ [])
operation_of (instr.ElemDrop x) = operation (Prefixed 0xfc 13) (index Elements x.elem ∷ [])
operation_of (instr.TableCopy x) = operation (Prefixed 0xfc 14) (index Tables x.dst ∷ index Tables x.src ∷ [])
operation_of (instr.TableGrow x) = operation (Prefixed 0xfc 15) (index Tables x.table ∷ [])
operation_of (instr.TableSize x) = operation (Prefixed 0xfc 16) (index Tables x.table ∷ [])
operation_of (instr.TableFill x) = operation (Prefixed 0xfc 17) (index Tables x.table ∷ [])
-- structs, arrays and references
operation_of (instr.RefNull x) = operation (Byte 0xd0) (heap x.ty.heap_type ∷ [])
operation_of instr.RefIsNull = operation (Byte 0xd1) []
operation_of (instr.RefFunc x) = operation (Byte 0xd2) (index Funcs x.func ∷ [])
operation_of instr.RefEq = operation (Byte 0xd3) []
operation_of instr.RefAsNonNull = operation (Byte 0xd4) []
operation_of (instr.StructNew x) = operation (Prefixed 0xfb 0) (index Types x.ty ∷ [])
operation_of (instr.StructNewDefault x) = operation (Prefixed 0xfb 1) (index Types x.ty ∷ [])
operation_of (instr.StructGet x) = operation (Prefixed 0xfb 2) (index Types x.ty ∷ number x.field ∷ [])
operation_of (instr.StructGetS x) = operation (Prefixed 0xfb 3) (index Types x.ty ∷ number x.field ∷ [])
operation_of (instr.StructGetU x) = operation (Prefixed 0xfb 4) (index Types x.ty ∷ number x.field ∷ [])
operation_of (instr.StructSet x) = operation (Prefixed 0xfb 5) (index Types x.ty ∷ number x.field ∷ [])
operation_of (instr.ArrayNew x) = operation (Prefixed 0xfb 6) (index Types x.ty ∷ [])
operation_of (instr.ArrayNewDefault x) = operation (Prefixed 0xfb 7) (index Types x.ty ∷ [])
operation_of (instr.ArrayNewFixed x) = operation (Prefixed 0xfb 8) (index Types x.ty ∷ number x.len ∷ [])
operation_of (instr.ArrayNewData x) = operation (Prefixed 0xfb 9) (index Types x.ty ∷ index Data x.data_id ∷ [])
operation_of (instr.ArrayNewElem x) = operation (Prefixed 0xfb 10) (index Types x.ty ∷ index Elements x.elem ∷ [])
operation_of (instr.ArrayGet x) = operation (Prefixed 0xfb 11) (index Types x.ty ∷ [])
operation_of (instr.ArrayGetS x) = operation (Prefixed 0xfb 12) (index Types x.ty ∷ [])
operation_of (instr.ArrayGetU x) = operation (Prefixed 0xfb 13) (index Types x.ty ∷ [])
operation_of (instr.ArraySet x) = operation (Prefixed 0xfb 14) (index Types x.ty ∷ [])
operation_of instr.ArrayLen = operation (Prefixed 0xfb 15) []
operation_of (instr.ArrayFill x) = operation (Prefixed 0xfb 16) (index Types x.ty ∷ [])
operation_of (instr.ArrayCopy x) = operation (Prefixed 0xfb 17) (index Types x.dst_ty ∷ index Types x.src_ty ∷ [])
operation_of (instr.ArrayInitData x) = operation (Prefixed 0xfb 18) (index Types x.ty ∷ index Data x.data_id ∷ [])
operation_of (instr.ArrayInitElem x) = operation (Prefixed 0xfb 19) (index Types x.ty ∷ index Elements x.elem ∷ [])
operation_of (instr.RefTest x) = operation (by_null x.nullable 20 21) (heap x.heap_type ∷ [])
operation_of (instr.RefCast x) = operation (by_null x.nullable 22 23) (heap x.heap_type ∷ [])
operation_of instr.AnyConvertExtern = operation (Prefixed 0xfb 26) []
operation_of instr.ExternConvertAny = operation (Prefixed 0xfb 27) []
operation_of instr.RefI31 = operation (Prefixed 0xfb 28) []
operation_of instr.I31GetS = operation (Prefixed 0xfb 29) []
operation_of instr.I31GetU = operation (Prefixed 0xfb 30) []

-- ---- the clauses of a legacy `try`

abbrev pub legacy_clause : LegacyCatch → LegacyClause
legacy_clause (legacy_catch.Catch tag place) = handles tag
legacy_clause (legacy_catch.CatchAll place) = handles_all
legacy_clause (legacy_catch.Delegate depth) = delegates depth

abbrev pub clauses_of_try : Instr → List LegacyClause
clauses_of_try (instr.Try x) = map legacy_clause x.catches
clauses_of_try _ = []
