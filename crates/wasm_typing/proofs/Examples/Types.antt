-- The types of operators by their names, from the standard's text: the first and the last operator of each range of the table, and others.
use Rattle.std.specs.Prelude.{pos, ◌≡◌, ℕ, List, [], ◌∷◌, Bool, true, false, ◌&&◌, Option, Some, Ok, Err, refl}
use Rattle.std.specs.List.{list_all}
use Rattle.wasm_types.specs.declared.binary.BinaryOp.TheVariants as binary
use Rattle.wasm_types.specs.declared.memory.AtomicOp.TheVariants.{Add, Xchg}
use Rattle.wasm_types.specs.declared.memory.AtomicWidth.TheVariants as width
use Rattle.wasm_types.specs.declared.memory.ExtendedLoad.TheVariants.{SignExtend, ZeroExtend, ZeroExtendAtomic}
use Rattle.wasm_types.specs.declared.memory.LoadKind.TheVariants as load
use Rattle.wasm_types.specs.declared.memory.LoadSimdKind.TheVariants as vector_access
use Rattle.wasm_types.specs.declared.memory.StoreKind.TheVariants as store
use Rattle.wasm_types.specs.declared.ternary.TernaryOp.TheVariants as ternary
use Rattle.wasm_types.specs.declared.unary.UnaryOp.TheVariants as unary
use Rattle.wasm_types.specs.declared.val_type.AbstractHeapType.TheVariants as abstract
use Rattle.wasm_types.specs.declared.val_type.HeapType.TheVariants.{Abstract, Concrete}
use Rattle.wasm_types.specs.declared.val_type.ValType.{ValType}
use Rattle.wasm_types.specs.declared.val_type.ValType.TheVariants.{I32, I64, F32, F64, V128, Ref}
use Rattle.walrus_ir.specs.Types.{same_types}
use Rattle.wasm_operators.specs.declared.types.AtomicKind.TheVariants.{Notify, Wait32, Wait64, Rmw, Cmpxchg}
use Rattle.wasm_operators.specs.declared.types.Opcode.{Opcode}
use Rattle.wasm_operators.specs.declared.types.Opcode.TheVariants.{Byte, Prefixed}
use Rattle.wasm_operators.specs.declared.types.Space.{Space}
use Rattle.wasm_operators.specs.declared.types.Space.TheVariants.{Tables, Types, Funcs, Globals, Memories, Elements, Data}
use Rattle.wasm_operators.specs.Operations.{Access, index, local, number, heap, value, i32, i64, f32, f64, v128, zero_byte, operation}
use Rattle.wasm_operators.specs.UnaryOperations.{unary_operation}
use Rattle.wasm_operators.specs.BinaryOperations.{binary_operation}
use Rattle.wasm_operators.specs.TernaryOperations.{ternary_operation}
use Rattle.wasm_operators.specs.AccessOperations.{load_operation, store_operation}
use Rattle.wasm_operators.specs.AtomicOpcodes.{atomic_operation}
use Rattle.wasm_operators.specs.VectorAccessOpcodes.{vector_access_operation}
use Rattle.wasm_body.specs.Naming.{NamedOperation}
use Rattle.wasm_body.specs.Validity.{Checked}
use Rattle.wasm_typing.specs.Operands.{InstructionType, ◌⟶◌}
use Rattle.wasm_typing.specs.Rules.{ref, ref_null, Rule, by_type}
use Rattle.wasm_typing.specs.RuleTable.{rule_of}
use Rattle.wasm_typing.proofs.Examples.Module.{context, func_null, extern_null}

abbrev is_type : InstructionType → Checked InstructionType → Bool
is_type t (Ok u) = same_types t.takes u.takes && same_types t.gives u.gives
is_type t (Err e) = false

abbrev rule_gives : InstructionType → NamedOperation → Option Rule → Bool
rule_gives t o (Some (by_type rule)) = is_type t (rule context o.immediates)
rule_gives t o _ = false

abbrev Named : Type 0
Named = NamedOperation × InstructionType

abbrev has_type : Named → Bool
has_type row = rule_gives row.1 row.0 (rule_of row.0.opcode)

abbrev HaveTypes : List Named → Type 0
HaveTypes rows = list_all has_type rows ≡ true

-- ---- scalar operators

abbrev scalar_unary : List Named
scalar_unary =
    (unary_operation unary.I32Eqz, I32 ∷ [] ⟶ I32 ∷ []) ∷
    (unary_operation unary.I64Eqz, I64 ∷ [] ⟶ I32 ∷ []) ∷
    (unary_operation unary.I32Clz, I32 ∷ [] ⟶ I32 ∷ []) ∷
    (unary_operation unary.I32Popcnt, I32 ∷ [] ⟶ I32 ∷ []) ∷
    (unary_operation unary.I64Clz, I64 ∷ [] ⟶ I64 ∷ []) ∷
    (unary_operation unary.I64Popcnt, I64 ∷ [] ⟶ I64 ∷ []) ∷
    (unary_operation unary.F32Abs, F32 ∷ [] ⟶ F32 ∷ []) ∷
    (unary_operation unary.F32Sqrt, F32 ∷ [] ⟶ F32 ∷ []) ∷
    (unary_operation unary.F64Abs, F64 ∷ [] ⟶ F64 ∷ []) ∷
    (unary_operation unary.F64Sqrt, F64 ∷ [] ⟶ F64 ∷ []) ∷
    (unary_operation unary.I32WrapI64, I64 ∷ [] ⟶ I32 ∷ []) ∷
    (unary_operation unary.I32TruncSF32, F32 ∷ [] ⟶ I32 ∷ []) ∷
    (unary_operation unary.I32TruncUF32, F32 ∷ [] ⟶ I32 ∷ []) ∷
    (unary_operation unary.I32TruncSF64, F64 ∷ [] ⟶ I32 ∷ []) ∷
    (unary_operation unary.I32TruncUF64, F64 ∷ [] ⟶ I32 ∷ []) ∷
    (unary_operation unary.I64ExtendSI32, I32 ∷ [] ⟶ I64 ∷ []) ∷
    (unary_operation unary.I64ExtendUI32, I32 ∷ [] ⟶ I64 ∷ []) ∷
    (unary_operation unary.I64TruncSF32, F32 ∷ [] ⟶ I64 ∷ []) ∷
    (unary_operation unary.I64TruncUF32, F32 ∷ [] ⟶ I64 ∷ []) ∷
    (unary_operation unary.I64TruncSF64, F64 ∷ [] ⟶ I64 ∷ []) ∷
    (unary_operation unary.I64TruncUF64, F64 ∷ [] ⟶ I64 ∷ []) ∷
    (unary_operation unary.F32ConvertSI32, I32 ∷ [] ⟶ F32 ∷ []) ∷
    (unary_operation unary.F32ConvertUI32, I32 ∷ [] ⟶ F32 ∷ []) ∷
    (unary_operation unary.F32ConvertSI64, I64 ∷ [] ⟶ F32 ∷ []) ∷
    (unary_operation unary.F32ConvertUI64, I64 ∷ [] ⟶ F32 ∷ []) ∷
    (unary_operation unary.F32DemoteF64, F64 ∷ [] ⟶ F32 ∷ []) ∷
    (unary_operation unary.F64ConvertSI32, I32 ∷ [] ⟶ F64 ∷ []) ∷
    (unary_operation unary.F64ConvertUI32, I32 ∷ [] ⟶ F64 ∷ []) ∷
    (unary_operation unary.F64ConvertSI64, I64 ∷ [] ⟶ F64 ∷ []) ∷
    (unary_operation unary.F64ConvertUI64, I64 ∷ [] ⟶ F64 ∷ []) ∷
    (unary_operation unary.F64PromoteF32, F32 ∷ [] ⟶ F64 ∷ []) ∷
    (unary_operation unary.I32ReinterpretF32, F32 ∷ [] ⟶ I32 ∷ []) ∷
    (unary_operation unary.I64ReinterpretF64, F64 ∷ [] ⟶ I64 ∷ []) ∷
    (unary_operation unary.F32ReinterpretI32, I32 ∷ [] ⟶ F32 ∷ []) ∷
    (unary_operation unary.F64ReinterpretI64, I64 ∷ [] ⟶ F64 ∷ []) ∷
    (unary_operation unary.I32Extend8S, I32 ∷ [] ⟶ I32 ∷ []) ∷
    (unary_operation unary.I32Extend16S, I32 ∷ [] ⟶ I32 ∷ []) ∷
    (unary_operation unary.I64Extend8S, I64 ∷ [] ⟶ I64 ∷ []) ∷
    (unary_operation unary.I64Extend32S, I64 ∷ [] ⟶ I64 ∷ []) ∷
    (unary_operation unary.I32TruncSSatF32, F32 ∷ [] ⟶ I32 ∷ []) ∷
    (unary_operation unary.I32TruncUSatF32, F32 ∷ [] ⟶ I32 ∷ []) ∷
    (unary_operation unary.I32TruncSSatF64, F64 ∷ [] ⟶ I32 ∷ []) ∷
    (unary_operation unary.I32TruncUSatF64, F64 ∷ [] ⟶ I32 ∷ []) ∷
    (unary_operation unary.I64TruncSSatF32, F32 ∷ [] ⟶ I64 ∷ []) ∷
    (unary_operation unary.I64TruncUSatF32, F32 ∷ [] ⟶ I64 ∷ []) ∷
    (unary_operation unary.I64TruncSSatF64, F64 ∷ [] ⟶ I64 ∷ []) ∷
    (unary_operation unary.I64TruncUSatF64, F64 ∷ [] ⟶ I64 ∷ []) ∷
    []

scalar_unary_types : HaveTypes scalar_unary
scalar_unary_types = refl

abbrev scalar_binary : List Named
scalar_binary =
    (binary_operation binary.I32Eq, I32 ∷ I32 ∷ [] ⟶ I32 ∷ []) ∷
    (binary_operation binary.I32GeU, I32 ∷ I32 ∷ [] ⟶ I32 ∷ []) ∷
    (binary_operation binary.I64Eq, I64 ∷ I64 ∷ [] ⟶ I32 ∷ []) ∷
    (binary_operation binary.I64GeU, I64 ∷ I64 ∷ [] ⟶ I32 ∷ []) ∷
    (binary_operation binary.F32Eq, F32 ∷ F32 ∷ [] ⟶ I32 ∷ []) ∷
    (binary_operation binary.F32Ge, F32 ∷ F32 ∷ [] ⟶ I32 ∷ []) ∷
    (binary_operation binary.F64Eq, F64 ∷ F64 ∷ [] ⟶ I32 ∷ []) ∷
    (binary_operation binary.F64Ge, F64 ∷ F64 ∷ [] ⟶ I32 ∷ []) ∷
    (binary_operation binary.I32Add, I32 ∷ I32 ∷ [] ⟶ I32 ∷ []) ∷
    (binary_operation binary.I32Rotr, I32 ∷ I32 ∷ [] ⟶ I32 ∷ []) ∷
    (binary_operation binary.I64Add, I64 ∷ I64 ∷ [] ⟶ I64 ∷ []) ∷
    (binary_operation binary.I64Rotr, I64 ∷ I64 ∷ [] ⟶ I64 ∷ []) ∷
    (binary_operation binary.F32Add, F32 ∷ F32 ∷ [] ⟶ F32 ∷ []) ∷
    (binary_operation binary.F32Copysign, F32 ∷ F32 ∷ [] ⟶ F32 ∷ []) ∷
    (binary_operation binary.F64Add, F64 ∷ F64 ∷ [] ⟶ F64 ∷ []) ∷
    (binary_operation binary.F64Copysign, F64 ∷ F64 ∷ [] ⟶ F64 ∷ []) ∷
    []

scalar_binary_types : HaveTypes scalar_binary
scalar_binary_types = refl

-- ---- vectors: operators that take or give another type than v128

abbrev lane_rows : List Named
lane_rows =
    (unary_operation unary.I8x16Splat, I32 ∷ [] ⟶ V128 ∷ []) ∷
    (unary_operation unary.I16x8Splat, I32 ∷ [] ⟶ V128 ∷ []) ∷
    (unary_operation unary.I32x4Splat, I32 ∷ [] ⟶ V128 ∷ []) ∷
    (unary_operation unary.I64x2Splat, I64 ∷ [] ⟶ V128 ∷ []) ∷
    (unary_operation unary.F32x4Splat, F32 ∷ [] ⟶ V128 ∷ []) ∷
    (unary_operation unary.F64x2Splat, F64 ∷ [] ⟶ V128 ∷ []) ∷
    (unary_operation (unary.I8x16ExtractLaneS 15), V128 ∷ [] ⟶ I32 ∷ []) ∷
    (unary_operation (unary.I8x16ExtractLaneU 15), V128 ∷ [] ⟶ I32 ∷ []) ∷
    (unary_operation (unary.I16x8ExtractLaneS 7), V128 ∷ [] ⟶ I32 ∷ []) ∷
    (unary_operation (unary.I16x8ExtractLaneU 7), V128 ∷ [] ⟶ I32 ∷ []) ∷
    (unary_operation (unary.I32x4ExtractLane 3), V128 ∷ [] ⟶ I32 ∷ []) ∷
    (unary_operation (unary.I64x2ExtractLane 1), V128 ∷ [] ⟶ I64 ∷ []) ∷
    (unary_operation (unary.F32x4ExtractLane 3), V128 ∷ [] ⟶ F32 ∷ []) ∷
    (unary_operation (unary.F64x2ExtractLane 1), V128 ∷ [] ⟶ F64 ∷ []) ∷
    (binary_operation (binary.I8x16ReplaceLane 15), V128 ∷ I32 ∷ [] ⟶ V128 ∷ []) ∷
    (binary_operation (binary.I16x8ReplaceLane 7), V128 ∷ I32 ∷ [] ⟶ V128 ∷ []) ∷
    (binary_operation (binary.I32x4ReplaceLane 3), V128 ∷ I32 ∷ [] ⟶ V128 ∷ []) ∷
    (binary_operation (binary.I64x2ReplaceLane 1), V128 ∷ I64 ∷ [] ⟶ V128 ∷ []) ∷
    (binary_operation (binary.F32x4ReplaceLane 3), V128 ∷ F32 ∷ [] ⟶ V128 ∷ []) ∷
    (binary_operation (binary.F64x2ReplaceLane 1), V128 ∷ F64 ∷ [] ⟶ V128 ∷ []) ∷
    (unary_operation unary.V128AnyTrue, V128 ∷ [] ⟶ I32 ∷ []) ∷
    (unary_operation unary.I8x16AllTrue, V128 ∷ [] ⟶ I32 ∷ []) ∷
    (unary_operation unary.I8x16Bitmask, V128 ∷ [] ⟶ I32 ∷ []) ∷
    (unary_operation unary.I16x8AllTrue, V128 ∷ [] ⟶ I32 ∷ []) ∷
    (unary_operation unary.I16x8Bitmask, V128 ∷ [] ⟶ I32 ∷ []) ∷
    (unary_operation unary.I32x4AllTrue, V128 ∷ [] ⟶ I32 ∷ []) ∷
    (unary_operation unary.I32x4Bitmask, V128 ∷ [] ⟶ I32 ∷ []) ∷
    (unary_operation unary.I64x2AllTrue, V128 ∷ [] ⟶ I32 ∷ []) ∷
    (unary_operation unary.I64x2Bitmask, V128 ∷ [] ⟶ I32 ∷ []) ∷
    (binary_operation binary.I8x16Shl, V128 ∷ I32 ∷ [] ⟶ V128 ∷ []) ∷
    (binary_operation binary.I8x16ShrU, V128 ∷ I32 ∷ [] ⟶ V128 ∷ []) ∷
    (binary_operation binary.I16x8Shl, V128 ∷ I32 ∷ [] ⟶ V128 ∷ []) ∷
    (binary_operation binary.I16x8ShrU, V128 ∷ I32 ∷ [] ⟶ V128 ∷ []) ∷
    (binary_operation binary.I32x4Shl, V128 ∷ I32 ∷ [] ⟶ V128 ∷ []) ∷
    (binary_operation binary.I32x4ShrU, V128 ∷ I32 ∷ [] ⟶ V128 ∷ []) ∷
    (binary_operation binary.I64x2Shl, V128 ∷ I32 ∷ [] ⟶ V128 ∷ []) ∷
    (binary_operation binary.I64x2ShrU, V128 ∷ I32 ∷ [] ⟶ V128 ∷ []) ∷
    []

lane_types : HaveTypes lane_rows
lane_types = refl

-- others, where operators of one operand and of two alternate
abbrev vector_rows : List Named
vector_rows =
    (binary_operation binary.I8x16Eq, V128 ∷ V128 ∷ [] ⟶ V128 ∷ []) ∷
    (unary_operation unary.V128Not, V128 ∷ [] ⟶ V128 ∷ []) ∷
    (binary_operation binary.I8x16NarrowI16x8S, V128 ∷ V128 ∷ [] ⟶ V128 ∷ []) ∷
    (unary_operation unary.F32x4Nearest, V128 ∷ [] ⟶ V128 ∷ []) ∷
    (binary_operation binary.I8x16SubSatU, V128 ∷ V128 ∷ [] ⟶ V128 ∷ []) ∷
    (unary_operation unary.F64x2Floor, V128 ∷ [] ⟶ V128 ∷ []) ∷
    (unary_operation unary.F64x2Trunc, V128 ∷ [] ⟶ V128 ∷ []) ∷
    (binary_operation binary.I8x16AvgrU, V128 ∷ V128 ∷ [] ⟶ V128 ∷ []) ∷
    (unary_operation unary.I16x8Neg, V128 ∷ [] ⟶ V128 ∷ []) ∷
    (binary_operation binary.I16x8Q15MulrSatS, V128 ∷ V128 ∷ [] ⟶ V128 ∷ []) ∷
    (unary_operation unary.F64x2Nearest, V128 ∷ [] ⟶ V128 ∷ []) ∷
    (binary_operation binary.I32x4DotI16x8S, V128 ∷ V128 ∷ [] ⟶ V128 ∷ []) ∷
    (unary_operation unary.F64x2Sqrt, V128 ∷ [] ⟶ V128 ∷ []) ∷
    (unary_operation unary.F64x2ConvertLowI32x4U, V128 ∷ [] ⟶ V128 ∷ []) ∷
    (binary_operation binary.I8x16RelaxedSwizzle, V128 ∷ V128 ∷ [] ⟶ V128 ∷ []) ∷
    (ternary_operation ternary.F32x4RelaxedMadd, V128 ∷ V128 ∷ V128 ∷ [] ⟶ V128 ∷ []) ∷
    (ternary_operation ternary.I32x4RelaxedDotI8x16I7x16AddS, V128 ∷ V128 ∷ V128 ∷ [] ⟶ V128 ∷ []) ∷
    []

vector_types : HaveTypes vector_rows
vector_types = refl

-- ---- accesses, each with its natural alignment

abbrev at : (exponent memory : ℕ) → Access
at exponent memory = record { alignment = exponent; memory = memory; offset = 0 }

abbrev access_rows : List Named
access_rows =
    (load_operation (load.I32 false) (at 2 0), I32 ∷ [] ⟶ I32 ∷ []) ∷
    (load_operation (load.I64 false) (at 3 0), I32 ∷ [] ⟶ I64 ∷ []) ∷
    (load_operation load.F32 (at 2 0), I32 ∷ [] ⟶ F32 ∷ []) ∷
    (load_operation load.F64 (at 3 1), I64 ∷ [] ⟶ F64 ∷ []) ∷
    (load_operation load.V128 (at 4 0), I32 ∷ [] ⟶ V128 ∷ []) ∷
    (load_operation (load.I32_8 SignExtend) (at 0 0), I32 ∷ [] ⟶ I32 ∷ []) ∷
    (load_operation (load.I32_16 ZeroExtend) (at 1 0), I32 ∷ [] ⟶ I32 ∷ []) ∷
    (load_operation (load.I64_8 ZeroExtend) (at 0 0), I32 ∷ [] ⟶ I64 ∷ []) ∷
    (load_operation (load.I64_16 SignExtend) (at 1 0), I32 ∷ [] ⟶ I64 ∷ []) ∷
    (load_operation (load.I64_32 SignExtend) (at 2 0), I32 ∷ [] ⟶ I64 ∷ []) ∷
    (store_operation (store.I32 false) (at 2 0), I32 ∷ I32 ∷ [] ⟶ []) ∷
    (store_operation (store.I64 false) (at 3 1), I64 ∷ I64 ∷ [] ⟶ []) ∷
    (store_operation store.F32 (at 2 0), I32 ∷ F32 ∷ [] ⟶ []) ∷
    (store_operation store.F64 (at 3 0), I32 ∷ F64 ∷ [] ⟶ []) ∷
    (store_operation store.V128 (at 4 0), I32 ∷ V128 ∷ [] ⟶ []) ∷
    (store_operation (store.I32_8 false) (at 0 0), I32 ∷ I32 ∷ [] ⟶ []) ∷
    (store_operation (store.I32_16 false) (at 1 0), I32 ∷ I32 ∷ [] ⟶ []) ∷
    (store_operation (store.I64_8 false) (at 0 0), I32 ∷ I64 ∷ [] ⟶ []) ∷
    (store_operation (store.I64_16 false) (at 1 0), I32 ∷ I64 ∷ [] ⟶ []) ∷
    (store_operation (store.I64_32 false) (at 2 0), I32 ∷ I64 ∷ [] ⟶ []) ∷
    (vector_access_operation vector_access.V128Load8x8S (at 3 0), I32 ∷ [] ⟶ V128 ∷ []) ∷
    (vector_access_operation vector_access.V128Load32x2U (at 3 0), I32 ∷ [] ⟶ V128 ∷ []) ∷
    (vector_access_operation vector_access.Splat8 (at 0 0), I32 ∷ [] ⟶ V128 ∷ []) ∷
    (vector_access_operation vector_access.Splat64 (at 3 1), I64 ∷ [] ⟶ V128 ∷ []) ∷
    (vector_access_operation vector_access.V128Load32Zero (at 2 0), I32 ∷ [] ⟶ V128 ∷ []) ∷
    (vector_access_operation vector_access.V128Load64Zero (at 3 0), I32 ∷ [] ⟶ V128 ∷ []) ∷
    (vector_access_operation (vector_access.V128Load8Lane 15) (at 0 0), I32 ∷ V128 ∷ [] ⟶ V128 ∷ []) ∷
    (vector_access_operation (vector_access.V128Load64Lane 1) (at 3 0), I32 ∷ V128 ∷ [] ⟶ V128 ∷ []) ∷
    (vector_access_operation (vector_access.V128Store16Lane 7) (at 1 0), I32 ∷ V128 ∷ [] ⟶ []) ∷
    (vector_access_operation (vector_access.V128Store64Lane 1) (at 3 0), I32 ∷ V128 ∷ [] ⟶ []) ∷
    []

access_types : HaveTypes access_rows
access_types = refl

abbrev atomic_rows : List Named
atomic_rows =
    (atomic_operation Notify (at 2 0), I32 ∷ I32 ∷ [] ⟶ I32 ∷ []) ∷
    (atomic_operation Wait32 (at 2 0), I32 ∷ I32 ∷ I64 ∷ [] ⟶ I32 ∷ []) ∷
    (atomic_operation Wait64 (at 3 1), I64 ∷ I64 ∷ I64 ∷ [] ⟶ I32 ∷ []) ∷
    (load_operation (load.I32 true) (at 2 0), I32 ∷ [] ⟶ I32 ∷ []) ∷
    (load_operation (load.I64 true) (at 3 0), I32 ∷ [] ⟶ I64 ∷ []) ∷
    (load_operation (load.I64_32 ZeroExtendAtomic) (at 2 0), I32 ∷ [] ⟶ I64 ∷ []) ∷
    (store_operation (store.I32 true) (at 2 0), I32 ∷ I32 ∷ [] ⟶ []) ∷
    (store_operation (store.I64_8 true) (at 0 0), I32 ∷ I64 ∷ [] ⟶ []) ∷
    (store_operation (store.I64_32 true) (at 2 0), I32 ∷ I64 ∷ [] ⟶ []) ∷
    (atomic_operation (Rmw Add width.I32) (at 2 0), I32 ∷ I32 ∷ [] ⟶ I32 ∷ []) ∷
    (atomic_operation (Rmw Add width.I64_16) (at 1 0), I32 ∷ I64 ∷ [] ⟶ I64 ∷ []) ∷
    (atomic_operation (Rmw Xchg width.I64_32) (at 2 0), I32 ∷ I64 ∷ [] ⟶ I64 ∷ []) ∷
    (atomic_operation (Cmpxchg width.I32_8) (at 0 0), I32 ∷ I32 ∷ I32 ∷ [] ⟶ I32 ∷ []) ∷
    (atomic_operation (Cmpxchg width.I64) (at 3 1), I64 ∷ I64 ∷ I64 ∷ [] ⟶ I64 ∷ []) ∷
    []

atomic_types : HaveTypes atomic_rows
atomic_types = refl

-- ---- operators whose types depend on the module

abbrev with_index : Opcode → Space → ℕ → NamedOperation
with_index o space n = operation o (index space n ∷ [])

abbrev with_indices : Opcode → Space → ℕ → Space → ℕ → NamedOperation
with_indices o space m other n = operation o (index space m ∷ index other n ∷ [])

abbrev with_field : ℕ → (type field : ℕ) → NamedOperation
with_field n type field = operation (Prefixed 0xfb n) (index Types type ∷ number field ∷ [])

abbrev id_ref : ℕ → ValType ℕ
id_ref id = ref (Concrete id)

abbrev id_null : ℕ → ValType ℕ
id_null id = ref_null (Concrete id)

abbrev module_rows : List Named
module_rows =
    (with_index (Byte 0x10) Funcs 1, I32 ∷ [] ⟶ I32 ∷ []) ∷  -- call
    (with_indices (Byte 0x11) Types 1 Tables 0, I32 ∷ I32 ∷ [] ⟶ I32 ∷ []) ∷  -- call_indirect
    (with_index (Byte 0x14) Types 1, I32 ∷ id_null 1 ∷ [] ⟶ I32 ∷ []) ∷  -- call_ref
    (operation (Byte 0x1c) (value F64 ∷ []), F64 ∷ F64 ∷ I32 ∷ [] ⟶ F64 ∷ []) ∷  -- select
    (operation (Byte 0x21) (local 3 ∷ []), F64 ∷ [] ⟶ []) ∷  -- local.set
    (operation (Byte 0x22) (local 3 ∷ []), F64 ∷ [] ⟶ F64 ∷ []) ∷  -- local.tee
    (with_index (Byte 0x23) Globals 1, [] ⟶ I64 ∷ []) ∷  -- global.get
    (with_index (Byte 0x24) Globals 0, I32 ∷ [] ⟶ []) ∷  -- global.set
    (with_index (Byte 0x25) Tables 1, I64 ∷ [] ⟶ Ref extern_null ∷ []) ∷  -- table.get
    (with_index (Byte 0x26) Tables 1, I64 ∷ Ref extern_null ∷ [] ⟶ []) ∷  -- table.set
    (with_index (Byte 0x3f) Memories 1, [] ⟶ I64 ∷ []) ∷  -- memory.size
    (with_index (Byte 0x40) Memories 1, I64 ∷ [] ⟶ I64 ∷ []) ∷  -- memory.grow
    (operation (Byte 0x41) (i32 (pos 7) ∷ []), [] ⟶ I32 ∷ []) ∷  -- constants
    (operation (Byte 0x42) (i64 (pos 7) ∷ []), [] ⟶ I64 ∷ []) ∷
    (operation (Byte 0x43) (f32 7 ∷ []), [] ⟶ F32 ∷ []) ∷
    (operation (Byte 0x44) (f64 7 ∷ []), [] ⟶ F64 ∷ []) ∷
    (operation (Prefixed 0xfd 12) (v128 7 ∷ []), [] ⟶ V128 ∷ []) ∷
    (operation (Byte 0xd0) (heap (Concrete 2) ∷ []), [] ⟶ id_null 2 ∷ []) ∷  -- ref.null
    (with_index (Byte 0xd2) Funcs 1, [] ⟶ id_ref 1 ∷ []) ∷  -- ref.func
    (operation (Byte 0xd3) [], ref_null (Abstract abstract.Eq) ∷ ref_null (Abstract abstract.Eq) ∷ [] ⟶ I32 ∷ []) ∷  -- ref.eq
    (with_indices (Prefixed 0xfc 8) Data 0 Memories 1, I64 ∷ I32 ∷ I32 ∷ [] ⟶ []) ∷  -- memory.init
    (with_index (Prefixed 0xfc 9) Data 0, [] ⟶ []) ∷  -- data.drop
    (with_indices (Prefixed 0xfc 10) Memories 1 Memories 1, I64 ∷ I64 ∷ I64 ∷ [] ⟶ []) ∷  -- memory.copy
    (with_index (Prefixed 0xfc 11) Memories 1, I64 ∷ I32 ∷ I64 ∷ [] ⟶ []) ∷  -- memory.fill
    (with_indices (Prefixed 0xfc 12) Elements 1 Tables 1, I64 ∷ I32 ∷ I32 ∷ [] ⟶ []) ∷  -- table.init
    (with_index (Prefixed 0xfc 13) Elements 1, [] ⟶ []) ∷  -- elem.drop
    (with_indices (Prefixed 0xfc 14) Tables 1 Tables 1, I64 ∷ I64 ∷ I64 ∷ [] ⟶ []) ∷  -- table.copy
    (with_indices (Prefixed 0xfc 14) Tables 0 Tables 2, I32 ∷ I32 ∷ I32 ∷ [] ⟶ []) ∷
    (with_index (Prefixed 0xfc 15) Tables 1, Ref extern_null ∷ I64 ∷ [] ⟶ I64 ∷ []) ∷  -- table.grow
    (with_index (Prefixed 0xfc 16) Tables 1, [] ⟶ I64 ∷ []) ∷  -- table.size
    (with_index (Prefixed 0xfc 17) Tables 1, I64 ∷ Ref extern_null ∷ I64 ∷ [] ⟶ []) ∷  -- table.fill
    (operation (Prefixed 0xfc 20) [], I64 ∷ I64 ∷ I64 ∷ I64 ∷ [] ⟶ I64 ∷ I64 ∷ []) ∷  -- i64.sub128
    (operation (Prefixed 0xfc 22) [], I64 ∷ I64 ∷ [] ⟶ I64 ∷ I64 ∷ []) ∷  -- i64.mul_wide_u
    (operation (Prefixed 0xfd 82) [], V128 ∷ V128 ∷ V128 ∷ [] ⟶ V128 ∷ []) ∷  -- v128.bitselect
    (operation (Prefixed 0xfe 3) (zero_byte ∷ []), [] ⟶ []) ∷  -- atomic.fence
    []

module_types : HaveTypes module_rows
module_types = refl

abbrev aggregate_rows : List Named
aggregate_rows =
    (with_index (Prefixed 0xfb 0) Types 3, I32 ∷ I64 ∷ I32 ∷ [] ⟶ id_ref 3 ∷ []) ∷  -- struct.new
    (with_index (Prefixed 0xfb 1) Types 3, [] ⟶ id_ref 3 ∷ []) ∷  -- struct.new_default
    (with_field 2 3 1, id_null 3 ∷ [] ⟶ I64 ∷ []) ∷  -- struct.get
    (with_field 3 3 2, id_null 3 ∷ [] ⟶ I32 ∷ []) ∷  -- struct.get_s
    (with_field 4 3 2, id_null 3 ∷ [] ⟶ I32 ∷ []) ∷  -- struct.get_u
    (with_field 5 3 2, id_null 3 ∷ I32 ∷ [] ⟶ []) ∷  -- struct.set
    (with_index (Prefixed 0xfb 6) Types 4, I32 ∷ I32 ∷ [] ⟶ id_ref 4 ∷ []) ∷  -- array.new
    (with_index (Prefixed 0xfb 7) Types 4, I32 ∷ [] ⟶ id_ref 4 ∷ []) ∷  -- array.new_default
    (with_field 8 7 3, Ref func_null ∷ Ref func_null ∷ Ref func_null ∷ [] ⟶ id_ref 7 ∷ []) ∷  -- array.new_fixed
    (with_indices (Prefixed 0xfb 9) Types 4 Data 0, I32 ∷ I32 ∷ [] ⟶ id_ref 4 ∷ []) ∷  -- array.new_data
    (with_indices (Prefixed 0xfb 10) Types 7 Elements 0, I32 ∷ I32 ∷ [] ⟶ id_ref 7 ∷ []) ∷  -- array.new_elem
    (with_index (Prefixed 0xfb 11) Types 7, id_null 7 ∷ I32 ∷ [] ⟶ Ref func_null ∷ []) ∷  -- array.get
    (with_index (Prefixed 0xfb 12) Types 4, id_null 4 ∷ I32 ∷ [] ⟶ I32 ∷ []) ∷  -- array.get_s
    (with_index (Prefixed 0xfb 13) Types 4, id_null 4 ∷ I32 ∷ [] ⟶ I32 ∷ []) ∷  -- array.get_u
    (with_index (Prefixed 0xfb 14) Types 7, id_null 7 ∷ I32 ∷ Ref func_null ∷ [] ⟶ []) ∷  -- array.set
    (operation (Prefixed 0xfb 15) [], ref_null (Abstract abstract.Array) ∷ [] ⟶ I32 ∷ []) ∷  -- array.len
    (with_index (Prefixed 0xfb 16) Types 7, id_null 7 ∷ I32 ∷ Ref func_null ∷ I32 ∷ [] ⟶ []) ∷  -- array.fill
    (with_indices (Prefixed 0xfb 17) Types 7 Types 6, id_null 7 ∷ I32 ∷ id_null 6 ∷ I32 ∷ I32 ∷ [] ⟶ []) ∷  -- array.copy
    (with_indices (Prefixed 0xfb 18) Types 4 Data 0, id_null 4 ∷ I32 ∷ I32 ∷ I32 ∷ [] ⟶ []) ∷  -- array.init_data
    (with_indices (Prefixed 0xfb 19) Types 7 Elements 0, id_null 7 ∷ I32 ∷ I32 ∷ I32 ∷ [] ⟶ []) ∷  -- array.init_elem
    (operation (Prefixed 0xfb 20) (heap (Concrete 1) ∷ []), ref_null (Abstract abstract.Func) ∷ [] ⟶ I32 ∷ []) ∷  -- ref.test
    (operation (Prefixed 0xfb 21) (heap (Abstract abstract.NoExtern) ∷ []), ref_null (Abstract abstract.Extern) ∷ [] ⟶ I32 ∷ []) ∷
    (operation (Prefixed 0xfb 22) (heap (Concrete 4) ∷ []), ref_null (Abstract abstract.Any) ∷ [] ⟶ id_ref 4 ∷ []) ∷  -- ref.cast
    (operation (Prefixed 0xfb 23) (heap (Abstract abstract.NoExn) ∷ []), ref_null (Abstract abstract.Exn) ∷ [] ⟶ ref_null (Abstract abstract.NoExn) ∷ []) ∷
    (operation (Prefixed 0xfb 28) [], I32 ∷ [] ⟶ ref (Abstract abstract.I31) ∷ []) ∷  -- ref.i31
    (operation (Prefixed 0xfb 29) [], ref_null (Abstract abstract.I31) ∷ [] ⟶ I32 ∷ []) ∷  -- i31.get_s
    (operation (Prefixed 0xfb 30) [], ref_null (Abstract abstract.I31) ∷ [] ⟶ I32 ∷ []) ∷  -- i31.get_u
    []

aggregate_types : HaveTypes aggregate_rows
aggregate_types = refl

-- ---- what has no type: a lane that isn't there, an alignment above the natural one, or below it for an atomic operator, an offset that
-- isn't an address, a memory that isn't there

abbrev is_refused : Checked InstructionType → Bool
is_refused (Ok t) = false
is_refused (Err e) = true

abbrev has_none : NamedOperation → Option Rule → Bool
has_none o (Some (by_type rule)) = is_refused (rule context o.immediates)
has_none o _ = false

abbrev HaveNoType : List NamedOperation → Type 0
HaveNoType os = list_all (λ o. has_none o (rule_of o.opcode)) os ≡ true

refused_accesses : HaveNoType
    (unary_operation (unary.I8x16ExtractLaneS 16)
    ∷ binary_operation (binary.F64x2ReplaceLane 2)
    ∷ vector_access_operation (vector_access.V128Load32Lane 4) (at 2 0)
    ∷ load_operation (load.I32 false) (at 3 0)
    ∷ store_operation (store.I64_8 false) (at 1 0)
    ∷ load_operation (load.I32 true) (at 1 0)
    ∷ atomic_operation (Rmw Add width.I64) (at 2 0)
    ∷ load_operation (load.I32 false) (record { alignment = 2; memory = 0; offset = 4294967296 })
    ∷ load_operation (load.I32 false) (at 2 2) ∷ [])
refused_accesses = refl

-- what isn't there, isn't a variable, or doesn't match
refused_by_module : HaveNoType
    (with_index (Byte 0x10) Funcs 4
    ∷ with_index (Byte 0x14) Types 2
    ∷ with_indices (Byte 0x11) Types 1 Tables 1
    ∷ with_indices (Byte 0x11) Types 2 Tables 0
    ∷ operation (Byte 0x1c) (value (id_ref 19) ∷ [])
    ∷ with_index (Byte 0x24) Globals 1
    ∷ with_index (Byte 0x26) Tables 3
    ∷ operation (Byte 0xd0) (heap (Concrete 19) ∷ [])
    ∷ with_index (Byte 0xd2) Funcs 2
    ∷ with_indices (Prefixed 0xfc 8) Data 1 Memories 0
    ∷ with_indices (Prefixed 0xfc 12) Elements 0 Tables 1
    ∷ with_indices (Prefixed 0xfc 14) Tables 2 Tables 0
    ∷ with_index (Prefixed 0xfb 0) Types 4
    ∷ with_index (Prefixed 0xfb 1) Types 8
    ∷ with_field 2 3 2
    ∷ with_field 3 3 0
    ∷ with_field 2 3 3
    ∷ with_field 5 3 1
    ∷ with_index (Prefixed 0xfb 6) Types 2
    ∷ with_indices (Prefixed 0xfb 9) Types 7 Data 0
    ∷ with_indices (Prefixed 0xfb 10) Types 7 Elements 1
    ∷ with_indices (Prefixed 0xfb 10) Types 4 Elements 0
    ∷ with_index (Prefixed 0xfb 11) Types 4
    ∷ with_index (Prefixed 0xfb 12) Types 7
    ∷ with_index (Prefixed 0xfb 14) Types 6
    ∷ with_index (Prefixed 0xfb 16) Types 6
    ∷ with_indices (Prefixed 0xfb 17) Types 6 Types 7
    ∷ with_indices (Prefixed 0xfb 17) Types 7 Types 4
    ∷ with_indices (Prefixed 0xfb 18) Types 7 Data 0
    ∷ with_indices (Prefixed 0xfb 19) Types 6 Elements 0
    ∷ operation (Prefixed 0xfb 20) (heap (Concrete 19) ∷ []) ∷ [])
refused_by_module = refl
