-- Atomic operators that read, change and write have one type for each width.
use Rattle.std.proofs.Common.{◌≡◌, true, Some, refl}
use Rattle.wasm_types.specs.declared.memory.AtomicOp.{AtomicOp}
use Rattle.wasm_types.specs.declared.memory.AtomicOp.TheVariants as op
use Rattle.wasm_types.specs.declared.memory.AtomicWidth.{AtomicWidth}
use Rattle.wasm_types.specs.declared.memory.AtomicWidth.TheVariants as width
use Rattle.wasm_operators.specs.declared.types.AtomicKind.TheVariants.{Rmw, Cmpxchg}
use Rattle.wasm_operators.specs.AtomicOpcodes.{atomic_operation}
use Rattle.wasm_operators.specs.Operations.{Access}
use Rattle.wasm_typing.specs.Contexts.{OperandContext}
use Rattle.wasm_typing.specs.RuleLaws.{type_of_operator}
use Rattle.wasm_operator_types.specs.AccessTypes.{type_of_access, width_of}
use Rattle.wasm_operator_types.specs.declared.access.AccessType.{AccessType}
use Rattle.wasm_operator_types.specs.declared.access.Operands.TheVariants.{One, Two}

abbrev updates : AtomicWidth → AccessType
updates w = record { exponent = (width_of w).0; exact = true; has_lane = true; takes = One (width_of w).1; gives = Some (width_of w).1 }

abbrev exchanges : AtomicWidth → AccessType
exchanges w = record { exponent = (width_of w).0; exact = true; has_lane = true; takes = Two (width_of w).1 (width_of w).1; gives = Some (width_of w).1 }

pub update_is : (o : AtomicOp) (w : AtomicWidth) (c : OperandContext) (a : Access) → type_of_operator c (atomic_operation (Rmw o w) a) ≡ type_of_access (updates w) c a
update_is op.Add width.I32 c a = refl
update_is op.Add width.I32_8 c a = refl
update_is op.Add width.I32_16 c a = refl
update_is op.Add width.I64 c a = refl
update_is op.Add width.I64_8 c a = refl
update_is op.Add width.I64_16 c a = refl
update_is op.Add width.I64_32 c a = refl
update_is op.Sub width.I32 c a = refl
update_is op.Sub width.I32_8 c a = refl
update_is op.Sub width.I32_16 c a = refl
update_is op.Sub width.I64 c a = refl
update_is op.Sub width.I64_8 c a = refl
update_is op.Sub width.I64_16 c a = refl
update_is op.Sub width.I64_32 c a = refl
update_is op.And width.I32 c a = refl
update_is op.And width.I32_8 c a = refl
update_is op.And width.I32_16 c a = refl
update_is op.And width.I64 c a = refl
update_is op.And width.I64_8 c a = refl
update_is op.And width.I64_16 c a = refl
update_is op.And width.I64_32 c a = refl
update_is op.Or width.I32 c a = refl
update_is op.Or width.I32_8 c a = refl
update_is op.Or width.I32_16 c a = refl
update_is op.Or width.I64 c a = refl
update_is op.Or width.I64_8 c a = refl
update_is op.Or width.I64_16 c a = refl
update_is op.Or width.I64_32 c a = refl
update_is op.Xor width.I32 c a = refl
update_is op.Xor width.I32_8 c a = refl
update_is op.Xor width.I32_16 c a = refl
update_is op.Xor width.I64 c a = refl
update_is op.Xor width.I64_8 c a = refl
update_is op.Xor width.I64_16 c a = refl
update_is op.Xor width.I64_32 c a = refl
update_is op.Xchg width.I32 c a = refl
update_is op.Xchg width.I32_8 c a = refl
update_is op.Xchg width.I32_16 c a = refl
update_is op.Xchg width.I64 c a = refl
update_is op.Xchg width.I64_8 c a = refl
update_is op.Xchg width.I64_16 c a = refl
update_is op.Xchg width.I64_32 c a = refl

pub exchange_is : (w : AtomicWidth) (c : OperandContext) (a : Access) → type_of_operator c (atomic_operation (Cmpxchg w) a) ≡ type_of_access (exchanges w) c a
exchange_is width.I32 c a = refl
exchange_is width.I32_8 c a = refl
exchange_is width.I32_16 c a = refl
exchange_is width.I64 c a = refl
exchange_is width.I64_8 c a = refl
exchange_is width.I64_16 c a = refl
exchange_is width.I64_32 c a = refl
