-- The operator of every instruction has a row.
use Rattle.std.specs.Prelude.{◌≡◌, ℕ, Bool, true, false, Option, Some, None, is_some}
use Rattle.std.proofs.Common.{refl, ap}
use Rattle.walrus_ir.specs.declared.instr.Instr.{Instr}
use Rattle.walrus_ir.specs.declared.instr.Instr.TheVariants as instr
use Rattle.walrus_ir.specs.declared.value.Value.{Value}
use Rattle.walrus_ir.specs.declared.value.Value.TheVariants.{I32}
use Rattle.wasm_types.specs.declared.val_type.ValType.{ValType}
use Rattle.wasm_operators.specs.declared.types.AtomicKind.TheVariants.{Notify, Rmw, Cmpxchg}
use Rattle.wasm_operators.specs.declared.types.Opcode.{Opcode}
use Rattle.wasm_operators.specs.declared.types.Opcode.TheVariants.{Prefixed}
use Rattle.wasm_operators.specs.Opcodes.{kinds_of_byte, kinds_after, kinds_of}
use Rattle.wasm_operators.specs.ReferenceOperations.{by_null}
use Rattle.wasm_operators.proofs.Written.{kinds_of_unary, kinds_of_binary, kinds_of_ternary, kinds_of_load, kinds_of_store, kinds_of_vector_access, kinds_of_atomic}
use Rattle.wasm_body.specs.InstructionTable.{access_at, const_operation, select_operation, wait_kind, operation_of}

abbrev pub IsCarriedOpcode : Opcode → Type 0
IsCarriedOpcode o = is_some (kinds_of o) ≡ true

constant_carried : (v : Value) → IsCarriedOpcode (const_operation v).opcode
unfolding kinds_of_byte kinds_after
constant_carried (I32 z) = refl
constant_carried _ = refl

select_carried : (t : Option (ValType ℕ)) → IsCarriedOpcode (select_operation t).opcode
unfolding kinds_of_byte
select_carried None = refl
select_carried (Some t) = refl

-- an opcode with a second number, if null passes
carried_by_null : (nullable : Bool) (m n : ℕ) → IsCarriedOpcode (Prefixed 0xfb m) → IsCarriedOpcode (Prefixed 0xfb n) → IsCarriedOpcode (by_null nullable m n)
carried_by_null false m n without with_null = without
carried_by_null true m n without with_null = with_null

pub instruction_carried : (i : Instr) → IsCarriedOpcode (operation_of i).opcode
unfolding kinds_of_byte kinds_after
instruction_carried (instr.Const x) = constant_carried x.value
instruction_carried (instr.Select x) = select_carried x.ty
instruction_carried (instr.Unop x) = ap is_some (kinds_of_unary x.op)
instruction_carried (instr.Binop x) = ap is_some (kinds_of_binary x.op)
instruction_carried (instr.TernOp x) = ap is_some (kinds_of_ternary x.op)
instruction_carried (instr.Load x) = ap is_some (kinds_of_load x.kind)
instruction_carried (instr.Store x) = ap is_some (kinds_of_store x.kind)
instruction_carried (instr.LoadSimd x) = ap is_some (kinds_of_vector_access x.kind (access_at x.memory x.arg))
instruction_carried (instr.AtomicRmw x) = ap is_some (kinds_of_atomic (Rmw x.op x.width))
instruction_carried (instr.Cmpxchg x) = ap is_some (kinds_of_atomic (Cmpxchg x.width))
instruction_carried (instr.AtomicNotify x) = ap is_some (kinds_of_atomic Notify)
instruction_carried (instr.AtomicWait x) = ap is_some (kinds_of_atomic (wait_kind x.sixty_four))
instruction_carried _ = search carried_by_null
