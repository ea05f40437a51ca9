-- Instructions of the tree as operators: clauses, targets, and operators that differ in one respect.
use Rattle.std.specs.Prelude.{◌≡◌, [], ◌∷◌, true, false, refl}
use Rattle.walrus_ir.specs.declared.control.TryTableCatch.TheVariants as table_catch
use Rattle.walrus_ir.specs.declared.control.LegacyCatch.TheVariants as legacy_catch
use Rattle.walrus_ir.specs.declared.instr.Instr.TheVariants as instr
use Rattle.wasm_types.specs.declared.val_type.AbstractHeapType.TheVariants.{Any, Eq}
use Rattle.wasm_types.specs.declared.val_type.HeapType.TheVariants.{Abstract}
use Rattle.wasm_operators.specs.declared.types.Opcode.TheVariants.{Byte, Prefixed}
use Rattle.wasm_operators.specs.declared.types.Space.TheVariants.{Types, Memories, Tables, Data}
use Rattle.wasm_operators.specs.Operations.{index, heap, operation}
use Rattle.wasm_body.specs.FunctionTree.{Depth, Outside, handles, handles_all, delegates}
use Rattle.wasm_body.specs.InstructionTable.{table_clause, legacy_clause, operation_of}
use Rattle.wasm_body.specs.TreeOfFunction.{target_in}
use Rattle.wasm_body.proofs.Examples.Operators.{br_if, br_on_null, br_on_non_null, br_on_cast, br_on_cast_fail, rethrow, catches, catches_ref, catches_all, catches_all_ref}

-- ---- clauses

clause_of_tag : table_clause (table_catch.Catch 1 7) ≡ catches 1 7
clause_of_tag = refl

clause_of_tag_by_reference : table_clause (table_catch.CatchRef 1 7) ≡ catches_ref 1 7
clause_of_tag_by_reference = refl

clause_of_all : table_clause (table_catch.CatchAll 7) ≡ catches_all 7
clause_of_all = refl

clause_of_all_by_reference : table_clause (table_catch.CatchAllRef 7) ≡ catches_all_ref 7
clause_of_all_by_reference = refl

legacy_clause_of_tag : legacy_clause (legacy_catch.Catch 1 7) ≡ handles 1
legacy_clause_of_tag = refl

legacy_clause_of_all : legacy_clause (legacy_catch.CatchAll 7) ≡ handles_all
legacy_clause_of_all = refl

legacy_clause_of_delegate : legacy_clause (legacy_catch.Delegate 2) ≡ delegates 2
legacy_clause_of_delegate = refl

-- ---- targets, if the sequences at the places 5 and 3 are open

own_sequence : target_in (5 ∷ 3 ∷ []) 5 ≡ Depth 0
own_sequence = refl

sequence_around : target_in (5 ∷ 3 ∷ []) 3 ≡ Depth 1
sequence_around = refl

sequence_beside : target_in (5 ∷ 3 ∷ []) 4 ≡ Outside
sequence_beside = refl

-- ---- operators

conditional_branch : operation_of (instr.BrIf (record { block = 5 })) ≡ br_if 5
conditional_branch = refl

branch_on_null : operation_of (instr.BrOnNull (record { block = 5 })) ≡ br_on_null 5
branch_on_null = refl

branch_on_non_null : operation_of (instr.BrOnNonNull (record { block = 5 })) ≡ br_on_non_null 5
branch_on_non_null = refl

branch_on_cast :
    operation_of (instr.BrOnCast (record { block = 5; from_nullable = false; from_heap_type = Abstract Any; to_nullable = false; to_heap_type = Abstract Eq }))
    ≡ br_on_cast 5 (Abstract Any) (Abstract Eq)
branch_on_cast = refl

branch_on_cast_fail :
    operation_of (instr.BrOnCastFail (record { block = 5; from_nullable = false; from_heap_type = Abstract Any; to_nullable = false; to_heap_type = Abstract Eq }))
    ≡ br_on_cast_fail 5 (Abstract Any) (Abstract Eq)
branch_on_cast_fail = refl

rethrow_of_handler : operation_of (instr.Rethrow (record { relative_depth = 2 })) ≡ rethrow 2
rethrow_of_handler = refl

-- a test of a reference that may not be null, and of one that may
test : operation_of (instr.RefTest (record { nullable = false; heap_type = Abstract Eq })) ≡ operation (Prefixed 0xfb 20) (heap (Abstract Eq) ∷ [])
test = refl

test_with_null : operation_of (instr.RefTest (record { nullable = true; heap_type = Abstract Eq })) ≡ operation (Prefixed 0xfb 21) (heap (Abstract Eq) ∷ [])
test_with_null = refl

-- immediates that are written in another order than the fields' names suggest: the destination of a copy first, and the segment
-- before the memory that it is copied into
memory_copy : operation_of (instr.MemoryCopy (record { src = 1; dst = 2 })) ≡ operation (Prefixed 0xfc 10) (index Memories 2 ∷ index Memories 1 ∷ [])
memory_copy = refl

memory_init : operation_of (instr.MemoryInit (record { memory = 1; data_id = 2 })) ≡ operation (Prefixed 0xfc 8) (index Data 2 ∷ index Memories 1 ∷ [])
memory_init = refl

call_indirect : operation_of (instr.CallIndirect (record { ty = 1; table = 2 })) ≡ operation (Byte 0x11) (index Types 1 ∷ index Tables 2 ∷ [])
call_indirect = refl
