-- Operations are read as the same values, whatever follows them.
use Rattle.std.proofs.Common.{◌≡◌, ℕ, zero, suc, ◌-◌, ◌<◌, cond, eqb, leb, slice_index, List, [], length, Result, Ok, Err, IfOk, refl}
use Rattle.wasm_numbers.specs.Reading.{many}
use Rattle.wasm_numbers.specs.Results.{◌>>=◌, Gives}
use Rattle.dwarf_bytes.specs.declared.fault.DebugFault.{DebugFault}
use Rattle.dwarf_bytes.specs.declared.fault.DebugFault.TheVariants.{Truncated}
use Rattle.dwarf_bytes.specs.Numbers.{fixed_number, unsigned_leb, signed_leb, part_and_rest}
use Rattle.dwarf_bytes.proofs.Local.{IsLocal, then_local, just_local, cond_local, kept_local, fixed_local, unsigned_local, signed_local, parts_local, shorter}
use Rattle.dwarf_line.specs.declared.operation.Operation.{Operation}
use Rattle.dwarf_line.specs.declared.operation.Operation.TheVariants.{Advance, Special, AppendRow, Changes}
use Rattle.dwarf_line.specs.declared.operation.Change.TheVariants.{AdvanceLine, File, Column, NegateStatement, BasicBlock, PrologueEnd, EpilogueBegin, InstructionSet, Nothing}
use Rattle.dwarf_line.specs.LineProgram.{Parameters}
use Rattle.dwarf_line.specs.Operations.{turned, numbers, widest_advance, standard, extended, extended_operation, line_operation}

pub turned_local : {A B : Type 0} (one : List ℕ → Result (A × List ℕ) DebugFault) (f : A → B) → IsLocal one → IsLocal (turned one f)
turned_local one f h = then_local one (λ a bytes. Ok (f a, bytes)) h (λ a. just_local (f a))

-- ---- operations

numbers_local : (count : ℕ) → IsLocal (numbers count)
unfolding numbers
numbers_local zero = just_local tt
numbers_local (suc count) = then_local unsigned_leb (λ n. numbers count) unsigned_local (λ n. numbers_local count)

standard_local : (p : Parameters) (opcode : ℕ) → IsLocal (standard p opcode)
standard_local p opcode =
    cond_local (eqb opcode 1) _ _ (just_local AppendRow) (
    cond_local (eqb opcode 2) _ _ (turned_local unsigned_leb Advance unsigned_local) (
    cond_local (eqb opcode 3) _ _ (turned_local signed_leb (λ z. Changes (AdvanceLine z)) signed_local) (
    cond_local (eqb opcode 4) _ _ (turned_local unsigned_leb (λ n. Changes (File n)) unsigned_local) (
    cond_local (eqb opcode 5) _ _ (turned_local unsigned_leb (λ n. Changes (Column n)) unsigned_local) (
    cond_local (eqb opcode 6) _ _ (just_local (Changes NegateStatement)) (
    cond_local (eqb opcode 7) _ _ (just_local (Changes BasicBlock)) (
    cond_local (eqb opcode 8) _ _ (just_local (Advance (widest_advance p))) (
    cond_local (eqb opcode 9) _ _ (turned_local (fixed_number 2) Advance (fixed_local 2)) (
    cond_local (eqb opcode 10) _ _ (just_local (Changes PrologueEnd)) (
    cond_local (eqb opcode 11) _ _ (just_local (Changes EpilogueBegin)) (
    cond_local (eqb opcode 12) _ _ (turned_local unsigned_leb (λ n. Changes (InstructionSet n)) unsigned_local)
    (turned_local (numbers (slice_index p.operand_counts (opcode - 1))) (λ u. Changes Nothing) (numbers_local (slice_index p.operand_counts (opcode - 1)))))))))))))))

extended_local : IsLocal extended_operation
extended_local =
    then_local unsigned_leb (λ size bytes. part_and_rest size bytes >>= λ part. extended part.0 >>= λ o. Ok (o, part.1)) unsigned_local
    (λ size. then_local (part_and_rest size) (λ part bytes. extended part >>= λ o. Ok (o, bytes)) (parts_local size) (λ part. kept_local (extended part)))

after_opcode : Parameters → (opcode : ℕ) → List ℕ → Result (Operation × List ℕ) DebugFault
after_opcode p opcode bytes =
    cond (eqb opcode 0) (extended_operation bytes) (cond (leb p.opcode_base opcode) (Ok (Special opcode, bytes)) (standard p opcode bytes))

after_local : (p : Parameters) (opcode : ℕ) → IsLocal (after_opcode p opcode)
unfolding after_opcode
after_local p opcode =
    cond_local (eqb opcode 0) extended_operation _ extended_local
    (cond_local (leb p.opcode_base opcode) (λ bytes. Ok (Special opcode, bytes)) (standard p opcode) (just_local (Special opcode)) (standard_local p opcode))

pub operation_local : (p : Parameters) → IsLocal (line_operation p)
unfolding line_operation after_opcode
operation_local p = then_local (fixed_number 1) (after_opcode p) (fixed_local 1) (after_local p)

-- an operation has at least one byte
pub operation_some : (p : Parameters) → line_operation p [] ≡ Err Truncated
unfolding line_operation many
operation_some p = refl

-- the same of a result of the code
pub operation_shorter : {B : Type 0} (p : Parameters) (view : B → Operation × List ℕ) (r : Result B DebugFault) (bytes : List ℕ) → Gives view r (line_operation p bytes)
    → IfOk r (λ x. length (view x).1 < length bytes)
operation_shorter p view (Ok x) bytes e = shorter (line_operation p) Truncated (operation_local p) (operation_some p) bytes (view x).0 (view x).1 e
operation_shorter p view (Err d) bytes e = tt
