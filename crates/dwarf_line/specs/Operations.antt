-- The bytes of operations (DWARF 5, sections 6.2.5 and 7.22).
use Rattle.std.specs.Prelude.{ℕ, zero, suc, ◌-◌, ◌/◌, ◌==◌, nat_le, if◌then◌else◌, List, [], ◌∷◌, length, slice_index, Result, Ok, Err}
use Rattle.wasm_numbers.specs.Results.{◌>>=◌}
use Rattle.dwarf_bytes.specs.declared.fault.DebugFault.{DebugFault}
use Rattle.dwarf_bytes.specs.declared.fault.DebugFault.TheVariants.{BadLength}
use Rattle.dwarf_bytes.specs.Faults.{DebugReader}
use Rattle.dwarf_bytes.specs.Numbers.{fixed_number, unsigned_leb, signed_leb, part_and_rest}
use Rattle.dwarf_line.specs.declared.operation.AddressSize.{AddressSize}
use Rattle.dwarf_line.specs.declared.operation.AddressSize.TheVariants.{Four, Eight}
use Rattle.dwarf_line.specs.declared.operation.Change.TheVariants.{AdvanceLine, File, Column, NegateStatement, BasicBlock, PrologueEnd, EpilogueBegin, InstructionSet, Discriminator, Nothing}
use Rattle.dwarf_line.specs.declared.operation.Operation.{Operation}
use Rattle.dwarf_line.specs.declared.operation.Operation.TheVariants.{Advance, SetAddress, Special, AppendRow, EndSequence, Changes}
use Rattle.dwarf_line.specs.LineProgram.{Parameters, LineRow, initial, all_appended, sequences}
use Rattle.dwarf_line.specs.Repeated.{all_values}

-- a value that is made of another one
abbrev pub turned : {A B : Type 0} → DebugReader A → (A → B) → DebugReader B
turned one f bytes = one bytes >>= λ x. Ok (f x.0, x.1)

-- some numbers whose values don't matter
unfoldable pub numbers : (count : ℕ) → DebugReader (Unit {0})
numbers zero bytes = Ok (tt, bytes)
numbers (suc count) bytes = unsigned_leb bytes >>= λ x. numbers count x.1

-- ---- standard opcodes (section 6.2.5.2): what follows the opcode

-- DW_LNS_const_add_pc advances the address as far as the special opcode 255
abbrev pub widest_advance : Parameters → ℕ
widest_advance p = (255 - p.opcode_base) / p.line_range

-- From DW_LNS_copy, 1, to DW_LNS_set_isa, 12. An opcode that isn't known is followed by as many numbers as the header says.
abbrev pub standard : Parameters → (opcode : ℕ) → DebugReader Operation
standard p opcode bytes =
    if opcode == 1 then Ok (AppendRow, bytes)
    else if opcode == 2 then turned unsigned_leb Advance bytes
    else if opcode == 3 then turned signed_leb (λ z. Changes (AdvanceLine z)) bytes
    else if opcode == 4 then turned unsigned_leb (λ n. Changes (File n)) bytes
    else if opcode == 5 then turned unsigned_leb (λ n. Changes (Column n)) bytes
    else if opcode == 6 then Ok (Changes NegateStatement, bytes)
    else if opcode == 7 then Ok (Changes BasicBlock, bytes)
    else if opcode == 8 then Ok (Advance (widest_advance p), bytes)
    else if opcode == 9 then turned (fixed_number 2) Advance bytes
    else if opcode == 10 then Ok (Changes PrologueEnd, bytes)
    else if opcode == 11 then Ok (Changes EpilogueBegin, bytes)
    else if opcode == 12 then turned unsigned_leb (λ n. Changes (InstructionSet n)) bytes
    else turned (numbers (slice_index p.operand_counts (opcode - 1))) (λ u. Changes Nothing) bytes

-- ---- extended opcodes (section 6.2.5.3): what the length counts

-- A value that is all of some bytes.
abbrev pub is_all : {A : Type 0} → A × List ℕ → Result A DebugFault
is_all (x, []) = Ok x
is_all (x, b ∷ bytes) = Err BadLength

abbrev pub address_bytes : AddressSize → ℕ
address_bytes Four = 4
address_bytes Eight = 8

abbrev pub line_address_of : AddressSize → List ℕ → Result Operation DebugFault
line_address_of size bytes = turned (fixed_number (address_bytes size)) (SetAddress size) bytes >>= is_all

-- an address of four or eight bytes
abbrev pub set_address : List ℕ → Result Operation DebugFault
set_address bytes =
    if length bytes == 4 then line_address_of Four bytes else if length bytes == 8 then line_address_of Eight bytes else Err BadLength

-- DW_LNE_end_sequence is 1, DW_LNE_set_address 2, DW_LNE_set_discriminator 4. Others change no register: DW_LNE_define_file, 3, adds
-- to the files that the register's numbers mean.
abbrev pub extended : List ℕ → Result Operation DebugFault
extended [] = Err BadLength
extended (opcode ∷ bytes) =
    if opcode == 1 then is_all (EndSequence, bytes)
    else if opcode == 2 then set_address bytes
    else if opcode == 4 then (turned unsigned_leb (λ n. Changes (Discriminator n)) bytes >>= is_all)
    else Ok (Changes Nothing)

abbrev pub extended_operation : DebugReader Operation
extended_operation bytes = unsigned_leb bytes >>= λ size. part_and_rest size.0 size.1 >>= λ part. extended part.0 >>= λ o. Ok (o, part.1)

-- ---- all of them

-- 0 begins an extended operation; from opcode_base on opcodes are special (section 6.2.5.1)
unfoldable pub line_operation : Parameters → DebugReader Operation
line_operation p bytes = fixed_number 1 bytes >>= λ first.
    if first.0 == 0 then extended_operation first.1
    else if nat_le p.opcode_base first.0 then Ok (Special first.0, first.1)
    else standard p first.0 first.1

-- the sequences of a program, each with its rows
abbrev pub rows : Parameters → (program : List ℕ) → Result (List (List LineRow)) DebugFault
rows p program = all_values (line_operation p) program >>= λ os. Ok (sequences (all_appended p os (initial p)))
