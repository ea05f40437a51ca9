-- The section .debug_line: line tables, each with a header and a program (DWARF 5, section 6.2.4; DWARF 2 to 4 have the same section).
use Rattle.std.specs.Prelude.{◌≡◌, ℕ, ℤ, pos, ◌+◌, ◌-◌, ◌-ℤ◌, Bool, ◌&&◌, ◌||◌, not, ◌==◌, nat_lt, if◌then◌else◌, List, [], ◌∷◌, ◌++◌, length, take, map, Result, Ok, Err, ⊤}
use Rattle.std.specs.List.{list_all, zip}
use Rattle.wasm_numbers.specs.Results.{◌>>=◌}
use Rattle.code_moves.specs.declared.body.Body.{Body}
use Rattle.dwarf_bytes.specs.declared.fault.DebugFault.{DebugFault}
use Rattle.dwarf_bytes.specs.declared.fault.DebugFault.TheVariants.{UnknownVersion, Unsupported}
use Rattle.dwarf_bytes.specs.declared.size.Format.{Format}
use Rattle.dwarf_bytes.specs.declared.size.Format.TheVariants.{Dwarf32, Dwarf64}
use Rattle.dwarf_line.specs.declared.moved.Moved.{Moved}
use Rattle.dwarf_bytes.specs.Faults.{DebugReader}
use Rattle.dwarf_bytes.specs.Numbers.{fixed_number, offset, initial_length, part_and_rest}
use Rattle.dwarf_line.specs.Kept.{kept_of}
use Rattle.dwarf_line.specs.LineProgram.{Parameters, LineRow}
use Rattle.dwarf_line.specs.MovedRows.{moved_sequence}
use Rattle.dwarf_line.specs.Operations.{rows}
use Rattle.dwarf_line.specs.Repeated.{all_values}

-- A table: the format that its length shows, the bytes between the length and the program, what they say to the machine, and the
-- program.
pub record LineTable : Type 0 where
  pub format : Format
  pub front : List ℕ
  pub parameters : Parameters
  pub program : List ℕ

-- The version: 2 to 5. From 5 on the sizes of an address and of a segment selector follow; there are no segments.
abbrev pub no_segments : (version : ℕ) → DebugReader ℕ
no_segments version bytes = do
  address_size ← fixed_number 1 bytes
  selector_size ← fixed_number 1 address_size.1
  (if selector_size.0 == 0 then Ok (version, selector_size.1) else Err Unsupported)

abbrev pub version : DebugReader ℕ
version bytes = fixed_number 2 bytes >>= λ v.
    if nat_lt v.0 2 || nat_lt 5 v.0 then Err UnknownVersion else if nat_lt v.0 5 then Ok v else no_segments v.0 v.1

-- minimum_instruction_length and, from version 4 on, maximum_operations_per_instruction
abbrev pub operations_per_instruction : (version : ℕ) → DebugReader ℕ
operations_per_instruction version bytes = if nat_lt version 4 then Ok (1, bytes) else fixed_number 1 bytes

abbrev pub instruction_sizes : (version : ℕ) → DebugReader (Unit {0})
instruction_sizes version bytes = do
  size ← fixed_number 1 bytes
  operations ← operations_per_instruction version size.1
  (if size.0 == 1 && operations.0 == 1 then Ok (tt, operations.1) else Err Unsupported)

-- how many numbers follow each standard opcode that is known (section 6.2.5.2), from DW_LNS_copy, 1, on
abbrev pub known_counts : List ℕ
known_counts = 0 ∷ 1 ∷ 1 ∷ 1 ∷ 1 ∷ 0 ∷ 0 ∷ 0 ∷ 1 ∷ 0 ∷ 0 ∷ 1 ∷ []

-- two lists are equal as far as both go
abbrev pub agree : List ℕ → List ℕ → Bool
agree xs ys = list_all (λ x. x.0 == x.1) (zip xs ys)

-- the signed number of a byte
abbrev pub signed_byte : ℕ → ℤ
signed_byte b = if nat_lt b 128 then pos b else pos b -ℤ pos 256

-- The fields that the length of the header counts, up to standard_opcode_lengths. The files that follow aren't read. There is a
-- line advance, and at least the standard opcodes of DWARF 2, each followed by as many numbers as the standard says.
abbrev pub opcodes : (default_is_stmt line_base line_range opcode_base : ℕ) → List ℕ → Result Parameters DebugFault
opcodes default_is_stmt line_base line_range opcode_base bytes =
    if line_range == 0 || nat_lt opcode_base 10 then Err Unsupported
    else (part_and_rest (opcode_base - 1) bytes >>= λ counts.
    if agree counts.0 known_counts then Ok (record {
      default_is_stmt = not (default_is_stmt == 0);
      line_base = signed_byte line_base;
      line_range = line_range;
      opcode_base = opcode_base;
      operand_counts = counts.0;
    }) else Err Unsupported)

abbrev pub fields : (version : ℕ) → List ℕ → Result Parameters DebugFault
fields version bytes = do
  sizes ← instruction_sizes version bytes
  default_is_stmt ← fixed_number 1 sizes.1
  line_base ← fixed_number 1 default_is_stmt.1
  line_range ← fixed_number 1 line_base.1
  opcode_base ← fixed_number 1 line_range.1
  opcodes default_is_stmt.0 line_base.0 line_range.0 opcode_base.0 opcode_base.1

-- the header after the length of the table, which ends where the program begins
unfoldable pub header : Format → DebugReader Parameters
header format bytes = do
  v ← version bytes
  size ← offset format v.1
  part ← part_and_rest size.0 size.1
  p ← fields v.0 part.0
  Ok (p, part.1)

abbrev pub unit : Format → List ℕ → Result LineTable DebugFault
unit format bytes = header format bytes >>= λ h.
    Ok (record { format = format; front = take (length bytes - length h.1) bytes; parameters = h.0; program = h.1 })

unfoldable pub table : DebugReader LineTable
table bytes = initial_length bytes >>= λ n. part_and_rest n.0.1 n.1 >>= λ part. unit n.0.0 part.0 >>= λ t. Ok (t, part.1)

-- the tables of a section
abbrev pub tables : List ℕ → Result (List LineTable) DebugFault
tables section = all_values table section

-- ---- moved

-- The headers are the same but for the length, the rows are moved, and what else the program does is copied.
pub record IsMovedTable (bodies : List Body) (old new : LineTable) : Type 0 where
  pub same_format : new.format ≡ old.format
  pub same_front : new.front ≡ old.front
  pub same_parameters : new.parameters ≡ old.parameters
  pub sequences : List (List LineRow)
  pub source : rows old.parameters old.program ≡ Ok sequences
  pub written : rows new.parameters new.program ≡ Ok (map (moved_sequence bodies) sequences)
  pub texts : List (List ℕ)
  pub source_keeps : kept_of old.parameters old.program ≡ Ok texts
  pub written_keeps : kept_of new.parameters new.program ≡ Ok texts

abbrev pub AreMovedTables : List Body → (old new : List LineTable) → Type 0
AreMovedTables bodies [] [] = ⊤
AreMovedTables bodies [] (u ∷ us) = ⊥
AreMovedTables bodies (t ∷ ts) [] = ⊥
AreMovedTables bodies (t ∷ ts) (u ∷ us) = IsMovedTable bodies t u × AreMovedTables bodies ts us

-- A section has the tables of another one, moved.
pub record IsMovedSection (bodies : List Body) (old new : List ℕ) : Type 0 where
  pub old_tables : List LineTable
  pub new_tables : List LineTable
  pub source : tables old ≡ Ok old_tables
  pub written : tables new ≡ Ok new_tables
  pub moved : AreMovedTables bodies old_tables new_tables

-- ---- where tables and sequences went

-- Bytes of a program are one sequence, at these offsets of the section before and after.
pub record IsSequenceAt (bodies : List Body) (p : Parameters) (at new_at : ℕ) (m : Moved) (text new_text : List ℕ) : Type 0 where
  pub old_is : m.old ≡ at
  pub new_is : m.new ≡ new_at
  pub sequence : List LineRow
  pub source : rows p text ≡ Ok (sequence ∷ [])
  pub written : rows p new_text ≡ Ok (moved_sequence bodies sequence ∷ [])

-- A program that begins at these offsets is these sequences, one after the other.
abbrev pub AreSequencesAt : List Body → Parameters → (at new_at : ℕ) → List Moved → (program new_program : List ℕ) → Type 0
AreSequencesAt bodies p at new_at [] program new_program = (program ≡ []) × (new_program ≡ [])
AreSequencesAt bodies p at new_at (m ∷ ms) program new_program =
    (text more new_text new_more : List ℕ) × (program ≡ text ++ more) × (new_program ≡ new_text ++ new_more) × IsSequenceAt bodies p at new_at m text new_text
    × AreSequencesAt bodies p (at + length text) (new_at + length new_text) ms more new_more

-- how many bytes the length of a table has (section 7.4)
abbrev pub length_size : Format → ℕ
length_size Dwarf32 = 4
length_size Dwarf64 = 12

-- how far after its first byte the program of a table begins
abbrev pub program_offset : LineTable → ℕ
program_offset t = length_size t.format + length t.front

-- Bytes of the section are one table, at these offsets, with these sequences.
pub record IsTableAt (bodies : List Body) (at new_at : ℕ) (m : Moved) (sequences : List Moved) (text new_text : List ℕ) : Type 0 where
  pub old_is : m.old ≡ at
  pub new_is : m.new ≡ new_at
  pub old_table : LineTable
  pub new_table : LineTable
  pub source : tables text ≡ Ok (old_table ∷ [])
  pub written : tables new_text ≡ Ok (new_table ∷ [])
  pub moved : IsMovedTable bodies old_table new_table
  pub sequences_are : AreSequencesAt bodies old_table.parameters (at + program_offset old_table) (new_at + program_offset new_table) sequences old_table.program new_table.program

-- A section is these tables, one after the other, from these offsets on, with these sequences.
abbrev pub AreTablesAt : List Body → (at new_at : ℕ) → (tables sequences : List Moved) → (section new_section : List ℕ) → Type 0
AreTablesAt bodies at new_at [] sequences section new_section = (sequences ≡ []) × (section ≡ []) × (new_section ≡ [])
AreTablesAt bodies at new_at (m ∷ ms) sequences section new_section =
    (own others : List Moved) × (text more new_text new_more : List ℕ) × (sequences ≡ own ++ others) × (section ≡ text ++ more) × (new_section ≡ new_text ++ new_more)
    × IsTableAt bodies at new_at m own text new_text × AreTablesAt bodies (at + length text) (new_at + length new_text) ms others more new_more
