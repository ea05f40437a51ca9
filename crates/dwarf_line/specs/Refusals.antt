-- Why a section is refused.
use Rattle.std.specs.Prelude.{◌≡◌, ◌⊎◌, ℕ, Bool, true, false, List, [], ◌∷◌, Result, Ok, Err}
use Rattle.wasm_numbers.specs.Results.{◌>>=◌, unless}
use Rattle.dwarf_bytes.specs.declared.fault.DebugError.{DebugError}
use Rattle.dwarf_bytes.specs.declared.fault.DebugError.TheVariants as errors
use Rattle.dwarf_bytes.specs.declared.fault.DebugFault.{DebugFault}
use Rattle.dwarf_bytes.specs.declared.fault.DebugFault.TheVariants.{Truncated, DoesNotFit}
use Rattle.dwarf_bytes.specs.Faults.{DebugReader}
use Rattle.dwarf_line.specs.declared.operation.Operation.{Operation}
use Rattle.dwarf_line.specs.declared.operation.Operation.TheVariants.{EndSequence}
use Rattle.dwarf_line.specs.LineProgram.{Parameters}
use Rattle.dwarf_line.specs.LineTables.{LineTable, table}
use Rattle.dwarf_line.specs.Operations.{line_operation}
use Rattle.dwarf_line.specs.Repeated.{all_values}

-- every sequence ends with an operation that says so (DWARF 5, section 6.2.5.3)
abbrev pub line_is_end : Operation → Bool
line_is_end EndSequence = true
line_is_end _ = false

abbrev pub line_ends : List Operation → Bool
line_ends [] = true
line_ends (o ∷ []) = line_is_end o
line_ends (o ∷ q ∷ os) = line_ends (q ∷ os)

-- what is wrong with a program, if anything is
abbrev pub sound_program : Parameters → (program : List ℕ) → Result (Unit {0}) DebugFault
sound_program p program = all_values (line_operation p) program >>= λ os. unless (line_ends os) Truncated

-- a table with its program
unfoldable pub sound_table : DebugReader LineTable
sound_table bytes = table bytes >>= λ t. sound_program t.0.parameters t.0.program >>= λ u. Ok t

-- what is wrong with a section: the first fault, from the first byte on
abbrev pub sound_section : List ℕ → Result (List LineTable) DebugFault
sound_section section = all_values sound_table section

-- ---- errors

-- of what is written: it doesn't fit, or memory ran out
abbrev pub IsOfWritingOfLines : DebugError → Type 0
IsOfWritingOfLines errors.Memory = Unit {0}
IsOfWritingOfLines (errors.Fault f) = f ≡ DoesNotFit

-- Or the section has this fault.
abbrev pub IsRefusal : (section : List ℕ) → DebugError → Type 0
IsRefusal section errors.Memory = Unit {0}
IsRefusal section (errors.Fault f) = (f ≡ DoesNotFit) ⊎ (sound_section section ≡ Err f)

abbrev pub IsProgramRefusal : Parameters → (program : List ℕ) → DebugError → Type 0
IsProgramRefusal p program errors.Memory = Unit {0}
IsProgramRefusal p program (errors.Fault f) = (f ≡ DoesNotFit) ⊎ (sound_program p program ≡ Err f)
