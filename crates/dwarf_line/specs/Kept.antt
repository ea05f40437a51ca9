-- What of a program doesn't move the address. It is copied.
use Rattle.std.specs.Prelude.{◌≡◌, ℕ, ◌+◌, ◌-◌, ◌%◌, List, [], ◌∷◌, length, take, Result, Ok}
use Rattle.std.specs.List.{flat_map}
use Rattle.wasm_numbers.specs.Results.{◌>>=◌}
use Rattle.dwarf_bytes.specs.declared.fault.DebugFault.{DebugFault}
use Rattle.dwarf_bytes.specs.Faults.{DebugReader}
use Rattle.dwarf_line.specs.declared.operation.Operation.{Operation}
use Rattle.dwarf_line.specs.declared.operation.Operation.TheVariants.{Advance, SetAddress, Special}
use Rattle.dwarf_line.specs.LineProgram.{Parameters}
use Rattle.dwarf_line.specs.Operations.{line_operation}
use Rattle.dwarf_line.specs.Repeated.{all_values, ReadsAs}

-- Of an operation with these bytes: nothing of one that only moves the address; of a special opcode the one that advances the line as
-- far and leaves the address; of every other one its bytes.
abbrev pub line_kept : Parameters → Operation → (bytes : List ℕ) → List (List ℕ)
line_kept p (Advance distance) bytes = []
line_kept p (SetAddress size address) bytes = []
line_kept p (Special opcode) bytes = ((p.opcode_base + (opcode - p.opcode_base) % p.line_range) ∷ []) ∷ []
line_kept p _ bytes = bytes ∷ []

abbrev pub line_kept_operation : Parameters → DebugReader (List (List ℕ))
line_kept_operation p bytes = line_operation p bytes >>= λ x. Ok (line_kept p x.0 (take (length bytes - length x.1) bytes), x.1)

-- of the operations of a program, in order
abbrev pub kept_of : Parameters → (program : List ℕ) → Result (List (List ℕ)) DebugFault
kept_of p program = all_values (line_kept_operation p) program >>= λ each. Ok (flat_map (λ texts. texts) each)

-- Of these bytes this is kept, whatever follows them.
pub record KeepsOfLines (p : Parameters) (bytes : List ℕ) (texts : List (List ℕ)) : Type 0 where
  pub each : List (List (List ℕ))
  pub spells : ReadsAs (line_kept_operation p) each bytes
  pub texts_are : flat_map (λ texts. texts) each ≡ texts
