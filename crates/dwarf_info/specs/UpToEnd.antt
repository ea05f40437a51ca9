-- Values that are read one after the other, up to what ends them.
use Rattle.std.specs.Prelude.{ℕ, zero, suc, List, [], ◌∷◌, length, Option, Some, None, Result, Ok, Err}
use Rattle.wasm_numbers.specs.Results.{◌>>=◌}
use Rattle.dwarf_bytes.specs.declared.fault.DebugFault.{DebugFault}
use Rattle.dwarf_bytes.specs.declared.fault.DebugFault.TheVariants.{Truncated}
use Rattle.dwarf_bytes.specs.Faults.{DebugReader}

-- the value in front of the others; or none, if this is the end
abbrev pub in_front_of : {A : Type 0} → Option A → (following : List ℕ) → (others : Result (List A × List ℕ) DebugFault) → Result (List A × List ℕ) DebugFault
in_front_of None following others = Ok ([], following)
in_front_of (Some x) following others = others >>= λ xs. Ok (x ∷ xs.0, xs.1)

-- `one before`: the value at the front, or None if the end is there. `before`: the value before it, if there is one. Each value, and the
-- end, takes at least one byte: at most this many are read.
unfoldable pub read_to_end : {A : Type 0} → (most : ℕ) → (one : (before : Option A) → DebugReader (Option A)) → (before : Option A) → DebugReader (List A)
read_to_end zero one before bytes = Err Truncated
read_to_end (suc most) one before bytes = one before bytes >>= λ x. in_front_of x.0 x.1 (read_to_end most one x.0 x.1)

abbrev pub up_to_end : {A : Type 0} → (one : (before : Option A) → DebugReader (Option A)) → (before : Option A) → DebugReader (List A)
up_to_end one before bytes = read_to_end (length bytes) one before bytes
