-- Values that are read one after the other.
use Rattle.std.specs.Prelude.{◌≡◌, ℕ, zero, suc, List, [], ◌∷◌, ◌++◌, length, Result, Ok, Err}
use Rattle.wasm_numbers.specs.Results.{◌>>=◌}
use Rattle.dwarf_bytes.specs.declared.fault.DebugFault.{DebugFault}
use Rattle.dwarf_bytes.specs.declared.fault.DebugFault.TheVariants.{Truncated}
use Rattle.dwarf_bytes.specs.Faults.{DebugReader}

-- at most this many values, to the end of the bytes
unfoldable pub at_most : {A : Type 0} → ℕ → DebugReader A → List ℕ → Result (List A) DebugFault
at_most most one [] = Ok []
at_most zero one (b ∷ bytes) = Err Truncated
at_most (suc most) one (b ∷ bytes) = one (b ∷ bytes) >>= λ x. at_most most one x.1 >>= λ xs. Ok (x.0 ∷ xs)

-- the values from the first byte to the last; each takes at least one byte
abbrev pub all_values : {A : Type 0} → DebugReader A → List ℕ → Result (List A) DebugFault
all_values one bytes = at_most (length bytes) one bytes

-- The bytes begin with these values, which these bytes follow.
abbrev pub Begin : {A : Type 0} → DebugReader A → List A → (bytes following : List ℕ) → Type 0
Begin one [] bytes following = bytes ≡ following
Begin one (x ∷ xs) bytes following = (rest : List ℕ) × (one bytes ≡ Ok (x, rest)) × Begin one xs rest following

-- The text is read as these values, whatever follows it.
abbrev pub ReadsAs : {A : Type 0} → DebugReader A → List A → (text : List ℕ) → Type 0
ReadsAs one xs text = (following : List ℕ) → Begin one xs (text ++ following) following
