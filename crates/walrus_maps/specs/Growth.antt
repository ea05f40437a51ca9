-- The condition for an index map to grow.
use Rattle.std.specs.Prelude.{◌≡◌, ℕ, ◌<◌, ◌^◌, nat_lt, Result, Ok, Err, if◌then◌else◌}
use Rattle.wasm_body.specs.declared.error.IndexError.{IndexError}
use Rattle.wasm_body.specs.declared.error.IndexError.TheVariants.{TooMany, Memory}

-- the index of the next id after this many, unless there are 2^32 ids
abbrev pub index_after : ℕ → Result ℕ IndexError
index_after count = if nat_lt count (2 ^ 32) then Ok count else Err TooMany

-- A call that adds an id to this many returns `TooMany` exactly if there are 2^32 ids, and otherwise no error but `Memory`.
abbrev pub GrowsFrom : {A : Type 0} → ℕ → Result A IndexError → Type 0
GrowsFrom count (Ok x) = count < 2 ^ 32
GrowsFrom count (Err e) = e ≡ (if nat_lt count (2 ^ 32) then Memory else TooMany)
