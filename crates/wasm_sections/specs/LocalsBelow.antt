-- The meaning of the validator of locals: it refuses, with 0, an operator that names a local which isn't below the count.
use Rattle.std.specs.Prelude.{ℕ, List, [], ◌∷◌, nat_lt, cond, Result, Ok, Err}
use Rattle.wasm_operators.specs.OperatorList.{Placed}
use Rattle.wasm_operators.specs.Operations.{RawImmediate, local}

abbrev pub locals_within : ℕ → List RawImmediate → Result ℕ ℕ
locals_within count (local n ∷ []) = cond (nat_lt n count) (Ok count) (Err 0)
locals_within count is = Ok count

abbrev pub locals_below : ℕ → Placed → Result ℕ ℕ
locals_below count x = locals_within count x.spelt.immediates
