-- The meanings of the tests' validators.
use Rattle.std.specs.Prelude.{ℕ, zero, suc, List, [], ◌∷◌, ◌++◌, length, ◌==◌, cond, Result, Ok, Err}
use Rattle.wasm_operators.specs.OperatorList.{Placed}

-- this many operators are accepted, and the next is refused with 7
abbrev pub counts : ℕ → Placed → Result ℕ ℕ
counts zero x = Err 7
counts (suc n) x = Ok n

-- the place of each operator is recorded; after three of them, the next operator is refused with 9
abbrev pub keeps : List ℕ → Placed → Result (List ℕ) ℕ
keeps ps x = cond (length ps == 3) (Err 9) (Ok (ps ++ x.place ∷ []))
