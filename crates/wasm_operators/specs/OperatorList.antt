-- The operators that bytes encode, each with its place.
use Rattle.std.specs.Prelude.{◌≡◌, ℕ, ◌+◌, List, [], ◌∷◌, ◌++◌, length}
use Rattle.wasm_operators.specs.Operations.{RawOperation}
use Rattle.wasm_operators.specs.Spelling.{Spells}

-- An operator, and the place of its first byte.
pub record Placed : Type 0 where
  pub spelt : RawOperation
  pub place : ℕ

-- From this place on, the bytes are encodings of these operators, one after the other, each at its place; then the rest
-- follows.
abbrev pub Lists : List Placed → (place : ℕ) → (bytes rest : List ℕ) → Type 0
Lists [] place bytes rest = bytes ≡ rest
Lists (x ∷ xs) place bytes rest =
    (x.place ≡ place) × (text following : List ℕ) × (bytes ≡ text ++ following) × Spells x.spelt text × Lists xs (place + length text) following rest
