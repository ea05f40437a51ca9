-- Location pairs: for each operator that is written, its location and the place of its first byte.
use Rattle.std.specs.Prelude.{◌≡◌, ℕ, ◌+◌, ◌==◌, if◌then◌else◌, List, [], ◌∷◌, ◌++◌, length, Option, Some, None, Result, Ok}
use Rattle.wasm_operators.specs.Operations.{RawOperation}
use Rattle.wasm_operators.specs.Shortest.{short}
use Rattle.wasm_body.specs.declared.error.EmitError.{EmitError}
use Rattle.wasm_numbers.specs.Results.{◌>>=◌}
use Rattle.wasm_body.specs.Translation.{Located}
use Rattle.wasm_body.specs.FunctionTree.{FunctionTree}
use Rattle.wasm_body.specs.Bytes.{Numbers, numbered_text}

-- the location, and the place
abbrev pub Pair : Type 0
Pair = ℕ × ℕ

-- the pairs of operators whose shortest encodings follow one another, the first at this place
abbrev pub pairs_from : (place : ℕ) → List (Located RawOperation) → List Pair
pairs_from place [] = []
pairs_from place (x ∷ xs) = (x.location, place) ∷ pairs_from (place + length (short x.op)) xs

-- The location pairs of a tree with these numbers, if `before` bytes come before its own; or the first fault in the order of
-- writing.
abbrev pub tree_pairs : Numbers → FunctionTree → (before : ℕ) → Result (List Pair) EmitError
tree_pairs to t before = numbered_text to t >>= λ xs. Ok (pairs_from before xs)

-- The pairs are appended to a list, if there is one: it was the first of these two, and is the second.
abbrev pub AddsPairs : List Pair → Option (List Pair × List Pair) → Type 0
AddsPairs pairs None = Unit {0}
AddsPairs pairs (Some lists) = lists.1 ≡ lists.0 ++ pairs

-- the location of the pair with this place
abbrev pub location_in : List Pair → (place : ℕ) → Option ℕ
location_in [] place = None
location_in (p ∷ ps) place = if p.1 == place then Some p.0 else location_in ps place
