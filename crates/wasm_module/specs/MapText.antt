-- The text of a location map: a line for each operator that is written and comes from the source, with its place there and its
-- place in the module that is written, both from the start of the file, in hexadecimal.
use Rattle.std.specs.Prelude.{ℕ, zero, suc, ◌+◌, ◌/◌, ◌%◌, ◌==◌, nat_lt, if◌then◌else◌, List, [], ◌∷◌, ◌++◌, slice_index, codes}
use Rattle.walrus_ir.specs.Locations.{default_location}
use Rattle.wasm_body.specs.Pairs.{Pair}
use Rattle.wasm_module.specs.ToldBodies.{ToldBody}

-- ---- numbers in hexadecimal

-- the character of a digit below 16
abbrev pub hex_digit : ℕ → ℕ
hex_digit d = slice_index (codes "0123456789abcdef") d

-- a number, its most significant digit first: at most this many digits before the last one
unfoldable pub hex_digits_within : ℕ → ℕ → List ℕ
hex_digits_within zero n = hex_digit (n % 16) ∷ []
hex_digits_within (suc more) n = if nat_lt n 16 then hex_digit n ∷ [] else hex_digits_within more (n / 16) ++ hex_digit (n % 16) ∷ []

-- sixteen digits are enough for 64 bits
abbrev pub hexadecimal : ℕ → List ℕ
hexadecimal = hex_digits_within 15

-- ---- lines

-- the two places, with a space between them, and the end of the line
abbrev pub map_line : (old new : ℕ) → List ℕ
map_line old new = hexadecimal old ++ 32 ∷ hexadecimal new ++ 10 ∷ []

-- the line of an operator with this pair, if it is one of the source, in a body that is written at this place
abbrev pub pair_line : (start : ℕ) → Pair → List ℕ
pair_line start p = if p.0 == default_location then [] else map_line p.0 (start + p.1)

abbrev pub pair_lines : (start : ℕ) → List Pair → List ℕ
pair_lines start [] = []
pair_lines start (p ∷ ps) = pair_line start p ++ pair_lines start ps

-- the lines of a body
abbrev pub body_lines : ToldBody → List ℕ
body_lines b = pair_lines b.start b.pairs

-- the map of these bodies
abbrev pub map_lines : List ToldBody → List ℕ
map_lines [] = []
map_lines (b ∷ bs) = body_lines b ++ map_lines bs
