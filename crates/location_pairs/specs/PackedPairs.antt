-- Location pairs in few bytes. Both numbers of a pair mostly are a little more than those of the pair before, so what is kept is how far
-- they are from them, in LEB128 (WebAssembly core specification 3.0, binary format, integers).
use Rattle.std.specs.Prelude.{◌<◌, ℕ, ◌+◌, ◌-◌, ◌^◌, ◌%◌, List, [], ◌∷◌, ◌++◌, length}
use Rattle.std.specs.List.{AllByRecursion}
use Rattle.wasm_operators.specs.Shortest.{short_number}

-- how far it is from one number of so many bits to another: forwards, and if need be around
abbrev pub step_to : (bits from to : ℕ) → ℕ
step_to bits from to = (to + (2 ^ bits - from)) % 2 ^ bits

-- what is kept of these pairs, after a pair with this location and this place
abbrev pub packed_after : (location place : ℕ) → List (ℕ × ℕ) → List ℕ
packed_after location place [] = []
packed_after location place (p ∷ ps) = short_number (step_to 64 place p.1) ++ short_number (step_to 32 location p.0) ++ packed_after p.0 p.1 ps

-- what is kept of a list of pairs
abbrev pub packed_pairs : List (ℕ × ℕ) → List ℕ
packed_pairs ps = short_number (length ps) ++ packed_after 0 0 ps

-- a location of 32 bits, and a place of 64
abbrev pub FitPair : ℕ × ℕ → Type 0
FitPair p = (p.0 < 2 ^ 32) × (p.1 < 2 ^ 64)

-- fewer than 2^64 pairs, with locations of 32 bits and places of 64
abbrev pub ArePackable : List (ℕ × ℕ) → Type 0
ArePackable ps = (length ps < 2 ^ 64) × AllByRecursion FitPair ps

-- the last of these pairs, and of the one before them
abbrev pub last_after : ℕ × ℕ → List (ℕ × ℕ) → ℕ × ℕ
last_after before [] = before
last_after before (p ∷ ps) = last_after p ps
