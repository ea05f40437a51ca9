-- Lists of ids in which none is twice, and of ids below a number.
use Rattle.std.specs.Prelude.{◌≡◌, ◌<◌, ℕ, List, [], ◌∷◌, Bool, true, not, ◌&&◌}
use Rattle.walrus_ir.specs.Unfolding.{among}

abbrev pub is_apart : List ℕ → Bool
is_apart [] = true
is_apart (id ∷ ids) = not (among id ids) && is_apart ids

-- Each id is below this number.
abbrev pub AreIdsBelow : (limit : ℕ) → List ℕ → Type 0
AreIdsBelow limit ids = (id : ℕ) → among id ids ≡ true → id < limit
