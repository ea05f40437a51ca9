-- The numbers of ids, in a table by id and in a map.
use Rattle.std.specs.Prelude.{◌≡◌, ℕ, suc, ◌<◌, List, [], ◌∷◌, length, None}
use Rattle.std.specs.Ordering.{nat_cmp}
use Rattle.std.specs.FinMap.{FinMap, get, insert}

-- the map, and the numbers of a table for the ids from this one on
abbrev pub with_table : (first : ℕ) → List ℕ → FinMap nat_cmp ℕ → FinMap nat_cmp ℕ
with_table first [] m = m
with_table first (n ∷ ns) m = insert (with_table (suc first) ns m) first n

-- The map has no number for an id of the table.
abbrev pub IsOfOthers : List ℕ → FinMap nat_cmp ℕ → Type 0
IsOfOthers table m = (id : ℕ) → id < length table → get m id ≡ None
