-- The numbers of a function's locals in a table by id.
use Rattle.std.specs.Prelude.{◌≡◌, ℕ, ◌+◌, List, [], ◌∷◌, Option, Some, None, slice_get}
use Rattle.std.specs.Option.{option_flatten}
use Rattle.walrus_numbering.specs.EmittedLocals.{number_in}

-- Each number in the table is that of the local with this id.
abbrev pub HasNumbers : List (ℕ × ℕ) → List (Option ℕ) → Type 0
HasNumbers entries table = (id n : ℕ) → option_flatten (slice_get table id) ≡ Some n → number_in entries id ≡ Some n

-- the entries of a table whose first place is that of this id
abbrev pub entries_from : (first : ℕ) → List (Option ℕ) → List (ℕ × ℕ)
entries_from first [] = []
entries_from first (None ∷ ns) = entries_from (first + 1) ns
entries_from first (Some n ∷ ns) = (first, n) ∷ entries_from (first + 1) ns

-- the numbers in a table as the entries of a map
abbrev pub entries_in : List (Option ℕ) → List (ℕ × ℕ)
entries_in table = entries_from 0 table
