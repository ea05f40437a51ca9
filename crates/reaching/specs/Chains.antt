-- The edges from one item as a chain, the last one first.
use Rattle.std.specs.Prelude.{◌≡◌, ◌<◌, ◌==◌, ℕ, suc, Bool, true, false, List, Option, None, Some, slice_get}
use Rattle.reaching.specs.declared.graph.Edge.{Edge}

abbrev pub goes_from : ℕ → Option Edge → Bool
goes_from a None = false
goes_from a (Some e) = e.from == a

-- whether the edge of this number goes from the item
abbrev pub is_from : List Edge → (item number : ℕ) → Bool
is_from es a k = goes_from a (slice_get es k)

-- One more than the number of the last edge from the item of those before `limit`, or 0 if there is none.
abbrev pub IsLastFrom : List Edge → (item limit last : ℕ) → Type 0
IsLastFrom es a limit last =
    ((k : ℕ) → is_from es a k ≡ true → k < limit → k < last)
    × ((k : ℕ) → last ≡ suc k → (k < limit) × (is_from es a k ≡ true))
