-- One step of a search: an item that isn't marked is marked, and has to be gone on from.
use Rattle.std.specs.Prelude.{◌≡◌, ◌<◌, ◌≤◌, ◌⊎◌, ◌+◌, ℕ, suc, Bool, true, false, not, List, [], ◌∷◌, length, slice_index_or, Result, Ok, Err}
use Rattle.std.specs.List.{Contains}
use Rattle.reaching.specs.declared.search.Search.{Search}

-- whether the item is marked; one past the end isn't
abbrev pub is_set : List Bool → ℕ → Bool
is_set marks x = slice_index_or marks x false

-- whether there is a mark for the item, and it isn't set
abbrev pub is_unset : List Bool → ℕ → Bool
is_unset marks x = not (slice_index_or marks x true)

-- whether an edge was added
abbrev pub is_added : {E : Type 0} → Result Bool E → Bool
is_added (Ok added) = added
is_added (Err e) = false

-- how many marks aren't set
abbrev pub unset_count : List Bool → ℕ
unset_count [] = 0
unset_count (true ∷ marks) = unset_count marks
unset_count (false ∷ marks) = suc (unset_count marks)

-- falls when an item is taken from those that are pending, and not when one is marked and pushed
abbrev pub weight : Search → ℕ
weight s = unset_count s.marks.items + (unset_count s.marks.items + length s.pending.items)

-- The search went on: it marked items of which `P` holds, each of which is pending.
pub record IsGrown (P : ℕ → Type 0) (old new : Search) : Type 0 where
  pub items : length new.marks.items ≡ length old.marks.items
  pub kept : (x : ℕ) → is_set old.marks.items x ≡ true → is_set new.marks.items x ≡ true
  pub waiting : (x : ℕ) → Contains old.pending.items x → Contains new.pending.items x
  pub added : (x : ℕ) → is_set new.marks.items x ≡ true → (is_set old.marks.items x ≡ true) ⊎ (Contains new.pending.items x × P x)
  pub marked : (x : ℕ) → Contains new.pending.items x → Contains old.pending.items x ⊎ (is_set new.marks.items x ≡ true)
  pub weighs : weight new ≤ weight old
