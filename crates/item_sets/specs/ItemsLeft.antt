-- Which items of an index space are left, by a mark for each, and their new indices.
use Rattle.std.specs.Prelude.{ℕ, Bool, false, List, Option, None, Some, slice_index_or, if◌then◌else◌, take}
use Rattle.std.specs.List.{count_by}

-- whether the item is left; a number past the end is no item
abbrev pub is_left : List Bool → ℕ → Bool
is_left marks i = slice_index_or marks i false

-- how many items are left
abbrev pub left_count : List Bool → ℕ
left_count marks = count_by (λ left. left) marks

-- the new index of an item that is left: how many are left of those before it
abbrev pub index_left : List Bool → ℕ → Option ℕ
index_left marks i = if is_left marks i then Some (left_count (take i marks)) else None
