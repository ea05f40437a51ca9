-- Locals that live operators named, their numbers, and what has an id.
use Rattle.std.specs.Prelude.{ℕ, ◌==◌, ◌||◌, ◌++◌, List, Bool, true, false, Result, Ok, Err}
use Rattle.std.specs.HashSet.{HashSet, contains}
use Rattle.walrus_ir.specs.Unfolding.{among}
use Rattle.walrus_numbering.specs.NumberTables.{entries_in}
use Rattle.walrus_flat.specs.declared.local_numbers.NumberedLocals.{NumberedLocals}
use Rattle.walrus_flat.specs.declared.used_locals.UsedLocals.{UsedLocals}

-- whether a local is in the set
abbrev pub has_local : {S : Type 0} → HashSet ℕ S → ℕ → Bool
has_local used id = contains (λ x y. x == y) used id

-- whether it is listed, or among the others
abbrev pub is_used : UsedLocals → ℕ → Bool
is_used u id = among id u.listed.items || has_local u.others id

-- the numbers of locals as the entries of one map
abbrev pub entries_of : NumberedLocals → List (ℕ × ℕ)
entries_of n = entries_in n.table.items ++ n.map.entries

-- whether an id was found
abbrev pub is_found : {A E : Type 0} → Result A E → Bool
is_found (Ok a) = true
is_found (Err e) = false
