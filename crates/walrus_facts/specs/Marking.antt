-- Marks of locals that are among the facts.
use Rattle.std.specs.Prelude.{◌≡◌, ℕ, Bool, true, false, List, slice_index_or}
use Rattle.walrus_facts.specs.declared.facts.EmitFacts.{EmitFacts}
use Rattle.walrus_facts.specs.Gathering.{has_used_local}

abbrev pub is_marked : List Bool → ℕ → Bool
is_marked marks id = slice_index_or marks id false

-- The facts contain each marked local.
abbrev pub AreUsed : List Bool → EmitFacts → Type 0
AreUsed marks f = (id : ℕ) → is_marked marks id ≡ true → has_used_local f id ≡ true
