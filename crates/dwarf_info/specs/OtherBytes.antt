-- What the steps of the entries leave as it is: every byte that is in no value that a step may replace.
use Rattle.std.specs.Prelude.{◌≡◌, ◌⊎◌, ⊤, ℕ, ◌+◌, ◌<◌, ◌≤◌, Bool, true, false, List, [], ◌∷◌, length, slice_get, Ok, Err}
use Rattle.dwarf_bytes.specs.Changes.{patched, moved_offset}
use Rattle.dwarf_info.specs.declared.effect.Effect.{Effect}
use Rattle.dwarf_info.specs.declared.effect.Effect.TheVariants as effects
use Rattle.dwarf_info.specs.Forms.{SpelledValue}
use Rattle.dwarf_info.specs.Steps.{EntrySteps, notes, changes}
use Rattle.dwarf_info.specs.Taken.{EntriesMoved, AreStepsTaken}

-- effects by which the bytes of a value may be replaced
abbrev pub replaces_value : Effect → Bool
replaces_value (effects.Number n) = true
replaces_value effects.NoAddress = true
replaces_value effects.LineTable = true
replaces_value effects.Expression = true
replaces_value _ = false

-- the byte at this offset isn't one of the value
abbrev pub IsOutsideOfValue : (offset : ℕ) → SpelledValue → Type 0
IsOutsideOfValue o v = (v.at + v.size ≤ o) ⊎ (o < v.at)

-- it is of none that a step may replace
abbrev pub IsOutsideOfSteps : (offset : ℕ) → EntrySteps → Type 0
IsOutsideOfSteps o [] = ⊤
IsOutsideOfSteps o (Err fault ∷ steps) = IsOutsideOfSteps o steps
IsOutsideOfSteps o (Ok (notes range) ∷ steps) = IsOutsideOfSteps o steps
IsOutsideOfSteps o (Ok (changes c layout v effect) ∷ steps) = (replaces_value effect ≡ true → IsOutsideOfValue o v) × IsOutsideOfSteps o steps

-- After all steps, each other byte of the section is where its offset goes.
abbrev pub OtherBytesStay : Type 0
OtherBytesStay = (steps : EntrySteps) (old new : EntriesMoved) (section : List ℕ) (o : ℕ) → old.changes ≡ [] → AreStepsTaken steps old new → o < length section → IsOutsideOfSteps o steps
    → slice_get (patched new.changes section) (moved_offset new.changes o) ≡ slice_get section o
