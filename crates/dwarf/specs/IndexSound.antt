-- What the abbreviations of an index are like in memory: they are in order, and their attributes are in the list of all.
use Rattle.std.specs.Prelude.{ℕ, ◌≤◌, List}
use Rattle.std.specs.Coded.{×_prop, le_prop}
use Rattle.std.specs.List.{AllByRecursion, AllByRecursion-prop}
use Rattle.dwarf_info.specs.Sound.{Ascend, Ascend-prop}
use Rattle.dwarf.specs.declared.index_abbreviations.IndexAbbreviation.{IndexAbbreviation}

-- the attributes of an abbreviation are some of so many
abbrev pub HasIndexAttributes : (count : ℕ) → IndexAbbreviation → Type 0
HasIndexAttributes count a = (a.first ≤ a.end) × (a.end ≤ count)

abbrev pub AreIndexAbbreviations : List IndexAbbreviation → (count : ℕ) → Type 0
AreIndexAbbreviations xs count = Ascend (λ (a : IndexAbbreviation). a.code) 0 xs × AllByRecursion (HasIndexAttributes count) xs

pub AreIndexAbbreviations-prop : (xs : List IndexAbbreviation) (count : ℕ) → IsProp (AreIndexAbbreviations xs count)
AreIndexAbbreviations-prop xs count =
    ×_prop (Ascend-prop (λ (a : IndexAbbreviation). a.code) 0 xs) (AllByRecursion-prop (HasIndexAttributes count) (λ a. ×_prop le_prop le_prop) xs)
