-- What the abbreviations of a module are like in memory: they are in order, and their attributes are in the list of all.
use Rattle.std.specs.Prelude.{ℕ, suc, ◌≤◌, List, [], ◌∷◌, length, slice_range, ⊤}
use Rattle.std.specs.Coded.{×_prop, Unit-prop, le_prop}
use Rattle.std.specs.List.{AllByRecursion, AllByRecursion-prop}
use Rattle.dwarf_info.specs.declared.abbreviations.Abbreviation.{Abbreviation}
use Rattle.dwarf_info.specs.declared.abbreviations.Table.{Table}

-- keys that ascend, from this one on
abbrev pub Ascend : {X : Type 0} → (key : X → ℕ) → (from : ℕ) → List X → Type 0
Ascend key from [] = ⊤
Ascend key from (x ∷ xs) = (from ≤ key x) × Ascend key (suc (key x)) xs

pub Ascend-prop : {X : Type 0} (key : X → ℕ) (from : ℕ) (xs : List X) → IsProp (Ascend key from xs)
Ascend-prop key from [] = Unit-prop
Ascend-prop key from (x ∷ xs) = ×_prop le_prop (Ascend-prop key (suc (key x)) xs)

-- the attributes of an abbreviation are some of so many
abbrev pub HasAttributes : (count : ℕ) → Abbreviation → Type 0
HasAttributes count a = (a.first ≤ a.end) × (a.end ≤ count)

-- of a table
abbrev pub AreAbbreviations : List Abbreviation → (count : ℕ) → Type 0
AreAbbreviations xs count = Ascend (λ (a : Abbreviation). a.code) 0 xs × AllByRecursion (HasAttributes count) xs

pub AreAbbreviations-prop : (xs : List Abbreviation) (count : ℕ) → IsProp (AreAbbreviations xs count)
AreAbbreviations-prop xs count =
    ×_prop (Ascend-prop (λ (a : Abbreviation). a.code) 0 xs) (AllByRecursion-prop (HasAttributes count) (λ a. ×_prop le_prop le_prop) xs)

-- a table has some of these abbreviations
abbrev pub IsSoundTable : List Abbreviation → (count : ℕ) → Table → Type 0
IsSoundTable xs count t = (t.first ≤ t.end) × ((t.end ≤ length xs) × AreAbbreviations (slice_range xs t.first t.end) count)

-- the tables of a section
abbrev pub AreTables : List Table → List Abbreviation → (count : ℕ) → Type 0
AreTables ts xs count = Ascend (λ (t : Table). t.offset) 0 ts × AllByRecursion (IsSoundTable xs count) ts

pub AreTables-prop : (ts : List Table) (xs : List Abbreviation) (count : ℕ) → IsProp (AreTables ts xs count)
AreTables-prop ts xs count =
    ×_prop (Ascend-prop (λ (t : Table). t.offset) 0 ts)
    (AllByRecursion-prop (IsSoundTable xs count) (λ t. ×_prop le_prop (×_prop le_prop (AreAbbreviations-prop (slice_range xs t.first t.end) count))) ts)
