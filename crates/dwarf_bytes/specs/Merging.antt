-- Parts of a section that are replaced in two steps: those that were replaced first, and others between them.
use Rattle.std.specs.Prelude.{◌≡◌, ◌^◌, ◌≤◌, ◌+◌, ◌⊎◌, ℕ, Bool, true, false, nat_lt, if◌then◌else◌, List, [], ◌∷◌, ◌++◌, drop, map, Option, Some, None, Result, Ok, Err}
use Rattle.dwarf_bytes.specs.declared.fault.DebugFault.{DebugFault}
use Rattle.dwarf_bytes.specs.declared.fault.DebugFault.TheVariants.{Overlap, BadOffset}
use Rattle.dwarf_bytes.specs.declared.merging.MergedPatches.{MergedPatches}
use Rattle.dwarf_bytes.specs.Changes.{SectionChange, AreChangesInOrder}
use Rattle.dwarf_bytes.specs.Patches.{changes}

-- whether a part that begins there begins before a place, if there is one
abbrev pub begins_before : (place : Option ℕ) → (at : ℕ) → Bool
begins_before None at = true
begins_before (Some place) at = nat_lt at place

-- the parts in front of the first one that doesn't, and the others
abbrev pub parts_before : (place : Option ℕ) → List SectionChange → List SectionChange
parts_before place [] = []
parts_before place (c ∷ cs) = if begins_before place c.at then c ∷ parts_before place cs else []

abbrev pub parts_from : (place : Option ℕ) → List SectionChange → List SectionChange
parts_from place [] = []
parts_from place (c ∷ cs) = if begins_before place c.at then parts_from place cs else c ∷ cs

-- two lists of parts as one, by their places
abbrev pub merged_parts : (first others : List SectionChange) → List SectionChange
merged_parts first [] = first
merged_parts first (c ∷ cs) = parts_before (Some c.at) first ++ (c ∷ merged_parts (parts_from (Some c.at) first) cs)

-- ---- one part after the other

-- the parts that are merged so far, and those of the first ones that are left
pub record Merging : Type 0 where
  pub all : List SectionChange
  pub left : List SectionChange

-- as the code has them
abbrev pub merging : MergedPatches → Merging
merging m = record { all = changes m.all; left = drop m.taken (changes m.first.now) }

-- nothing is merged yet
abbrev pub none_merged : (first : List SectionChange) → Merging
none_merged first = record { all = []; left = first }

-- those of the first ones are merged that begin before a place
abbrev pub first_taken : (place : Option ℕ) → Merging → Merging
first_taken place m = record { all = m.all ++ parts_before place m.left; left = parts_from place m.left }

-- another part is merged
abbrev pub part_merged : SectionChange → Merging → Merging
part_merged c m = record { all = (m.all ++ parts_before (Some c.at) m.left) ++ c ∷ []; left = parts_from (Some c.at) m.left }

-- all parts
abbrev pub all_merged : Merging → List SectionChange
all_merged m = m.all ++ m.left

-- the parts overlap or aren't in order
abbrev pub IsOverlap : List SectionChange → DebugFault → Type 0
IsOverlap cs fault = (fault ≡ Overlap) × (¬ AreChangesInOrder 0 cs)

-- Why a part can't be merged. Places are numbers of 64 bits.
abbrev pub IsNotMerged : SectionChange → Merging → DebugFault → Type 0
IsNotMerged c m fault = IsOverlap (part_merged c m).all fault ⊎ ((fault ≡ BadOffset) × (2 ^ 64 ≤ c.at + c.old))

-- ---- steps: parts in order, and faults among them; the first fault ends all

abbrev pub MergeSteps : Type 0
MergeSteps = List (Result SectionChange DebugFault)

-- All parts are merged, from one state to another.
abbrev pub AreMerged : MergeSteps → (old new : Merging) → Type 0
AreMerged [] old new = new ≡ old
AreMerged (Err fault ∷ steps) old new = ⊥
AreMerged (Ok c ∷ steps) old new = AreMerged steps (part_merged c old) new

-- The parts before the first fault are merged: it is one of the steps, or a part can't be merged.
abbrev pub IsFaultOfMerging : MergeSteps → (old : Merging) → DebugFault → Type 0
IsFaultOfMerging [] old fault = ⊥
IsFaultOfMerging (Err first ∷ steps) old fault = fault ≡ first
IsFaultOfMerging (Ok c ∷ steps) old fault = IsNotMerged c old fault ⊎ IsFaultOfMerging steps (part_merged c old) fault

-- The steps are these parts, and with the first ones these are all.
abbrev pub AreAllMerged : (first : List SectionChange) → MergeSteps → (all : List SectionChange) → Type 0
AreAllMerged first steps all = (cs : List SectionChange) × (steps ≡ map Ok cs) × (all ≡ merged_parts first cs)

-- Why that can't be: a fault of the steps, or one of the first parts that are left overlaps.
abbrev pub IsFaultOfAll : (first : List SectionChange) → MergeSteps → DebugFault → Type 0
IsFaultOfAll first steps fault =
    IsFaultOfMerging steps (none_merged first) fault
    ⊎ ((cs : List SectionChange) × (steps ≡ map Ok cs) × IsOverlap (merged_parts first cs) fault)
