-- Sections by their names.
use Rattle.std.specs.Prelude.{◌≡◌, ◌≢◌, ◌⊎◌, ◌==◌, if◌then◌else◌, List, [], ◌∷◌, ◌++◌, ℕ, map, Option, Some, None}
use Rattle.dwarf.specs.declared.moving.MovedSection.{MovedSection}
use Rattle.dwarf.specs.declared.sections.NamedSection.{NamedSection}
use Rattle.dwarf.specs.declared.sections.SectionName.{SectionName}
use Rattle.dwarf.specs.declared.lists.ListKind.{ListKind}
use Rattle.dwarf.specs.declared.lists.ListKind.TheVariants as kinds
use Rattle.dwarf.specs.declared.sections.SectionName.TheVariants.{Info, Types, Abbreviations, Lines, Ranges, Locations, RangeLists, LocationLists, Addresses, AddressRanges, PublicNames, PublicTypes, GnuPublicNames, GnuPublicTypes, NameIndex, Macros, Unmoved, Unknown}

-- a section's name and its contents
abbrev pub NamedContents : Type 0
NamedContents = SectionName × List ℕ

abbrev pub contents_by_name : List NamedSection → List NamedContents
contents_by_name ss = map (λ (s : NamedSection). (s.name, s.contents.now)) ss

abbrev pub moved_contents : List MovedSection → List NamedContents
moved_contents ss = map (λ (s : MovedSection). (s.name, s.contents.items)) ss

-- These are the contents of the first section of this name; None if no section has it.
abbrev pub IsFirstNamed : List NamedContents → SectionName → Option (List ℕ) → Type 0
IsFirstNamed [] name found = found ≡ None
IsFirstNamed (s ∷ ss) name found = ((s.0 ≡ name) × (found ≡ Some s.1)) ⊎ ((s.0 ≢ name) × IsFirstNamed ss name found)

-- The same, where a section that isn't there has no bytes.
abbrev pub AreContents : List NamedContents → SectionName → List ℕ → Type 0
AreContents [] name bytes = bytes ≡ []
AreContents (s ∷ ss) name bytes = ((s.0 ≡ name) × (bytes ≡ s.1)) ⊎ ((s.0 ≢ name) × AreContents ss name bytes)

-- The section is added after the others, if it is one that is moved; there was none of its name with any bytes.
abbrev pub IsSectionAdded : SectionName → (contents : List ℕ) → (old new : List NamedContents) → Type 0
IsSectionAdded name contents old new =
    ((name ≡ Unmoved) × (new ≡ old))
    ⊎ ((name ≢ Unmoved) × (name ≢ Unknown) × AreContents old name [] × (new ≡ old ++ (name, contents) ∷ []))

-- why it can't be: it isn't one that is read, or there is one of its name
abbrev pub IsSectionRefused : SectionName → (old : List NamedContents) → Type 0
IsSectionRefused name old = (name ≡ Unknown) ⊎ ((bytes : List ℕ) × AreContents old name bytes × (bytes ≢ []))

-- the section of lists of this kind
abbrev pub section_of_lists : ListKind → SectionName
section_of_lists kinds.Ranges = Ranges
section_of_lists kinds.Locations = Locations
section_of_lists kinds.RangeLists = RangeLists
section_of_lists kinds.LocationLists = LocationLists

-- a number for each name
abbrev pub section_number : SectionName → ℕ
section_number Info = 0
section_number Types = 1
section_number Abbreviations = 2
section_number Lines = 3
section_number Ranges = 4
section_number Locations = 5
section_number RangeLists = 6
section_number LocationLists = 7
section_number Addresses = 8
section_number AddressRanges = 9
section_number PublicNames = 10
section_number PublicTypes = 11
section_number GnuPublicNames = 12
section_number GnuPublicTypes = 13
section_number NameIndex = 14
section_number Macros = 15
section_number Unmoved = 16
section_number Unknown = 17

-- the contents of the first section of this name; no bytes if no section has it
abbrev pub contents_named : List NamedContents → SectionName → List ℕ
contents_named [] name = []
contents_named (s ∷ ss) name = if section_number s.0 == section_number name then s.1 else contents_named ss name
