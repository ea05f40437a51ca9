-- What becomes of the sections of debug information of a module, one after the other; or the first fault, and the section that it is of.
use Rattle.std.specs.Prelude.{◌≡◌, ◌⊎◌, ℕ, Bool, true, false, ◌&&◌, ◌||◌, MatchBool, nat_lt, if◌then◌else◌, List, [], ◌∷◌, ◌++◌, length, Result, Ok, Err}
use Rattle.wasm_numbers.specs.Results.{◌>>=◌, each, with_fault}
use Rattle.code_moves.specs.declared.body.Body.{Body}
use Rattle.dwarf_bytes.specs.declared.addresses.Address.{Address}
use Rattle.dwarf_bytes.specs.declared.addresses.LongerTable.{LongerTable}
use Rattle.dwarf_bytes.specs.declared.fault.DebugFault.{DebugFault}
use Rattle.dwarf_bytes.specs.declared.fault.DebugFault.TheVariants.{Unsupported}
use Rattle.dwarf_bytes.specs.declared.fault.DebugError.TheVariants.{Memory, Fault}
use Rattle.dwarf_bytes.specs.Changes.{SectionChange, are_resized}
use Rattle.dwarf_bytes.specs.Merging.{AreAllMerged, IsFaultOfAll}
use Rattle.dwarf_bytes.specs.Uses.{AreAddressesReplaced, IsFaultOfAddresses}
use Rattle.dwarf_line.specs.declared.moved.Moved.{Moved}
use Rattle.dwarf_line.specs.LineTables.{IsMovedSection, AreTablesAt}
use Rattle.dwarf_line.specs.Refusals.{IsRefusal}
use Rattle.dwarf_info.specs.declared.moved.ListUse.{ListUse}
use Rattle.dwarf_info.specs.declared.unit.UnitSection.{UnitSection}
use Rattle.dwarf_info.specs.declared.unit.UnitSection.TheVariants as units
use Rattle.dwarf_info.specs.Abbreviations.{AbbreviationsAt, abbreviation_tables}
use Rattle.dwarf_info.specs.Following.{SectionShifts, follow_section}
use Rattle.dwarf_info.specs.Steps.{EntrySteps, steps_of_section}
use Rattle.dwarf_info.specs.Taken.{EntriesMoved, AreStepsTaken, IsFaultOfSteps}
use Rattle.dwarf.specs.declared.failure.DebugFailure.{DebugFailure}
use Rattle.dwarf.specs.declared.lists.ListKind.{ListKind}
use Rattle.dwarf.specs.declared.lists.ListKind.TheVariants as kinds
use Rattle.dwarf.specs.declared.sections.SectionName.{SectionName}
use Rattle.dwarf.specs.declared.sections.SectionName.TheVariants as names
use Rattle.dwarf.specs.AddressRanges.{code_followed}
use Rattle.dwarf.specs.Macros.{macro_section_followed}
use Rattle.dwarf.specs.IndexEntries.{name_index_followed}
use Rattle.dwarf.specs.Names.{names_followed}
use Rattle.dwarf.specs.PlacedLists.{ListsSetting, AreListsReplaced, AreListsRefused, IsListSection, IsListSectionRefused}
use Rattle.dwarf.specs.Replacing.{section_with}
use Rattle.dwarf.specs.Sections.{NamedContents, contents_named, section_of_lists}

-- what is read: the sections by their names, and where the code goes
pub record DebugSetting : Type 0 where
  pub sections : List NamedContents
  pub bodies : List Body

abbrev pub section_read : DebugSetting → SectionName → List ℕ
section_read d name = contents_named d.sections name

-- out of memory, or a fault of a section
abbrev pub IsFailureOf : (F : SectionName → DebugFault → Type 0) → DebugFailure → Type 0
IsFailureOf F f = (f.error ≡ Memory) ⊎ ((fault : DebugFault) × (f.error ≡ Fault fault) × F f.section fault)

-- ---- entries (DWARF 5, section 7.5)

abbrev pub section_of_units : UnitSection → SectionName
section_of_units units.Info = names.Info
section_of_units units.Types = names.Types

-- nothing has moved yet; line tables go there
abbrev pub no_entry_moved : List Moved → (keeps_code : Bool) → EntriesMoved
no_entry_moved tables keeps_code = record {
  changes = [];
  ranges = [];
  locations = [];
  code = [];
  keeps_code = keeps_code;
  told = [];
  longer = [];
  tables = tables;
  names_entries = false;
}

-- the abbreviations, and what has been done at the entries of the two sections
pub record EntriesOfModule : Type 0 where
  pub abbreviations : List AbbreviationsAt
  pub info : EntriesMoved
  pub types : EntriesMoved

abbrev pub steps_of_module : DebugSetting → List AbbreviationsAt → UnitSection → EntrySteps
steps_of_module d a kind = steps_of_section kind a d.bodies (section_read d names.Addresses) (section_read d (section_of_units kind))

-- Code is noted where there are address ranges, which are of units of `.debug_info`.
abbrev pub keeps_code_of : List NamedContents → UnitSection → Bool
keeps_code_of ss units.Info = nat_lt 0 (length (contents_named ss names.AddressRanges))
keeps_code_of ss units.Types = false

abbrev pub AreUnitsMoved : DebugSetting → List Moved → List AbbreviationsAt → UnitSection → EntriesMoved → Type 0
AreUnitsMoved d tables a kind e = AreStepsTaken (steps_of_module d a kind) (no_entry_moved tables (keeps_code_of d.sections kind)) e

abbrev pub AreUnitsNotMoved : DebugSetting → List Moved → List AbbreviationsAt → UnitSection → SectionName → DebugFault → Type 0
AreUnitsNotMoved d tables a kind section fault =
    (section ≡ section_of_units kind) × IsFaultOfSteps (steps_of_module d a kind) (no_entry_moved tables (keeps_code_of d.sections kind)) fault

abbrev pub AreEntriesMoved : DebugSetting → List Moved → EntriesOfModule → Type 0
AreEntriesMoved d tables e =
    (abbreviation_tables (section_read d names.Abbreviations) ≡ Ok e.abbreviations)
    × AreUnitsMoved d tables e.abbreviations units.Info e.info
    × AreUnitsMoved d tables e.abbreviations units.Types e.types

abbrev pub AreEntriesNotMoved : DebugSetting → List Moved → SectionName → DebugFault → Type 0
AreEntriesNotMoved d tables section fault =
    ((section ≡ names.Abbreviations) × (abbreviation_tables (section_read d names.Abbreviations) ≡ Err fault))
    ⊎ ((a : List AbbreviationsAt) × (abbreviation_tables (section_read d names.Abbreviations) ≡ Ok a)
    × (AreUnitsNotMoved d tables a units.Info section fault
    ⊎ ((info : EntriesMoved) × AreUnitsMoved d tables a units.Info info × AreUnitsNotMoved d tables a units.Types section fault)))

-- an expression names an entry by its offset, and entries are at other places: these offsets aren't followed
abbrev pub names_moved_entries : EntriesOfModule → Bool
names_moved_entries e = (e.info.names_entries || e.types.names_entries) && (are_resized e.info.changes || are_resized e.types.changes)

-- ---- lists (sections 2.6.2 and 2.17.3)

abbrev pub lists_used : ListKind → EntriesMoved → List ListUse
lists_used kinds.Ranges e = e.ranges
lists_used kinds.Locations e = e.locations
lists_used kinds.RangeLists e = e.ranges
lists_used kinds.LocationLists e = e.locations

abbrev pub setting_of_lists : DebugSetting → ListKind → ListsSetting
setting_of_lists d kind =
    record { kind = kind; section = section_read d (section_of_lists kind); addresses = section_read d names.Addresses; bodies = d.bodies }

-- what is replaced, if offsets into the section go elsewhere
abbrev pub shifting_changes : List SectionChange → List SectionChange
shifting_changes cs = if are_resized cs then cs else []

-- A section of lists, its shifts, and what is told of addresses.
abbrev pub IsListSectionMoved : DebugSetting → EntriesOfModule → ListKind → (before : List (Address × ℕ)) → (shifts : List SectionChange) → (new : List ℕ) → (after : List (Address × ℕ)) → Type 0
IsListSectionMoved d e kind before shifts new after =
    (cs : List SectionChange) × AreListsReplaced (setting_of_lists d kind) (lists_used kind e.info) (lists_used kind e.types) before cs after
    × IsListSection kind (section_read d (section_of_lists kind)) cs new × (shifts ≡ shifting_changes cs)

abbrev pub IsListSectionNotMoved : DebugSetting → EntriesOfModule → ListKind → (before : List (Address × ℕ)) → SectionName → DebugFault → Type 0
IsListSectionNotMoved d e kind before section fault =
    (section ≡ section_of_lists kind)
    × (AreListsRefused (setting_of_lists d kind) (lists_used kind e.info) (lists_used kind e.types) before fault
    ⊎ ((cs : List SectionChange) × (after : List (Address × ℕ)) × AreListsReplaced (setting_of_lists d kind) (lists_used kind e.info) (lists_used kind e.types) before cs after
    × IsListSectionRefused kind (section_read d (section_of_lists kind)) cs fault))

-- the sections in their order
abbrev pub list_kinds : List ListKind
list_kinds = kinds.Ranges ∷ kinds.Locations ∷ kinds.RangeLists ∷ kinds.LocationLists ∷ []

abbrev pub AreListSectionsMoved : DebugSetting → EntriesOfModule → List ListKind → (before : List (Address × ℕ)) → (shifts : List (List SectionChange)) → (news : List NamedContents) → (after : List (Address × ℕ)) → Type 0
AreListSectionsMoved d e [] before shifts news after = (shifts ≡ []) × (news ≡ []) × (after ≡ before)
AreListSectionsMoved d e (kind ∷ others) before shifts news after =
    (first : List SectionChange) × (new : List ℕ) × (now : List (Address × ℕ)) × (more : List (List SectionChange)) × (more_news : List NamedContents)
    × IsListSectionMoved d e kind before first new now × AreListSectionsMoved d e others now more more_news after
    × (shifts ≡ first ∷ more) × (news ≡ (section_of_lists kind, new) ∷ more_news)

abbrev pub AreListSectionsNotMoved : DebugSetting → EntriesOfModule → List ListKind → (before : List (Address × ℕ)) → SectionName → DebugFault → Type 0
AreListSectionsNotMoved d e [] before section fault = ⊥
AreListSectionsNotMoved d e (kind ∷ others) before section fault =
    IsListSectionNotMoved d e kind before section fault
    ⊎ ((first : List SectionChange) × (new : List ℕ) × (now : List (Address × ℕ)) × IsListSectionMoved d e kind before first new now × AreListSectionsNotMoved d e others now section fault)

-- ---- addresses by index (section 7.27)

-- those that lists tell, and those of the entries
abbrev pub all_told : EntriesOfModule → (by_lists : List (Address × ℕ)) → List (Address × ℕ)
all_told e by_lists = (by_lists ++ e.info.told) ++ e.types.told

abbrev pub all_longer : EntriesOfModule → List LongerTable
all_longer e = e.info.longer ++ e.types.longer

-- ---- units

-- What becomes of a section of units, of which these parts are replaced: where anything is resized, offsets follow what they lead to.
abbrev pub IsUnitsSection : (section : List ℕ) → UnitSection → List AbbreviationsAt → SectionShifts → (resizes : Bool) → (own : List SectionChange) → (new : List ℕ) → Type 0
IsUnitsSection section kind a shifts resizes own new =
    MatchBool resizes
    ((all : List SectionChange) × AreAllMerged own (follow_section kind a shifts own section) all × (section_with all section ≡ Ok new))
    (section_with own section ≡ Ok new)

abbrev pub IsUnitsSectionRefused : (section : List ℕ) → UnitSection → List AbbreviationsAt → SectionShifts → (resizes : Bool) → (own : List SectionChange) → DebugFault → Type 0
IsUnitsSectionRefused section kind a shifts resizes own fault =
    MatchBool resizes
    (IsFaultOfAll own (follow_section kind a shifts own section) fault
    ⊎ ((all : List SectionChange) × AreAllMerged own (follow_section kind a shifts own section) all × (section_with all section ≡ Err fault)))
    (section_with own section ≡ Err fault)

-- what shifts offsets: what is replaced in `.debug_info`, in the sections of lists and in `.debug_addr`
pub record ListShifts : Type 0 where
  pub ranges : List SectionChange
  pub locations : List SectionChange
  pub range_lists : List SectionChange
  pub location_lists : List SectionChange

abbrev pub each_shift : ListShifts → List (List SectionChange)
each_shift l = l.ranges ∷ l.locations ∷ l.range_lists ∷ l.location_lists ∷ []

abbrev pub shifts_of_module : EntriesOfModule → ListShifts → (addresses : List SectionChange) → SectionShifts
shifts_of_module e l addresses = record {
  info = e.info.changes;
  ranges = l.ranges;
  locations = l.locations;
  range_lists = l.range_lists;
  location_lists = l.location_lists;
  addresses = addresses;
}

abbrev pub lists_resize : ListShifts → Bool
lists_resize l = are_resized l.ranges || (are_resized l.locations || (are_resized l.range_lists || are_resized l.location_lists))

abbrev pub module_resizes : EntriesOfModule → ListShifts → (addresses : List SectionChange) → Bool
module_resizes e l addresses = are_resized e.info.changes || (are_resized e.types.changes || (lists_resize l || are_resized addresses))

abbrev pub AreUnitSectionsMoved : List NamedContents → EntriesOfModule → ListShifts → (addresses : List SectionChange) → (news : List NamedContents) → Type 0
AreUnitSectionsMoved ss e l addresses news =
    (info types : List ℕ)
    × IsUnitsSection (contents_named ss names.Info) units.Info e.abbreviations (shifts_of_module e l addresses) (module_resizes e l addresses) e.info.changes info
    × IsUnitsSection (contents_named ss names.Types) units.Types e.abbreviations (shifts_of_module e l addresses) (module_resizes e l addresses) e.types.changes types
    × (news ≡ (names.Info, info) ∷ (names.Types, types) ∷ [])

abbrev pub AreUnitSectionsNotMoved : List NamedContents → EntriesOfModule → ListShifts → (addresses : List SectionChange) → SectionName → DebugFault → Type 0
AreUnitSectionsNotMoved ss e l addresses section fault =
    ((section ≡ names.Info)
    × IsUnitsSectionRefused (contents_named ss names.Info) units.Info e.abbreviations (shifts_of_module e l addresses) (module_resizes e l addresses) e.info.changes fault)
    ⊎ ((info : List ℕ) × IsUnitsSection (contents_named ss names.Info) units.Info e.abbreviations (shifts_of_module e l addresses) (module_resizes e l addresses) e.info.changes info
    × (section ≡ names.Types)
    × IsUnitsSectionRefused (contents_named ss names.Types) units.Types e.abbreviations (shifts_of_module e l addresses) (module_resizes e l addresses) e.types.changes fault)

-- ---- sections of which each is made of its own bytes

-- a section's name, and what becomes of its bytes
abbrev pub SectionFollower : Type 0
SectionFollower = SectionName × (List ℕ → Result (List ℕ) DebugFault)

abbrev pub section_followed : List NamedContents → SectionFollower → Result NamedContents (SectionName × DebugFault)
section_followed ss (name, follow) = with_fault (λ fault. (name, fault)) (follow (contents_named ss name)) >>= λ new. Ok (name, new)

-- the sections of names (section 6.1.1, and DWARF 4's), where entries are at other places
abbrev pub name_followers : (info : List SectionChange) → List SectionFollower
name_followers info =
    (names.NameIndex, name_index_followed info)
    ∷ (names.PublicNames, names_followed info false)
    ∷ (names.PublicTypes, names_followed info false)
    ∷ (names.GnuPublicNames, names_followed info true)
    ∷ (names.GnuPublicTypes, names_followed info true) ∷ []

abbrev pub name_sections_moved : List NamedContents → (info : List SectionChange) → Result (List NamedContents) (SectionName × DebugFault)
name_sections_moved ss info = if are_resized info then each (section_followed ss) (name_followers info) else Ok []

-- the sections after the units: the addresses by index, the names, and the address ranges
abbrev pub last_sections_moved : DebugSetting → EntriesOfModule → (addresses : List SectionChange) → Result (List NamedContents) (SectionName × DebugFault)
last_sections_moved d e addresses =
    section_followed d.sections (names.Addresses, section_with addresses) >>= λ first.
    name_sections_moved d.sections e.info.changes >>= λ indices.
    section_followed d.sections (names.AddressRanges, code_followed d.bodies e.info.code e.info.changes) >>= λ last.
    Ok (first ∷ (indices ++ last ∷ []))

-- ---- all sections but line tables and macros

-- The lists, the units and the last sections, which follow what is done at the entries.
pub record AreOthersMoved (d : DebugSetting) (tables : List Moved) (news : List NamedContents) : Type 0 where
  pub entries : EntriesOfModule
  pub are_moved : AreEntriesMoved d tables entries
  pub shifts : ListShifts
  pub by_lists : List (Address × ℕ)
  pub lists : List NamedContents
  pub lists_are : AreListSectionsMoved d entries list_kinds [] (each_shift shifts) lists by_lists
  pub no_names : names_moved_entries entries ≡ false
  pub addresses : List SectionChange
  pub addresses_are : AreAddressesReplaced (all_told entries by_lists) (all_longer entries) addresses
  pub units : List NamedContents
  pub units_are : AreUnitSectionsMoved d.sections entries shifts addresses units
  pub last : List NamedContents
  pub last_are : last_sections_moved d entries addresses ≡ Ok last
  pub news_are : news ≡ lists ++ (units ++ last)

-- Why that can't be, in this order: the entries; the lists; an expression that names an entry that is at another place; the addresses that are
-- told; the units; the last sections.
abbrev pub AreUnitsOrLastNotMoved : DebugSetting → EntriesOfModule → ListShifts → (addresses : List SectionChange) → SectionName → DebugFault → Type 0
AreUnitsOrLastNotMoved d e l addresses section fault =
    AreUnitSectionsNotMoved d.sections e l addresses section fault
    ⊎ ((units : List NamedContents) × AreUnitSectionsMoved d.sections e l addresses units × (last_sections_moved d e addresses ≡ Err (section, fault)))

abbrev pub AreAddressesOrLaterNotMoved : DebugSetting → EntriesOfModule → ListShifts → (by_lists : List (Address × ℕ)) → SectionName → DebugFault → Type 0
AreAddressesOrLaterNotMoved d e l by_lists section fault =
    ((section ≡ names.Addresses) × IsFaultOfAddresses (all_told e by_lists) (all_longer e) fault)
    ⊎ ((addresses : List SectionChange) × AreAddressesReplaced (all_told e by_lists) (all_longer e) addresses × AreUnitsOrLastNotMoved d e l addresses section fault)

abbrev pub AreNamesOrLaterNotMoved : DebugSetting → EntriesOfModule → ListShifts → (by_lists : List (Address × ℕ)) → SectionName → DebugFault → Type 0
AreNamesOrLaterNotMoved d e l by_lists section fault =
    ((section ≡ names.Info) × (fault ≡ Unsupported) × (names_moved_entries e ≡ true))
    ⊎ ((names_moved_entries e ≡ false) × AreAddressesOrLaterNotMoved d e l by_lists section fault)

abbrev pub AreListsOrLaterNotMoved : DebugSetting → EntriesOfModule → SectionName → DebugFault → Type 0
AreListsOrLaterNotMoved d e section fault =
    AreListSectionsNotMoved d e list_kinds [] section fault
    ⊎ ((l : ListShifts) × (news : List NamedContents) × (by_lists : List (Address × ℕ))
    × AreListSectionsMoved d e list_kinds [] (each_shift l) news by_lists × AreNamesOrLaterNotMoved d e l by_lists section fault)

abbrev pub AreOthersNotMoved : DebugSetting → List Moved → SectionName → DebugFault → Type 0
AreOthersNotMoved d tables section fault =
    AreEntriesNotMoved d tables section fault
    ⊎ ((e : EntriesOfModule) × AreEntriesMoved d tables e × AreListsOrLaterNotMoved d e section fault)

-- ---- all sections

-- the line tables, and where they go
abbrev pub AreLinesMoved : DebugSetting → (lines : List ℕ) → (tables : List Moved) → Type 0
AreLinesMoved d lines tables =
    (sequences : List Moved) × IsMovedSection d.bodies (section_read d names.Lines) lines × AreTablesAt d.bodies 0 0 tables sequences (section_read d names.Lines) lines

-- The line tables, the macros and then the others.
pub record AreSectionsMoved (d : DebugSetting) (news : List NamedContents) : Type 0 where
  pub lines : List ℕ
  pub tables : List Moved
  pub lines_are : AreLinesMoved d lines tables
  pub macros : List ℕ
  pub macros_are : macro_section_followed tables (section_read d names.Macros) ≡ Ok macros
  pub others : List NamedContents
  pub others_are : AreOthersMoved d tables others
  pub news_are : news ≡ (names.Lines, lines) ∷ (names.Macros, macros) ∷ others

-- The first fault, and the section that it is of.
abbrev pub AreSectionsNotMoved : DebugSetting → SectionName → DebugFault → Type 0
AreSectionsNotMoved d section fault =
    ((section ≡ names.Lines) × IsRefusal (section_read d names.Lines) (Fault fault))
    ⊎ ((lines : List ℕ) × (tables : List Moved) × AreLinesMoved d lines tables
    × (((section ≡ names.Macros) × (macro_section_followed tables (section_read d names.Macros) ≡ Err fault))
    ⊎ ((macros : List ℕ) × (macro_section_followed tables (section_read d names.Macros) ≡ Ok macros) × AreOthersNotMoved d tables section fault)))
