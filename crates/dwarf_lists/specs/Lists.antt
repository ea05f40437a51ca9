-- A list in a section, before and after its code has moved.
use Rattle.std.specs.Prelude.{◌≡◌, ◌⊎◌, ℕ, ◌≤◌, ◌<◌, List, [], ◌++◌, length, take, drop, Ok, Err}
use Rattle.code_moves.specs.declared.body.Body.{Body}
use Rattle.dwarf_bytes.specs.declared.fault.DebugFault.{DebugFault}
use Rattle.dwarf_bytes.specs.declared.fault.DebugFault.TheVariants as faults
use Rattle.dwarf_bytes.specs.Changes.{SectionChange, AreChangesInOrder, end_from, patched_from}
use Rattle.dwarf_expressions.specs.declared.encoding.Encoding.{Encoding}
use Rattle.dwarf_expressions.specs.Expressions.{BeginWith}
use Rattle.dwarf_lists.specs.declared.entry.Kind.{Kind}
use Rattle.dwarf_lists.specs.declared.entry.Kind.TheVariants.{Ranges, Locations}
use Rattle.dwarf_lists.specs.Entries.{Entry, list_entry, BeginsItem, BeginsList}
use Rattle.dwarf_lists.specs.Moving.{AreMovedOfList, from_all, IsRefusedEntry}

-- The section has a list at this offset, counted from this address, up to this end. Parts between these are replaced besides, and
-- what becomes of its bytes is a list of the same entries, moved.
pub record IsMovedListOfList (kind : Kind) (e : Encoding) (bodies : List Body) (section : List ℕ) (offset from end : ℕ) (before after : List SectionChange) : Type 0 where
  pub old : List Entry
  pub new : List Entry
  pub added : List SectionChange
  pub begins : offset ≤ end
  pub ends : end ≤ length section
  pub old_is : BeginsList kind e.address_size (drop offset section) old (drop end section)
  pub after_is : after ≡ before ++ added
  pub in_order : AreChangesInOrder offset added
  pub within : end_from offset added ≤ end
  pub new_is : BeginsList kind e.address_size (patched_from offset added (take end section)) new []
  pub are_moved : AreMovedOfList e bodies from old new

-- the next entry can't be read, or isn't moved
abbrev pub IsRefusedNextOfList : Kind → Encoding → List Body → (from : ℕ) → (bytes : List ℕ) → DebugFault → Type 0
IsRefusedNextOfList kind e bodies from bytes fault =
    (list_entry kind e.address_size bytes ≡ Err fault)
    ⊎ ((x : Entry) × (rest : List ℕ) × (list_entry kind e.address_size bytes ≡ Ok (x, rest)) × IsRefusedEntry kind e bodies from x fault)

-- Why a list isn't moved: its offset isn't in the section; what is replaced before ends after the offset; or there is an entry that can't
-- be read, or isn't moved.
abbrev pub IsRefusedList : Kind → Encoding → List Body → (section : List ℕ) (offset from : ℕ) (before : List SectionChange) → DebugFault → Type 0
IsRefusedList kind e bodies section offset from before fault =
    ((fault ≡ faults.BadOffset) × (length section < offset))
    ⊎ (((fault ≡ faults.Overlap) × (offset < end_from 0 before))
    ⊎ ((xs : List Entry) × (bytes : List ℕ) × BeginWith (BeginsItem kind e.address_size) (drop offset section) xs bytes
    × IsRefusedNextOfList kind e bodies (from_all from xs) bytes fault))

-- ---- by what the list has

abbrev pub IsMovedListOfRanges : Encoding → List Body → (section : List ℕ) → (offset from end : ℕ) → (before after : List SectionChange) → Type 0
IsMovedListOfRanges = IsMovedListOfList Ranges

abbrev pub IsMovedListOfLocations : Encoding → List Body → (section : List ℕ) → (offset from end : ℕ) → (before after : List SectionChange) → Type 0
IsMovedListOfLocations = IsMovedListOfList Locations

abbrev pub IsRefusedListOfRanges : Encoding → List Body → (section : List ℕ) → (offset from : ℕ) → (before : List SectionChange) → DebugFault → Type 0
IsRefusedListOfRanges = IsRefusedList Ranges

abbrev pub IsRefusedListOfLocations : Encoding → List Body → (section : List ℕ) → (offset from : ℕ) → (before : List SectionChange) → DebugFault → Type 0
IsRefusedListOfLocations = IsRefusedList Locations
