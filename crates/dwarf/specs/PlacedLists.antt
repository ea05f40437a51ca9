-- Lists of ranges and of locations of a section, by their offsets, each moved once (DWARF 5, sections 2.6.2 and 2.17.3).
use Rattle.std.specs.Prelude.{◌≡◌, ◌<◌, ◌≤◌, ◌⊎◌, ℕ, ◌+◌, ◌*◌, ◌^◌, Bool, true, false, ◌&&◌, ◌==◌, MatchBool, nat_lt, nat_le, if◌then◌else◌, List, [], ◌∷◌, ◌++◌, length, drop, Option, Some, None, Result, Ok, Err}
use Rattle.wasm_numbers.specs.Results.{◌>>=◌, unless}
use Rattle.code_moves.specs.declared.body.Body.{Body}
use Rattle.dwarf_bytes.specs.declared.addresses.Address.{Address}
use Rattle.dwarf_bytes.specs.declared.addresses.AddressTable.{AddressTable}
use Rattle.dwarf_bytes.specs.declared.fault.DebugFault.{DebugFault}
use Rattle.dwarf_bytes.specs.declared.fault.DebugFault.TheVariants as faults
use Rattle.dwarf_bytes.specs.declared.size.Format.{Format}
use Rattle.dwarf_bytes.specs.Addresses.{addresses_of_table}
use Rattle.dwarf_bytes.specs.Changes.{SectionChange, are_resized}
use Rattle.dwarf_bytes.specs.Merging.{AreAllMerged, IsFaultOfAll}
use Rattle.dwarf_bytes.specs.Numbers.{size_in_bytes, offset_size, offset}
use Rattle.dwarf_bytes.specs.Sorting.{sorted_by}
use Rattle.dwarf_expressions.specs.declared.encoding.Encoding.{Encoding}
use Rattle.dwarf_info.specs.declared.moved.ListPlace.{ListPlace}
use Rattle.dwarf_info.specs.declared.moved.ListPlace.TheVariants as places
use Rattle.dwarf_info.specs.declared.moved.ListUse.{ListUse}
use Rattle.dwarf_lists.specs.Lists.{IsMovedListOfRanges, IsMovedListOfLocations, IsRefusedListOfRanges, IsRefusedListOfLocations}
use Rattle.dwarf_new_lists.specs.NewLists.{IsMovedRangeList, IsMovedLocationList}
use Rattle.dwarf_new_lists.specs.Refusals.{IsRefusedRangeList, IsRefusedLocationList}
use Rattle.dwarf.specs.declared.lists.ListKind.{ListKind}
use Rattle.dwarf.specs.declared.lists.ListKind.TheVariants as kinds
use Rattle.dwarf.specs.declared.lists.PlacedList.{PlacedList}
use Rattle.dwarf.specs.ListTables.{list_section_steps}
use Rattle.dwarf.specs.Replacing.{section_with}

-- ---- where a list is

-- The offset at this index of a unit's table, which is counted from the first of its offsets, as the list's offset is (DWARF 5, sections 7.28
-- and 7.29). Places are numbers of 64 bits.
abbrev pub offset_by_index : (section : List ℕ) → Format → (base index : ℕ) → Result ℕ DebugFault
offset_by_index section format base index =
    unless (nat_le (index * size_in_bytes (offset_size format) + base) (length section)) faults.BadOffset >>= λ u.
    offset format (drop (index * size_in_bytes (offset_size format) + base) section) >>= λ n.
    unless (nat_lt (n.0 + base) (2 ^ 64)) faults.BadOffset >>= λ v.
    Ok (n.0 + base)

abbrev pub offset_of_place : (section : List ℕ) → Format → ListPlace → Result ℕ DebugFault
offset_of_place section format (places.Offset at) = Ok at
offset_of_place section format (places.Index base index) = offset_by_index section format base index

-- a list of an entry, with its offset
abbrev pub list_at : ListUse → (at : ℕ) → PlacedList
list_at l at = record { list = record { offset = at; base = l.base; encoding = l.encoding }; addresses = l.addresses }

abbrev pub list_placed : (section : List ℕ) → ListUse → Result PlacedList DebugFault
list_placed section l = offset_of_place section l.encoding.format l.place >>= λ at. Ok (list_at l at)

-- ---- the lists of a section

-- whether units of this version have lists of this kind (DWARF 5, section 7.27 on for the new ones)
abbrev pub has_lists : ListKind → (version : ℕ) → Bool
has_lists kinds.Ranges version = nat_lt version 5
has_lists kinds.Locations version = nat_lt version 5
has_lists kinds.RangeLists version = nat_le 5 version
has_lists kinds.LocationLists version = nat_le 5 version

-- a list, if it is of this kind
abbrev pub list_of_kind : ListKind → (section : List ℕ) → ListUse → Result (List PlacedList) DebugFault
list_of_kind kind section l = if has_lists kind l.encoding.version then (list_placed section l >>= λ p. Ok (p ∷ [])) else Ok []

-- those that are, or the first fault
unfoldable pub placed_lists : ListKind → (section : List ℕ) → List ListUse → Result (List PlacedList) DebugFault
placed_lists kind section [] = Ok []
placed_lists kind section (l ∷ ls) = list_of_kind kind section l >>= λ one. placed_lists kind section ls >>= λ others. Ok (one ++ others)

-- the lists that entries of two sections use, by ascending offsets
abbrev pub lists_by_offset : ListKind → (section : List ℕ) → (uses others : List ListUse) → Result (List PlacedList) DebugFault
lists_by_offset kind section uses others =
    placed_lists kind section uses >>= λ first.
    placed_lists kind section others >>= λ second.
    Ok (sorted_by (λ (p : PlacedList). p.list.offset) (first ++ second))

-- ---- a list

-- What lists are moved with: their kind, the section, `.debug_addr`, and where the code goes.
pub record ListsSetting : Type 0 where
  pub kind : ListKind
  pub section : List ℕ
  pub addresses : List ℕ
  pub bodies : List Body

-- What has been done so far: the last list and where it ends, what is replaced, and the addresses that are told.
pub record ListsMoved : Type 0 where
  pub last : Option PlacedList
  pub end : ℕ
  pub changes : List SectionChange
  pub told : List (Address × ℕ)

-- the addresses by index of the unit of a list
abbrev pub IsTableOfList : ListsSetting → PlacedList → AddressTable → Type 0
IsTableOfList s p t = addresses_of_table t ≡ record { section = s.addresses; base = p.addresses; size = p.list.encoding.address_size }

-- The list is moved, by its kind, up to this end. One of before DWARF 5 tells nothing.
abbrev pub IsListMoved : ListKind → ListsSetting → PlacedList → (end : ℕ) → (before after : List SectionChange) → (told now_told : List (Address × ℕ)) → Type 0
IsListMoved kinds.Ranges s p end before after told now_told =
    IsMovedListOfRanges p.list.encoding s.bodies s.section p.list.offset p.list.base end before after × (now_told ≡ told)
IsListMoved kinds.Locations s p end before after told now_told =
    IsMovedListOfLocations p.list.encoding s.bodies s.section p.list.offset p.list.base end before after × (now_told ≡ told)
IsListMoved kinds.RangeLists s p end before after told now_told =
    (t : AddressTable) × IsTableOfList s p t
    × IsMovedRangeList p.list.encoding s.bodies t p.list.base s.section p.list.offset end before after told now_told
IsListMoved kinds.LocationLists s p end before after told now_told =
    (t : AddressTable) × IsTableOfList s p t
    × IsMovedLocationList p.list.encoding s.bodies t p.list.base s.section p.list.offset end before after told now_told

abbrev pub IsListRefused : ListKind → ListsSetting → PlacedList → (before : List SectionChange) → DebugFault → Type 0
IsListRefused kinds.Ranges s p before fault = IsRefusedListOfRanges p.list.encoding s.bodies s.section p.list.offset p.list.base before fault
IsListRefused kinds.Locations s p before fault = IsRefusedListOfLocations p.list.encoding s.bodies s.section p.list.offset p.list.base before fault
IsListRefused kinds.RangeLists s p before fault =
    (t : AddressTable) × IsTableOfList s p t
    × IsRefusedRangeList p.list.encoding s.bodies t p.list.base s.section p.list.offset before fault
IsListRefused kinds.LocationLists s p before fault =
    (t : AddressTable) × IsTableOfList s p t
    × IsRefusedLocationList p.list.encoding s.bodies t p.list.base s.section p.list.offset before fault

-- ---- lists, one after the other

abbrev pub is_same_encoding : Encoding → Encoding → Bool
is_same_encoding e f =
    (e.version == f.version)
    && ((size_in_bytes (offset_size e.format) == size_in_bytes (offset_size f.format)) && (size_in_bytes e.address_size == size_in_bytes f.address_size))

-- a list at one offset, counted from one address, of units that are written in one way and have the same addresses by index
abbrev pub is_same_list : PlacedList → PlacedList → Bool
is_same_list p q =
    (p.list.offset == q.list.offset)
    && ((p.list.base == q.list.base) && ((p.addresses == q.addresses) && is_same_encoding p.list.encoding q.list.encoding))

abbrev pub is_last_list : (last : Option PlacedList) → PlacedList → Bool
is_last_list None p = false
is_last_list (Some q) p = is_same_list q p

-- The next list is moved, unless it is the last one again. It isn't before the end of that.
abbrev pub IsNextListMoved : ListsSetting → PlacedList → (old new : ListsMoved) → Type 0
IsNextListMoved s p old new =
    MatchBool (is_last_list old.last p) (new ≡ old) ((old.end ≤ p.list.offset) × (new.last ≡ Some p)
    × IsListMoved s.kind s p new.end old.changes new.changes old.told new.told)

abbrev pub IsNextListRefused : ListsSetting → PlacedList → (old : ListsMoved) → DebugFault → Type 0
IsNextListRefused s p old fault =
    (is_last_list old.last p ≡ false)
    × (((fault ≡ faults.Overlap) × (p.list.offset < old.end)) ⊎ ((old.end ≤ p.list.offset) × IsListRefused s.kind s p old.changes fault))

abbrev pub AreListsMoved : ListsSetting → List PlacedList → (old new : ListsMoved) → Type 0
AreListsMoved s [] old new = new ≡ old
AreListsMoved s (p ∷ ps) old new = (now : ListsMoved) × IsNextListMoved s p old now × AreListsMoved s ps now new

abbrev pub IsFaultOfLists : ListsSetting → List PlacedList → (old : ListsMoved) → DebugFault → Type 0
IsFaultOfLists s [] old fault = ⊥
IsFaultOfLists s (p ∷ ps) old fault = IsNextListRefused s p old fault ⊎ ((now : ListsMoved) × IsNextListMoved s p old now × IsFaultOfLists s ps now fault)

-- ---- a section of lists

abbrev pub no_list_moved : (told : List (Address × ℕ)) → ListsMoved
no_list_moved told = record { last = None; end = 0; changes = []; told = told }

-- What is replaced in the section, and what is told besides, of which entries of two sections use these lists.
abbrev pub AreListsReplaced : ListsSetting → (uses others : List ListUse) → (before : List (Address × ℕ)) → (cs : List SectionChange) → (after : List (Address × ℕ)) → Type 0
AreListsReplaced s uses others before cs after =
    (ps : List PlacedList) × (all : ListsMoved) × (lists_by_offset s.kind s.section uses others ≡ Ok ps) × AreListsMoved s ps (no_list_moved before) all
    × (cs ≡ all.changes) × (after ≡ all.told)

abbrev pub AreListsRefused : ListsSetting → (uses others : List ListUse) → (before : List (Address × ℕ)) → DebugFault → Type 0
AreListsRefused s uses others before fault =
    (lists_by_offset s.kind s.section uses others ≡ Err fault)
    ⊎ ((ps : List PlacedList) × (lists_by_offset s.kind s.section uses others ≡ Ok ps) × IsFaultOfLists s ps (no_list_moved before) fault)

-- Tables of offsets are in the sections of DWARF 5.
abbrev pub has_list_tables : ListKind → Bool
has_list_tables kinds.Ranges = false
has_list_tables kinds.Locations = false
has_list_tables kinds.RangeLists = true
has_list_tables kinds.LocationLists = true

-- What becomes of the section in whose lists these parts are replaced: where one is resized, the section's tables follow.
abbrev pub IsListSection : ListKind → (section : List ℕ) → (cs : List SectionChange) → (new : List ℕ) → Type 0
IsListSection kind section cs new =
    MatchBool (has_list_tables kind && are_resized cs)
    ((all : List SectionChange) × AreAllMerged cs (list_section_steps cs section) all × (section_with all section ≡ Ok new))
    (section_with cs section ≡ Ok new)

abbrev pub IsListSectionRefused : ListKind → (section : List ℕ) → (cs : List SectionChange) → DebugFault → Type 0
IsListSectionRefused kind section cs fault =
    MatchBool (has_list_tables kind && are_resized cs)
    (IsFaultOfAll cs (list_section_steps cs section) fault
    ⊎ ((all : List SectionChange) × AreAllMerged cs (list_section_steps cs section) all × (section_with all section ≡ Err fault)))
    (section_with cs section ≡ Err fault)
