-- Why a list isn't moved (DWARF 5, sections 2.17.3 and 2.6.2).
use Rattle.std.specs.Prelude.{◌≡◌, ◌<◌, ◌≤◌, ◌⊎◌, ⊤, ℕ, ◌^◌, Bool, true, false, not, ◌&&◌, nat_lt, nat_le, if◌then◌else◌, is_some, List, [], ◌∷◌, ◌++◌, length, drop, map, Option, Some, Result, Ok, Err}
use Rattle.std.specs.List.{AllByRecursion, list_all}
use Rattle.wasm_numbers.specs.Results.{◌>>=◌, unless, each}
use Rattle.code_moves.specs.declared.body.Body.{Body}
use Rattle.code_moves.specs.Moves.{address_moved, body_with_address, new_address}
use Rattle.dwarf_bytes.specs.declared.addresses.AddressTable.{AddressTable}
use Rattle.dwarf_bytes.specs.declared.fault.DebugFault.{DebugFault}
use Rattle.dwarf_bytes.specs.declared.fault.DebugFault.TheVariants as faults
use Rattle.dwarf_bytes.specs.declared.size.Size.{Size}
use Rattle.dwarf_bytes.specs.Addresses.{address_at, addresses_of_table, indexed_address}
use Rattle.dwarf_bytes.specs.Changes.{SectionChange, end_from}
use Rattle.dwarf_bytes.specs.Numbers.{size_in_bytes}
use Rattle.dwarf_expressions.specs.declared.encoding.Encoding.{Encoding}
use Rattle.dwarf_expressions.specs.Expressions.{BeginWith}
use Rattle.dwarf_expressions.specs.Moving.{IsRefusedOfExpression}
use Rattle.dwarf_new_lists.specs.declared.kind.Kind.{Kind}
use Rattle.dwarf_new_lists.specs.declared.kind.Kind.TheVariants.{IndexLength, OffsetPair, Length}
use Rattle.dwarf_new_lists.specs.declared.kind.Lists.{Lists}
use Rattle.dwarf_new_lists.specs.declared.kind.Lists.TheVariants.{Ranges, Locations}
use Rattle.dwarf_new_lists.specs.declared.kind.Operand.{Operand}
use Rattle.dwarf_new_lists.specs.declared.kind.Operand.TheVariants.{Address}
use Rattle.dwarf_new_lists.specs.declared.saying.Saying.{Saying}
use Rattle.dwarf_new_lists.specs.declared.saying.Saying.TheVariants as saying
use Rattle.dwarf_new_lists.specs.Kinds.{new_list_is_end, is_default, new_list_operands}
use Rattle.dwarf_new_lists.specs.Entries.{AnEntry, an_entry}
use Rattle.dwarf_new_lists.specs.NewLists.{BeginsEntry, IsList}
use Rattle.dwarf_new_lists.specs.Sayings.{says, says_entry, next_base, base_after_entries, moved_saying, new_list_body_of}
use Rattle.dwarf_new_lists.specs.Tellings.{indices}
use Rattle.dwarf_new_lists.specs.Writing.{IsMovedExpression}

-- ---- the numbers of an entry

-- whether a length can be said from where one address goes to where another one goes: that is of a body, and isn't before the first
abbrev pub has_length : List Body → (low high : ℕ) → Bool
has_length bs low high = is_some (address_moved bs high) && nat_le (new_address bs low) (new_address bs high)

-- whether an entry of this kind can say where a range of a body goes, counted from this base
abbrev pub has_numbers : List Body → (new_base : ℕ) → Kind → (low high : ℕ) → Bool
has_numbers bs new_base IndexLength low high = has_length bs low high
has_numbers bs new_base Length low high = has_length bs low high
has_numbers bs new_base OffsetPair low high = nat_le new_base (new_address bs low) && nat_le new_base (new_address bs high)
has_numbers bs new_base _ low high = true

-- the same of what an entry says; a range that begins in no body stays
abbrev pub numbers_said : List Body → (new_base : ℕ) → Kind → Saying → Bool
numbers_said bs new_base kind (saying.Range low high) = if is_some (body_with_address bs low) then has_numbers bs new_base kind low high else true
numbers_said bs new_base kind _ = true

-- the operands that are addresses
abbrev pub address_operand : Operand → ℕ → List ℕ
address_operand Address n = n ∷ []
address_operand _ n = []

abbrev pub address_operands : Kind → (one two : ℕ) → List ℕ
address_operands kind one two = address_operand (new_list_operands kind).0 one ++ address_operand (new_list_operands kind).1 two

-- where an address is, if something is said of code, and otherwise
abbrev pub address_written : List Body → (of_code : Bool) → ℕ → ℕ
address_written bs of_code address = if of_code then new_address bs address else address

abbrev pub addresses_written : List Body → Saying → Kind → (one two : ℕ) → List ℕ
addresses_written bs said kind one two = map (address_written bs (is_some (moved_saying bs said))) (address_operands kind one two)

abbrev pub addresses_fit : Size → List ℕ → Bool
addresses_fit size = list_all (λ n. nat_lt n (256 ^ size_in_bytes size))

-- ---- an entry

-- what an entry says, or why an address that it names by index isn't there
abbrev pub said_or_fault : AddressTable → (base : ℕ) → Kind → (one two : ℕ) → Result Saying DebugFault
said_or_fault t base kind one two =
    each (indexed_address (addresses_of_table t)) (indices kind one two) >>= λ named. Ok (says (address_at t) base kind one two)

-- What of an entry is passed in front of its expression, or the first fault: it is no default location, whose locals are those of a function that the list doesn't name; the addresses that it names by index
-- are in their table; its numbers can say where its range goes; and its addresses fit their size.
abbrev pub entry_passes : Encoding → List Body → AddressTable → (base new_base : ℕ) → AnEntry → Result (Unit {0}) DebugFault
entry_passes e bs t base new_base x =
    let said = says_entry (address_at t) base x in
    unless (not (is_default x.kind)) faults.Unsupported >>= λ u.
    each (indexed_address (addresses_of_table t)) (indices x.kind x.one x.two) >>= λ named.
    unless (numbers_said bs new_base x.kind said) faults.Unsupported >>= λ v.
    unless (addresses_fit e.address_size (addresses_written bs said x.kind x.one x.two)) faults.DoesNotFit

-- and then its expression
abbrev pub IsPassedEntry : Encoding → List Body → AddressTable → (base new_base : ℕ) → AnEntry → Type 0
IsPassedEntry e bs t base new_base x =
    (entry_passes e bs t base new_base x ≡ Ok tt)
    × ((new : Option (List ℕ)) × IsMovedExpression e (new_list_body_of bs (says_entry (address_at t) base x)) x.expression new)

abbrev pub IsRefusedEntryOfNewList : Encoding → List Body → AddressTable → (base new_base : ℕ) → AnEntry → DebugFault → Type 0
IsRefusedEntryOfNewList e bs t base new_base x fault =
    (entry_passes e bs t base new_base x ≡ Err fault)
    ⊎ ((entry_passes e bs t base new_base x ≡ Ok tt)
    × ((old : List ℕ) × (x.expression ≡ Some old) × IsRefusedOfExpression e (new_list_body_of bs (says_entry (address_at t) base x)) old fault))

-- the next entry can't be read, or isn't moved
abbrev pub IsRefusedNextOfNewList : Lists → Encoding → List Body → AddressTable → (base new_base : ℕ) → (bytes : List ℕ) → DebugFault → Type 0
IsRefusedNextOfNewList lists e bs t base new_base bytes fault =
    (an_entry lists e.address_size bytes ≡ Err fault)
    ⊎ ((x : AnEntry) × (rest : List ℕ) × BeginsEntry lists e.address_size bytes x rest × IsRefusedEntryOfNewList e bs t base new_base x fault)

-- ---- a list

-- these entries are passed
abbrev pub ArePassedEntries : Encoding → List Body → AddressTable → (base : ℕ) → List AnEntry → Type 0
ArePassedEntries e bs t base [] = ⊤
ArePassedEntries e bs t base (x ∷ xs) =
    IsPassedEntry e bs t base (new_address bs base) x × ArePassedEntries e bs t (next_base base (says_entry (address_at t) base x)) xs

-- Entries are passed, of which none is the end, and the next one is refused.
pub record IsRefusedAfter (lists : Lists) (e : Encoding) (bs : List Body) (t : AddressTable) (base : ℕ) (bytes : List ℕ) (fault : DebugFault) : Type 0 where
  pub passed : List AnEntry
  pub rest : List ℕ
  pub begins : BeginWith (BeginsEntry lists e.address_size) bytes passed rest
  pub are_open : AllByRecursion (λ x. new_list_is_end x.kind ≡ false) passed
  pub are_passed : ArePassedEntries e bs t base passed
  pub refused :
      let base_now = base_after_entries (address_at t) base passed in
      IsRefusedNextOfNewList lists e bs t base_now (new_address bs base_now) rest fault

-- The first fault of a list: its offset isn't in the section; an entry is refused; or what is replaced before ends after the offset.
abbrev pub IsRefusedListOfNewList : Lists → Encoding → List Body → AddressTable → (base : ℕ) → (section : List ℕ) → (offset : ℕ) → (before : List SectionChange) → DebugFault → Type 0
IsRefusedListOfNewList lists e bs t base section offset before fault =
    ((fault ≡ faults.BadOffset) × (length section < offset))
    ⊎ (((offset ≤ length section) × IsRefusedAfter lists e bs t base (drop offset section) fault)
    ⊎ ((xs : List AnEntry) × (rest : List ℕ) × IsList lists e.address_size (drop offset section) xs rest × ArePassedEntries e bs t base xs
    × (fault ≡ faults.Overlap) × (offset < end_from 0 before)))

-- by what the list has
abbrev pub IsRefusedRangeList : Encoding → List Body → AddressTable → (base : ℕ) → (section : List ℕ) → (offset : ℕ) → (before : List SectionChange) → DebugFault → Type 0
IsRefusedRangeList = IsRefusedListOfNewList Ranges

abbrev pub IsRefusedLocationList : Encoding → List Body → AddressTable → (base : ℕ) → (section : List ℕ) → (offset : ℕ) → (before : List SectionChange) → DebugFault → Type 0
IsRefusedLocationList = IsRefusedListOfNewList Locations
