-- Lists: entries one after the other, up to the first one that is the end (DWARF 5, sections 2.17.3 and 2.6.2).
use Rattle.std.specs.Prelude.{◌≡◌, ℕ, ◌-◌, ◌<◌, ◌≤◌, List, [], ◌∷◌, ◌++◌, length, drop, MatchBool, Ok}
use Rattle.code_moves.specs.declared.body.Body.{Body}
use Rattle.code_moves.specs.Moves.{new_address}
use Rattle.dwarf_bytes.specs.declared.size.Size.{Size}
use Rattle.dwarf_bytes.specs.Changes.{SectionChange, end_from}
use Rattle.dwarf_bytes.specs.declared.addresses.Address.{Address}
use Rattle.dwarf_bytes.specs.declared.addresses.AddressTable.{AddressTable}
use Rattle.dwarf_bytes.specs.Addresses.{address_at}
use Rattle.dwarf_expressions.specs.declared.encoding.Encoding.{Encoding}
use Rattle.dwarf_expressions.specs.Expressions.{BeginWith}
use Rattle.dwarf_new_lists.specs.declared.kind.Lists.{Lists}
use Rattle.dwarf_new_lists.specs.declared.kind.Lists.TheVariants.{Ranges, Locations}
use Rattle.dwarf_new_lists.specs.Kinds.{new_list_is_end}
use Rattle.dwarf_new_lists.specs.Entries.{AnEntry, an_entry}
use Rattle.dwarf_new_lists.specs.Sayings.{AreMovedOfNewList}
use Rattle.dwarf_new_lists.specs.Tellings.{Tells, code_indices}

abbrev pub BeginsEntry : Lists → Size → List ℕ → AnEntry → List ℕ → Type 0
BeginsEntry lists size bytes e rest = an_entry lists size bytes ≡ Ok (e, rest)

-- the last one, and no other one, is the end
abbrev pub AreWhole : List AnEntry → Type 0
AreWhole [] = ⊥
AreWhole (e ∷ es) = MatchBool (new_list_is_end e.kind) (es ≡ []) (AreWhole es)

-- the bytes begin with a list of these entries, and these bytes follow
abbrev pub IsList : Lists → Size → (bytes : List ℕ) → List AnEntry → (rest : List ℕ) → Type 0
IsList lists size bytes es rest = BeginWith (BeginsEntry lists size) bytes es rest × AreWhole es

-- the text is a list of these entries, whatever follows
abbrev pub IsListText : Lists → Size → (text : List ℕ) → List AnEntry → Type 0
IsListText lists size text es = (following : List ℕ) → IsList lists size (text ++ following) es following

-- A list of a section, after all that is replaced before, is moved: it has these entries, and it is replaced by a text that has those. Where
-- addresses of code go that it names by index is told.
pub record IsMovedListOfNewList (lists : Lists) (e : Encoding) (bs : List Body) (t : AddressTable) (base : ℕ) (section : List ℕ) (offset end : ℕ) (before after : List SectionChange) (uses new_uses : List (Address × ℕ)) : Type 0 where
  pub olds : List AnEntry
  pub news : List AnEntry
  pub text : List ℕ
  pub is_list : IsList lists e.address_size (drop offset section) olds (drop end section)
  pub is_text : IsListText lists e.address_size text news
  pub moved : AreMovedOfNewList e bs (address_at t) base (new_address bs base) olds news
  pub some : offset < end
  pub within : end ≤ length section
  pub free : end_from 0 before ≤ offset
  pub changed : after ≡ before ++ (record { at = offset; old = end - offset; new = text }) ∷ []
  pub tells : Tells bs t uses new_uses (code_indices bs (address_at t) base olds)

-- by what the list has
abbrev pub IsMovedRangeList : Encoding → List Body → AddressTable → (base : ℕ) → (section : List ℕ) → (offset end : ℕ) → (before after : List SectionChange) → (uses new_uses : List (Address × ℕ)) → Type 0
IsMovedRangeList = IsMovedListOfNewList Ranges

abbrev pub IsMovedLocationList : Encoding → List Body → AddressTable → (base : ℕ) → (section : List ℕ) → (offset end : ℕ) → (before after : List SectionChange) → (uses new_uses : List (Address × ℕ)) → Type 0
IsMovedLocationList = IsMovedListOfNewList Locations
