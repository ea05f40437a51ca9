-- What is claimed of a section in which lists are moved.
use Rattle.std.specs.Prelude.{ℕ, List, ◌++◌, drop}
use Rattle.code_moves.specs.declared.body.Body.{Body}
use Rattle.dwarf_bytes.specs.declared.addresses.Address.{Address}
use Rattle.dwarf_bytes.specs.declared.addresses.AddressTable.{AddressTable}
use Rattle.dwarf_bytes.specs.Changes.{SectionChange, AreChangesInOrder, patched, moved_offset}
use Rattle.dwarf_expressions.specs.declared.encoding.Encoding.{Encoding}
use Rattle.dwarf_new_lists.specs.declared.kind.Lists.{Lists}
use Rattle.dwarf_new_lists.specs.NewLists.{IsList, IsMovedListOfNewList}

-- Where the offset of a list goes, the section that is written has the list with the moved entries, whatever is replaced after it.
abbrev pub IsFoundOfNewList : Type 0
IsFoundOfNewList =
    (lists : Lists) (e : Encoding) (bs : List Body) (t : AddressTable) (base : ℕ) (section : List ℕ) (offset end : ℕ) (before after back : List SectionChange) (uses new_uses : List (Address × ℕ))
    → (m : IsMovedListOfNewList lists e bs t base section offset end before after uses new_uses) → AreChangesInOrder 0 (after ++ back)
    → (rest : List ℕ) × IsList lists e.address_size (drop (moved_offset (after ++ back) offset) (patched (after ++ back) section)) m.news rest
