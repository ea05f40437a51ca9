-- What is told of the addresses that lists name by index (DWARF 5, section 7.27).
use Rattle.std.specs.Prelude.{◌≡◌, ℕ, List, [], ◌∷◌, ◌++◌, Option, None, option_map, is_some, if◌then◌else◌, Result, Ok, Err}
use Rattle.std.specs.List.{filter_map}
use Rattle.code_moves.specs.declared.body.Body.{Body}
use Rattle.code_moves.specs.Moves.{address_moved}
use Rattle.dwarf_bytes.specs.declared.addresses.Address.{Address}
use Rattle.dwarf_bytes.specs.declared.addresses.AddressTable.{AddressTable}
use Rattle.dwarf_bytes.specs.declared.fault.DebugFault.{DebugFault}
use Rattle.dwarf_bytes.specs.Addresses.{addresses_of_table, indexed_address}
use Rattle.dwarf_new_lists.specs.declared.kind.Kind.{Kind}
use Rattle.dwarf_new_lists.specs.declared.kind.Kind.TheVariants.{BaseIndex, IndexPair, IndexLength}
use Rattle.dwarf_new_lists.specs.declared.saying.Saying.{Saying}
use Rattle.dwarf_new_lists.specs.Entries.{AnEntry}
use Rattle.dwarf_new_lists.specs.Sayings.{says_entry, next_base, moved_saying}

-- an address, if there is one, and where it goes, if it is of a body
abbrev pub told_of_address : List Body → Result Address DebugFault → Option (Address × ℕ)
told_of_address bs (Ok a) = option_map (λ new. (a, new)) (address_moved bs a.value)
told_of_address bs (Err fault) = None

-- the address of this index
abbrev pub told_of_index : List Body → AddressTable → (index : ℕ) → Option (Address × ℕ)
told_of_index bs t index = told_of_address bs (indexed_address (addresses_of_table t) index)

-- After what was told before, each address of these indices that is of a body is told, in their order, and nothing else.
abbrev pub Tells : List Body → AddressTable → (before after : List (Address × ℕ)) → (indices : List ℕ) → Type 0
Tells bs t before after is = after ≡ before ++ filter_map (told_of_index bs t) is

-- ---- which addresses an entry and a list name by index

abbrev pub indices : Kind → (one two : ℕ) → List ℕ
indices BaseIndex one two = one ∷ []
indices IndexPair one two = one ∷ two ∷ []
indices IndexLength one two = one ∷ []
indices _ one two = []

-- those of an entry that says this, if it says something of code
abbrev pub indices_of_code : List Body → Saying → Kind → (one two : ℕ) → List ℕ
indices_of_code bs said kind one two = if is_some (moved_saying bs said) then indices kind one two else []

abbrev pub code_indices : List Body → (at : ℕ → Option ℕ) → (base : ℕ) → List AnEntry → List ℕ
code_indices bs at base [] = []
code_indices bs at base (e ∷ es) =
    indices_of_code bs (says_entry at base e) e.kind e.one e.two ++ code_indices bs at (next_base base (says_entry at base e)) es
