-- The addresses that units name by index (DWARF 5, section 7.27): one after the other in `.debug_addr`.
use Rattle.std.specs.Prelude.{ℕ, List, ◌+◌, ◌*◌, length, drop, nat_lt, if◌then◌else◌, Option, Some, None, Result, Ok, Err}
use Rattle.wasm_numbers.specs.Results.{◌>>=◌}
use Rattle.dwarf_bytes.specs.declared.addresses.Address.{Address}
use Rattle.dwarf_bytes.specs.declared.addresses.AddressTable.{AddressTable}
use Rattle.dwarf_bytes.specs.declared.size.Size.{Size}
use Rattle.dwarf_bytes.specs.declared.fault.DebugFault.{DebugFault}
use Rattle.dwarf_bytes.specs.declared.fault.DebugFault.TheVariants.{BadOffset}
use Rattle.dwarf_bytes.specs.Numbers.{size_in_bytes, fixed_number}

-- where in the section the address of this index is
abbrev pub place_of_address : AddressTable → (index : ℕ) → ℕ
place_of_address t index = index * size_in_bytes t.size + t.base

abbrev value_of : Result (ℕ × List ℕ) DebugFault → Option ℕ
value_of (Ok x) = Some x.0
value_of (Err fault) = None

-- the address of this index, if it is in the section
abbrev pub address_at : AddressTable → (index : ℕ) → Option ℕ
address_at t index = value_of (fixed_number (size_in_bytes t.size) (drop (place_of_address t index) t.section.now))

-- ---- the same of the section's bytes

-- the addresses of a unit: the section, the offset of the first one (DW_AT_addr_base), and their size
pub record AddressesOfUnit : Type 0 where
  pub section : List ℕ
  pub base : ℕ
  pub size : Size

abbrev pub addresses_of_table : AddressTable → AddressesOfUnit
addresses_of_table t = record { section = t.section.now; base = t.base; size = t.size }

abbrev pub place_of_index : AddressesOfUnit → (index : ℕ) → ℕ
place_of_index t index = index * size_in_bytes t.size + t.base

-- the address of this index with its place, or why there is none
abbrev pub indexed_address : AddressesOfUnit → (index : ℕ) → Result Address DebugFault
indexed_address t index =
    if nat_lt (length t.section) (place_of_index t index) then Err BadOffset
    else (fixed_number (size_in_bytes t.size) (drop (place_of_index t index) t.section) >>= λ x.
    Ok (record { at = place_of_index t index; value = x.0; size = t.size }))
