-- Units: their headers (DWARF 5, section 7.5.1; DWARF 4, section 7.5.1).
use Rattle.std.specs.Prelude.{ℕ, ◌-◌, ◌&&◌, ◌||◌, ◌==◌, nat_le, if◌then◌else◌, List, length, Option, Some, None, Result, Ok, Err}
use Rattle.wasm_numbers.specs.Results.{◌>>=◌}
use Rattle.dwarf_bytes.specs.declared.fault.DebugFault.{DebugFault}
use Rattle.dwarf_bytes.specs.declared.fault.DebugFault.TheVariants.{UnknownVersion, Unsupported}
use Rattle.dwarf_bytes.specs.declared.size.Size.{Size}
use Rattle.dwarf_bytes.specs.declared.size.Size.TheVariants.{Four, Eight}
use Rattle.dwarf_bytes.specs.declared.size.Format.{Format}
use Rattle.dwarf_bytes.specs.Faults.{DebugReader}
use Rattle.dwarf_bytes.specs.Numbers.{fixed_number, offset, initial_length, part_and_rest}
use Rattle.dwarf_expressions.specs.declared.encoding.Encoding.{Encoding}
use Rattle.dwarf_info.specs.declared.unit.UnitSection.{UnitSection}
use Rattle.dwarf_info.specs.declared.unit.UnitSection.TheVariants.{Info, Types}
use Rattle.dwarf_info.specs.Abbreviations.{Declaration, AbbreviationsAt, table_at}

-- what a header says after its version: the size of an address, the offset of the unit's abbreviations, and of a type unit the place and
-- the value of its type's offset
pub record HeaderOfUnit : Type 0 where
  pub address_size : Size
  pub abbreviations : ℕ
  pub type_offset : Option (ℕ × ℕ)

-- an address has four or eight bytes
abbrev pub size_of_address : (bytes : ℕ) → Result Size DebugFault
size_of_address bytes = if bytes == 4 then Ok Four else if bytes == 8 then Ok Eight else Err Unsupported

-- What the header of a type unit has at its end: a signature, and the offset of the type from the unit's first byte. `end`: the place after
-- the bytes.
abbrev pub type_offset_at : Format → (end : ℕ) → DebugReader (Option (ℕ × ℕ))
type_offset_at format end bytes =
    fixed_number 8 bytes >>= λ signature.
    offset format signature.1 >>= λ o.
    Ok (Some (end - length signature.1, o.0), o.1)

-- a unit of `.debug_types` is a type unit
abbrev pub old_type_offset : UnitSection → Format → (end : ℕ) → DebugReader (Option (ℕ × ℕ))
old_type_offset Info format end bytes = Ok (None, bytes)
old_type_offset Types format end bytes = type_offset_at format end bytes

-- DWARF 2 to 4
abbrev pub old_header : UnitSection → Format → (end : ℕ) → DebugReader HeaderOfUnit
old_header section format end bytes =
    offset format bytes >>= λ abbreviations.
    fixed_number 1 abbreviations.1 >>= λ bytes_of_address.
    size_of_address bytes_of_address.0 >>= λ size.
    old_type_offset section format end bytes_of_address.1 >>= λ type_offset.
    Ok (record { address_size = size; abbreviations = abbreviations.0; type_offset = type_offset.0 }, type_offset.1)

-- The types of units: DW_UT_compile (1) and DW_UT_partial (3), and DW_UT_type (2). The lists of the others are in another file.
abbrev pub new_type_offset : (unit_type : ℕ) → Format → (end : ℕ) → DebugReader (Option (ℕ × ℕ))
new_type_offset unit_type format end bytes =
    if (unit_type == 1) || (unit_type == 3) then Ok (None, bytes)
    else if unit_type == 2 then type_offset_at format end bytes
    else Err Unsupported

-- DWARF 5
abbrev pub new_header : Format → (end : ℕ) → DebugReader HeaderOfUnit
new_header format end bytes =
    fixed_number 1 bytes >>= λ unit_type.
    fixed_number 1 unit_type.1 >>= λ bytes_of_address.
    size_of_address bytes_of_address.0 >>= λ size.
    offset format bytes_of_address.1 >>= λ abbreviations.
    new_type_offset unit_type.0 format end abbreviations.1 >>= λ type_offset.
    Ok (record { address_size = size; abbreviations = abbreviations.0; type_offset = type_offset.0 }, type_offset.1)

abbrev pub header_of_version : (version : ℕ) → UnitSection → Format → (end : ℕ) → DebugReader HeaderOfUnit
header_of_version version section format end bytes =
    if nat_le 2 version && nat_le version 4 then old_header section format end bytes
    else if version == 5 then new_header format end bytes
    else Err UnknownVersion

-- a unit: the place of its first byte, how it is spelt, its abbreviations, what `type_offset` of its header is, the bytes of its entries, and
-- the place after them
pub record SpelledUnit : Type 0 where
  pub start : ℕ
  pub encoding : Encoding
  pub declarations : List Declaration
  pub type_offset : Option (ℕ × ℕ)
  pub entries : List ℕ
  pub end : ℕ

abbrev pub encoding_of : (version : ℕ) → Format → Size → Encoding
encoding_of version format size = record { version = version; format = format; address_size = size }

-- the unit whose bytes after its length these are
unfoldable pub unit_of_part : UnitSection → List AbbreviationsAt → Format → (start end : ℕ) → List ℕ → Result SpelledUnit DebugFault
unit_of_part section tables format start end bytes =
    fixed_number 2 bytes >>= λ version.
    header_of_version version.0 section format end version.1 >>= λ header.
    table_at tables header.0.abbreviations >>= λ declarations.
    Ok (record {
      start = start;
      encoding = encoding_of version.0 format header.0.address_size;
      declarations = declarations;
      type_offset = header.0.type_offset;
      entries = header.1;
      end = end;
    })

-- the next unit of a section with these tables of abbreviations; `end`: the place after the bytes
unfoldable pub spelled_unit : UnitSection → List AbbreviationsAt → (end : ℕ) → DebugReader SpelledUnit
spelled_unit section tables end bytes =
    initial_length bytes >>= λ size.
    part_and_rest size.0.1 size.1 >>= λ part.
    unit_of_part section tables size.0.0 (end - length bytes) (end - length part.1) part.0 >>= λ unit.
    Ok (unit, part.1)
