-- Headers of units (DWARF 5, section 7.5.1; DWARF 4, section 7.5.1).
use Rattle.std.specs.Prelude.{◌≡◌, ℕ, List, [], ◌∷◌, Option, Some, None, Result, Ok, Err, refl}
use Rattle.wasm_numbers.specs.Reading.{many}
use Rattle.dwarf_bytes.specs.declared.fault.DebugFault.{DebugFault}
use Rattle.dwarf_bytes.specs.declared.fault.DebugFault.TheVariants.{BadLength, BadOffset, Truncated, UnknownVersion, Unsupported}
use Rattle.dwarf_bytes.specs.declared.size.Size.{Size}
use Rattle.dwarf_bytes.specs.declared.size.Size.TheVariants.{Four, Eight}
use Rattle.dwarf_bytes.specs.declared.size.Format.{Format}
use Rattle.dwarf_bytes.specs.declared.size.Format.TheVariants.{Dwarf32, Dwarf64}
use Rattle.dwarf_info.specs.declared.unit.UnitSection.{UnitSection}
use Rattle.dwarf_info.specs.declared.unit.UnitSection.TheVariants.{Info, Types}
use Rattle.dwarf_info.specs.Abbreviations.{AbbreviationsAt}
use Rattle.dwarf_info.specs.Units.{SpelledUnit, encoding_of, unit_of_part, spelled_unit}

-- tables of no declarations at 0 and at 5
abbrev tables : List AbbreviationsAt
tables = (record { offset = 0; declarations = [] }) ∷ (record { offset = 5; declarations = [] }) ∷ []

-- of a section whose bytes are these
abbrev read : UnitSection → List ℕ → (end : ℕ) → Result (SpelledUnit × List ℕ) DebugFault
read section bytes end = spelled_unit section tables end bytes

abbrev spelled : (start version : ℕ) → Format → Size → Option (ℕ × ℕ) → List ℕ → (end : ℕ) → SpelledUnit
spelled start version format size type_offset entries end =
    record { start = start; encoding = encoding_of version format size; declarations = []; type_offset = type_offset; entries = entries; end = end }

-- DWARF 4: the length, the version, the offset of the abbreviations, the size of an address. The unit is at 20, and a byte follows it.
of_four : read Info (9 ∷ 0 ∷ 0 ∷ 0 ∷ 4 ∷ 0 ∷ 5 ∷ 0 ∷ 0 ∷ 0 ∷ 4 ∷ 1 ∷ 0 ∷ 0xff ∷ []) 34 ≡ Ok (spelled 20 4 Dwarf32 Four None (1 ∷ 0 ∷ []) 33, 0xff ∷ [])
unfolding spelled_unit unit_of_part many
of_four = refl

-- a type unit of DWARF 4: the offset of its type is at 19 of the section
types_of_four : read Types (19 ∷ 0 ∷ 0 ∷ 0 ∷ 4 ∷ 0 ∷ 0 ∷ 0 ∷ 0 ∷ 0 ∷ 8 ∷ 1 ∷ 2 ∷ 3 ∷ 4 ∷ 5 ∷ 6 ∷ 7 ∷ 8 ∷ 23 ∷ 0 ∷ 0 ∷ 0 ∷ []) 23
    ≡ Ok (spelled 0 4 Dwarf32 Eight (Some (19, 23)) [] 23, [])
unfolding spelled_unit unit_of_part many
types_of_four = refl

-- DWARF 5: the version, the unit's type, the size of an address, the offset of the abbreviations
of_five : read Info (8 ∷ 0 ∷ 0 ∷ 0 ∷ 5 ∷ 0 ∷ 1 ∷ 4 ∷ 5 ∷ 0 ∷ 0 ∷ 0 ∷ []) 12 ≡ Ok (spelled 0 5 Dwarf32 Four None [] 12, [])
unfolding spelled_unit unit_of_part many
of_five = refl

-- with 64-bit offsets, and a type
types_of_five : read Info (0xff ∷ 0xff ∷ 0xff ∷ 0xff ∷ 28 ∷ 0 ∷ 0 ∷ 0 ∷ 0 ∷ 0 ∷ 0 ∷ 0 ∷ 5 ∷ 0 ∷ 2 ∷ 4 ∷ 0 ∷ 0 ∷ 0 ∷ 0 ∷ 0 ∷ 0 ∷ 0 ∷ 0 ∷ 1 ∷ 2 ∷ 3 ∷ 4 ∷ 5 ∷ 6 ∷ 7 ∷ 8 ∷ 40 ∷ 0 ∷ 0 ∷ 0 ∷ 0 ∷ 0 ∷ 0 ∷ 0 ∷ []) 40
    ≡ Ok (spelled 0 5 Dwarf64 Four (Some (32, 40)) [] 40, [])
unfolding spelled_unit unit_of_part many
types_of_five = refl

-- ---- what is refused

-- a skeleton unit (4); an address of two bytes; the versions 1 and 6; no abbreviations at 3; a unit that is longer than the section
skeleton : read Info (16 ∷ 0 ∷ 0 ∷ 0 ∷ 5 ∷ 0 ∷ 4 ∷ 4 ∷ 0 ∷ 0 ∷ 0 ∷ 0 ∷ 1 ∷ 2 ∷ 3 ∷ 4 ∷ 5 ∷ 6 ∷ 7 ∷ 8 ∷ []) 20 ≡ Err Unsupported
unfolding spelled_unit unit_of_part many
skeleton = refl

small_address : read Info (7 ∷ 0 ∷ 0 ∷ 0 ∷ 4 ∷ 0 ∷ 0 ∷ 0 ∷ 0 ∷ 0 ∷ 2 ∷ []) 11 ≡ Err Unsupported
unfolding spelled_unit unit_of_part many
small_address = refl

of_one : read Info (7 ∷ 0 ∷ 0 ∷ 0 ∷ 1 ∷ 0 ∷ 0 ∷ 0 ∷ 0 ∷ 0 ∷ 4 ∷ []) 11 ≡ Err UnknownVersion
unfolding spelled_unit unit_of_part many
of_one = refl

of_six : read Info (8 ∷ 0 ∷ 0 ∷ 0 ∷ 6 ∷ 0 ∷ 1 ∷ 4 ∷ 0 ∷ 0 ∷ 0 ∷ 0 ∷ []) 12 ≡ Err UnknownVersion
unfolding spelled_unit unit_of_part many
of_six = refl

no_abbreviations : read Info (7 ∷ 0 ∷ 0 ∷ 0 ∷ 4 ∷ 0 ∷ 3 ∷ 0 ∷ 0 ∷ 0 ∷ 4 ∷ []) 11 ≡ Err BadOffset
unfolding spelled_unit unit_of_part many
no_abbreviations = refl

too_long : read Info (8 ∷ 0 ∷ 0 ∷ 0 ∷ 4 ∷ 0 ∷ 0 ∷ 0 ∷ 0 ∷ 0 ∷ 4 ∷ []) 11 ≡ Err BadLength
unfolding spelled_unit unit_of_part many
too_long = refl

header_ends : read Info (6 ∷ 0 ∷ 0 ∷ 0 ∷ 4 ∷ 0 ∷ 0 ∷ 0 ∷ 0 ∷ 0 ∷ 4 ∷ []) 11 ≡ Err Truncated
unfolding spelled_unit unit_of_part many
header_ends = refl
