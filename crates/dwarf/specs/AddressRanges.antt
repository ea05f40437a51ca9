-- The addresses that units have (DWARF 4, section 6.1.2): `.debug_aranges`. Each table is of a unit: its offset in `.debug_info`, and then
-- ranges, each an address and a length, of which two zeros are the last. Memory is in the same tables, under the same numbers as code.
use Rattle.std.specs.Prelude.{ℕ, ◌+◌, ◌-◌, ◌*◌, ◌^◌, ◌%◌, Bool, ◌&&◌, ◌==◌, nat_lt, nat_le, if◌then◌else◌, List, ◌++◌, length, Option, Some, None, Result, Ok, Err}
use Rattle.std.specs.List.{list_any}
use Rattle.wasm_numbers.specs.Results.{◌>>=◌, unless}
use Rattle.code_moves.specs.declared.body.Body.{Body}
use Rattle.code_moves.specs.Moves.{address_moved}
use Rattle.dwarf_bytes.specs.declared.fault.DebugFault.{DebugFault}
use Rattle.dwarf_bytes.specs.declared.fault.DebugFault.TheVariants.{UnknownVersion, Unsupported, DoesNotFit}
use Rattle.dwarf_bytes.specs.declared.size.Format.{Format}
use Rattle.dwarf_bytes.specs.declared.size.Size.{Size}
use Rattle.dwarf_bytes.specs.Changes.{SectionChange}
use Rattle.dwarf_bytes.specs.Faults.{DebugReader}
use Rattle.dwarf_bytes.specs.Numbers.{size_in_bytes, offset_size, fixed_number, initial_length, part_and_rest}
use Rattle.dwarf_bytes.specs.Patches.{part_of}
use Rattle.dwarf_bytes.specs.Writing.{fixed_bytes}
use Rattle.dwarf_line.specs.LineTables.{length_size}
use Rattle.dwarf_info.specs.declared.moved.CodeRange.{CodeRange}
use Rattle.dwarf_info.specs.Units.{size_of_address}
use Rattle.dwarf.specs.Replacing.{Replacing, ReplacingReader, part_replaced, each_replaced, section_replaced, unit_followed}

-- What ranges follow: the bodies of the code, what of a unit is code, and what is replaced in `.debug_info`.
pub record RangesFollowing : Type 0 where
  pub bodies : List Body
  pub is_code : (unit begin length : ℕ) → Bool
  pub info : List SectionChange

-- ---- a range

-- whether a function of the unit, or the unit, has code of this length that begins there
abbrev pub is_range_of : (unit begin length : ℕ) → CodeRange → Bool
is_range_of unit begin size r = (r.unit == unit) && ((r.begin == begin) && (r.length == size))

abbrev pub has_code : List CodeRange → (unit begin length : ℕ) → Bool
has_code code unit begin size = list_any (is_range_of unit begin size) code

-- The range between two new addresses. The second isn't before the first, since what the code moves by rises.
abbrev pub between_addresses : (new_begin : ℕ) → Option ℕ → Result (Option (ℕ × ℕ)) DebugFault
between_addresses new None = Err Unsupported
between_addresses new (Some end) = if nat_le new end then Ok (Some (new, end - new)) else Err Unsupported

-- where the end of a range goes; addresses are numbers of 64 bits
abbrev pub range_end_moved : List Body → (end : ℕ) → Option ℕ
range_end_moved bodies end = if nat_lt end (2 ^ 64) then address_moved bodies end else None

-- Where code goes: from where its first address goes up to where its end goes. It stays if it begins in no body: the linker has removed it.
abbrev pub range_from : List Body → (end : ℕ) → (new_begin : Option ℕ) → Result (Option (ℕ × ℕ)) DebugFault
range_from bodies end None = Ok None
range_from bodies end (Some new) = between_addresses new (range_end_moved bodies end)

abbrev pub range_moved : List Body → (begin length : ℕ) → Result (Option (ℕ × ℕ)) DebugFault
range_moved bodies begin size = range_from bodies (begin + size) (address_moved bodies begin)

-- an address and a length in numbers of this size
abbrev pub range_replaced : (at : ℕ) → Size → Option (ℕ × ℕ) → List SectionChange → Replacing
range_replaced at size None cs = Ok cs
range_replaced at size (Some (begin, size_of_range)) cs =
    if nat_lt begin (256 ^ size_in_bytes size) && nat_lt size_of_range (256 ^ size_in_bytes size)
    then part_replaced (part_of at (2 * size_in_bytes size) (fixed_bytes (size_in_bytes size) begin ++ fixed_bytes (size_in_bytes size) size_of_range)) cs
    else Err DoesNotFit

-- a range of the unit that is at this place: one of memory, which is no code of the unit, stays
abbrev pub unit_range_replaced : RangesFollowing → (unit at : ℕ) → Size → (begin length : ℕ) → List SectionChange → Replacing
unit_range_replaced f unit at size begin size_of_range cs =
    if f.is_code unit begin size_of_range
    then (range_moved f.bodies begin size_of_range >>= λ new. range_replaced at size new cs)
    else Ok cs

-- the next one; `end`: the place after the bytes
abbrev pub range_followed : RangesFollowing → (unit : ℕ) → Size → (end : ℕ) → ReplacingReader
range_followed f unit size end bytes cs =
    fixed_number (size_in_bytes size) bytes >>= λ begin.
    fixed_number (size_in_bytes size) begin.1 >>= λ size_of_range.
    unit_range_replaced f unit (end - length bytes) size begin.0 size_of_range.0 cs >>= λ now.
    Ok (now, size_of_range.1)

-- ---- a table

-- how many bytes its header has: its length, of 4 or 12 bytes, a version of 2, the offset of the unit, and a byte each for the sizes of an
-- address and of a segment selector
abbrev pub ranges_header_size : Format → ℕ
ranges_header_size format = length_size format + (size_in_bytes (offset_size format) + 4)

-- The first range begins at a multiple of the size of a range, counted from the table's first byte.
abbrev pub padding_of_ranges : Format → Size → ℕ
padding_of_ranges format size = (2 * size_in_bytes size - ranges_header_size format % (2 * size_in_bytes size)) % (2 * size_in_bytes size)

-- the size of an address, in front of the ranges; there are no segments
abbrev pub size_of_ranges : Format → DebugReader Size
size_of_ranges format bytes =
    fixed_number 1 bytes >>= λ bytes_of_address.
    size_of_address bytes_of_address.0 >>= λ size.
    fixed_number 1 bytes_of_address.1 >>= λ selector.
    unless (selector.0 == 0) Unsupported >>= λ u.
    part_and_rest (padding_of_ranges format size) selector.1 >>= λ padding.
    Ok (size, padding.1)

-- what follows the length of a table: the version is 2
abbrev pub ranges_of_part_followed : RangesFollowing → Format → (end : ℕ) → (bytes : List ℕ) → List SectionChange → Replacing
ranges_of_part_followed f format end bytes cs =
    fixed_number 2 bytes >>= λ version.
    if version.0 == 2 then (unit_followed f.info (offset_size format) end version.1 cs >>= λ unit.
    size_of_ranges format unit.1 >>= λ size.
    each_replaced (range_followed f unit.0.0 size.0 end) size.1 unit.0.1)
    else Err UnknownVersion

-- the next table; `end`: the place after the bytes
abbrev pub ranges_table_followed : RangesFollowing → (end : ℕ) → ReplacingReader
ranges_table_followed f end bytes cs =
    initial_length bytes >>= λ size.
    part_and_rest size.0.1 size.1 >>= λ part.
    ranges_of_part_followed f size.0.0 (end - length part.1) part.0 cs >>= λ now.
    Ok (now, part.1)

-- What becomes of the section.
abbrev pub address_ranges_followed : RangesFollowing → (section : List ℕ) → Result (List ℕ) DebugFault
address_ranges_followed f section = section_replaced (ranges_table_followed f (length section)) section

-- where functions and units have this code
abbrev pub code_followed : List Body → List CodeRange → (info : List SectionChange) → (section : List ℕ) → Result (List ℕ) DebugFault
code_followed bodies code info section = address_ranges_followed (record { bodies = bodies; is_code = has_code code; info = info }) section
