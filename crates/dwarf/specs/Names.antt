-- Tables of names (DWARF 4, section 6.1.1): `.debug_pubnames` and `.debug_pubtypes`, and those of GNU. Each is of a unit: its offset in
-- `.debug_info` and its length, and then names with the offsets of their entries, counted from the unit.
use Rattle.std.specs.Prelude.{ℕ, ◌-◌, Bool, true, false, ◌==◌, if◌then◌else◌, List, [], length, Result, Ok, Err}
use Rattle.wasm_numbers.specs.Results.{◌>>=◌}
use Rattle.dwarf_bytes.specs.declared.fault.DebugFault.{DebugFault}
use Rattle.dwarf_bytes.specs.declared.fault.DebugFault.TheVariants.{UnknownVersion}
use Rattle.dwarf_bytes.specs.declared.size.Size.{Size}
use Rattle.dwarf_bytes.specs.Changes.{SectionChange}
use Rattle.dwarf_bytes.specs.Faults.{DebugReader}
use Rattle.dwarf_bytes.specs.Numbers.{size_in_bytes, offset_size, fixed_number, initial_length, part_and_rest, terminated}
use Rattle.dwarf.specs.Replacing.{Replacing, ReplacingReader, distance_replaced, each_replaced, section_replaced, unit_followed}

-- The names of a unit: what is replaced in `.debug_info`, the unit's offset, the size of offsets, whether the table is one of GNU, and the
-- place after the table.
pub record NamesOfUnit : Type 0 where
  pub info : List SectionChange
  pub unit : ℕ
  pub size : Size
  pub is_gnu : Bool
  pub end : ℕ

-- What follows the offset of an entry: its name, up to a zero byte. In a table of GNU a byte that says what the name is of is before it.
abbrev pub name_of_entry : (is_gnu : Bool) → DebugReader (List ℕ)
name_of_entry false bytes = terminated bytes
name_of_entry true bytes = fixed_number 1 bytes >>= λ kind. terminated kind.1

-- an entry; a zero in place of an offset ends them, and what follows it isn't read
abbrev pub name_followed : NamesOfUnit → ReplacingReader
name_followed n bytes cs =
    fixed_number (size_in_bytes n.size) bytes >>= λ distance.
    if distance.0 == 0 then Ok (cs, [])
    else (distance_replaced n.info n.unit (n.end - length bytes) n.size distance.0 cs >>= λ now. name_of_entry n.is_gnu distance.1 >>= λ name. Ok (now, name.1))

-- the length of the unit, which is the distance to its end, and the entries
abbrev pub names_of_unit_followed : NamesOfUnit → (bytes : List ℕ) → List SectionChange → Replacing
names_of_unit_followed n bytes cs =
    fixed_number (size_in_bytes n.size) bytes >>= λ distance.
    distance_replaced n.info n.unit (n.end - length bytes) n.size distance.0 cs >>= λ now.
    each_replaced (name_followed n) distance.1 now

-- what follows the length of a table: the version is 2
abbrev pub names_of_part_followed : (info : List SectionChange) → (is_gnu : Bool) → Size → (end : ℕ) → (bytes : List ℕ) → List SectionChange → Replacing
names_of_part_followed info is_gnu size end bytes cs =
    fixed_number 2 bytes >>= λ version.
    if version.0 == 2 then (unit_followed info size end version.1 cs >>= λ unit.
    names_of_unit_followed (record { info = info; unit = unit.0.0; size = size; is_gnu = is_gnu; end = end }) unit.1 unit.0.1)
    else Err UnknownVersion

-- the next table; `end`: the place after the bytes
abbrev pub names_table_followed : (info : List SectionChange) → (is_gnu : Bool) → (end : ℕ) → ReplacingReader
names_table_followed info is_gnu end bytes cs =
    initial_length bytes >>= λ size.
    part_and_rest size.0.1 size.1 >>= λ part.
    names_of_part_followed info is_gnu (offset_size size.0.0) (end - length part.1) part.0 cs >>= λ now.
    Ok (now, part.1)

-- What becomes of a section of tables of names, where these parts of `.debug_info` are replaced.
abbrev pub names_followed : (info : List SectionChange) → (is_gnu : Bool) → (section : List ℕ) → Result (List ℕ) DebugFault
names_followed info is_gnu section = section_replaced (names_table_followed info is_gnu (length section)) section
