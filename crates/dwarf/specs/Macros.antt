-- Macros (DWARF 5, section 6.3; GNU's for DWARF 4 are the same), where line tables are at other places.
use Rattle.std.specs.Prelude.{ℕ, zero, suc, ◌-◌, Bool, true, false, ◌||◌, ◌==◌, nat_le, if◌then◌else◌, List, length, option_map, Result, Ok, Err}
use Rattle.wasm_numbers.specs.Results.{◌>>=◌, unless, some_or}
use Rattle.dwarf_bytes.specs.declared.fault.DebugFault.{DebugFault}
use Rattle.dwarf_bytes.specs.declared.fault.DebugFault.TheVariants.{Truncated, UnknownVersion, UnknownOperation, Unsupported, BadOffset}
use Rattle.dwarf_bytes.specs.declared.size.Size.{Size}
use Rattle.dwarf_bytes.specs.declared.size.Size.TheVariants.{Four, Eight}
use Rattle.dwarf_bytes.specs.Faults.{DebugReader}
use Rattle.dwarf_bytes.specs.Numbers.{size_in_bytes, fixed_number, unsigned_leb, terminated}
use Rattle.dwarf_line.specs.declared.moved.Moved.{Moved}
use Rattle.dwarf_info.specs.Taken.{table_from}
use Rattle.dwarf.specs.Replacing.{ReplacingReader, number_replaced, section_replaced}

-- ---- entries (sections 6.3.2 and 7.23), which lead to no code

-- two values, one after the other, of which neither is needed
abbrev pub both_passed : {A B : Type 0} → DebugReader A → DebugReader B → DebugReader (Unit {0})
both_passed one other bytes = one bytes >>= λ x. other x.1 >>= λ y. Ok (tt, y.1)

abbrev pub one_passed : {A : Type 0} → DebugReader A → DebugReader (Unit {0})
one_passed one bytes = one bytes >>= λ x. Ok (tt, x.1)

-- What the operands of an entry are, by its kind: a line and a string; a line and a number (of a file or of a string); a line and an
-- offset of a string; an offset of macros; or none.
abbrev pub macro_operands : (kind : ℕ) → Size → DebugReader (Unit {0})
macro_operands kind size bytes =
    if (kind == 0x01) || (kind == 0x02) then both_passed unsigned_leb terminated bytes  -- define, undef
    else if (kind == 0x03) || ((kind == 0x0b) || (kind == 0x0c)) then both_passed unsigned_leb unsigned_leb bytes  -- start_file, define_strx, undef_strx
    else if kind == 0x04 then Ok (tt, bytes)  -- end_file
    else if (kind == 0x05) || ((kind == 0x06) || ((kind == 0x08) || (kind == 0x09))) then both_passed unsigned_leb (fixed_number (size_in_bytes size)) bytes  -- define_strp, undef_strp, define_sup, undef_sup
    else if (kind == 0x07) || (kind == 0x0a) then one_passed (fixed_number (size_in_bytes size)) bytes  -- import, import_sup
    else Err UnknownOperation

-- whether there is an entry at the front, which is passed then: a zero in its place ends them
abbrev pub macro_entry : Size → DebugReader Bool
macro_entry size bytes =
    fixed_number 1 bytes >>= λ kind.
    if kind.0 == 0 then Ok (false, kind.1) else (macro_operands kind.0 size kind.1 >>= λ operands. Ok (true, operands.1))

-- Past the entries up to their end. Each takes at least one byte: at most this many are read.
unfoldable pub macros_passed : (most : ℕ) → Size → DebugReader (Unit {0})
macros_passed zero size bytes = Err Truncated
macros_passed (suc most) size bytes = macro_entry size bytes >>= λ more. if more.0 then macros_passed most size more.1 else Ok (tt, more.1)

abbrev pub macro_entries : Size → DebugReader (Unit {0})
macro_entries size bytes = macros_passed (length bytes) size bytes

-- ---- a unit of macros (section 6.3.1)

-- The flags: 1, that offsets have eight bytes; 2, that an offset of a line table follows; and 4, that a table of operands does, which isn't
-- read.
pub record MacroFlags : Type 0 where
  pub size : Size
  pub has_table : Bool

abbrev pub macro_flags : (flags : ℕ) → Result MacroFlags DebugFault
macro_flags flags =
    if nat_le flags 3
    then Ok (record { size = if (flags == 1) || (flags == 3) then Eight else Four; has_table = (flags == 2) || (flags == 3) })
    else Err Unsupported

abbrev pub macro_header : DebugReader MacroFlags
macro_header bytes =
    fixed_number 2 bytes >>= λ version.
    unless ((version.0 == 4) || (version.0 == 5)) UnknownVersion >>= λ u.
    fixed_number 1 version.1 >>= λ flags.
    macro_flags flags.0 >>= λ f.
    Ok (f, flags.1)

-- where the line table at this offset goes
abbrev pub table_moved : List Moved → (offset : ℕ) → Result ℕ DebugFault
table_moved ts offset = some_or (option_map (λ (t : Moved). t.new) (table_from ts offset)) BadOffset

-- the offset of the line table, if there is one
abbrev pub line_table_followed : List Moved → MacroFlags → (end : ℕ) → ReplacingReader
line_table_followed ts f end bytes cs =
    if f.has_table then (fixed_number (size_in_bytes f.size) bytes >>= λ offset.
    table_moved ts offset.0 >>= λ new.
    number_replaced (end - length bytes) f.size offset.0 new cs >>= λ now.
    Ok (now, offset.1))
    else Ok (cs, bytes)

-- the next unit; `end`: the place after the bytes
abbrev pub macros_followed : List Moved → (end : ℕ) → ReplacingReader
macros_followed ts end bytes cs =
    macro_header bytes >>= λ f.
    line_table_followed ts f.0 end f.1 cs >>= λ now.
    macro_entries f.0.size now.1 >>= λ entries.
    Ok (now.0, entries.1)

-- What becomes of the section, where line tables go there.
abbrev pub macro_section_followed : List Moved → (section : List ℕ) → Result (List ℕ) DebugFault
macro_section_followed ts section = section_replaced (macros_followed ts (length section)) section
