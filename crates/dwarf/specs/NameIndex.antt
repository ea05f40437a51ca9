-- The index of names (DWARF 5, section 6.1.1): `.debug_names`. The offsets of units and of entries follow.
use Rattle.std.specs.Prelude.{ℕ, ◌-◌, ◌*◌, ◌%◌, ◌^◌, ◌||◌, ◌==◌, nat_lt, if◌then◌else◌, List, length, Option, Some, None, Result, Ok, Err}
use Rattle.wasm_numbers.specs.Results.{◌>>=◌, unless}
use Rattle.dwarf_bytes.specs.declared.fault.DebugFault.{DebugFault}
use Rattle.dwarf_bytes.specs.declared.fault.DebugFault.TheVariants.{BadLength, UnknownVersion, UnknownForm, Unsupported}
use Rattle.dwarf_bytes.specs.declared.size.Size.{Size}
use Rattle.dwarf_bytes.specs.declared.size.Size.TheVariants.{One, Two, Four, Eight}
use Rattle.dwarf_bytes.specs.Faults.{DebugReader}
use Rattle.dwarf_bytes.specs.Numbers.{size_in_bytes, offset_size, fixed_number, unsigned_leb, initial_length, part_and_rest}
use Rattle.dwarf.specs.declared.index_abbreviations.IndexForm.{IndexForm}
use Rattle.dwarf.specs.declared.index_abbreviations.IndexForm.TheVariants as forms
use Rattle.dwarf.specs.declared.index_abbreviations.IndexMeaning.{IndexMeaning}
use Rattle.dwarf.specs.declared.index_abbreviations.IndexMeaning.TheVariants as means

-- ---- the header (section 6.1.1.4.1), from its version on

pub record IndexCounts : Type 0 where
  pub compile_units : ℕ
  pub type_units : ℕ
  pub foreign : ℕ
  pub buckets : ℕ
  pub names : ℕ
  pub abbreviations : ℕ

-- the augmentation, which fills whole words of four bytes
abbrev pub augmentation_passed : DebugReader (Unit {0})
augmentation_passed bytes =
    fixed_number 4 bytes >>= λ size.
    part_and_rest size.0 size.1 >>= λ text.
    part_and_rest ((4 - size.0 % 4) % 4) text.1 >>= λ padding.
    Ok (tt, padding.1)

abbrev pub index_counts : DebugReader IndexCounts
index_counts bytes =
    fixed_number 2 bytes >>= λ version.
    unless (version.0 == 5) UnknownVersion >>= λ u.
    fixed_number 2 version.1 >>= λ padding.
    fixed_number 4 padding.1 >>= λ compile_units.
    fixed_number 4 compile_units.1 >>= λ type_units.
    fixed_number 4 type_units.1 >>= λ foreign.
    fixed_number 4 foreign.1 >>= λ buckets.
    fixed_number 4 buckets.1 >>= λ names.
    fixed_number 4 names.1 >>= λ abbreviations.
    augmentation_passed abbreviations.1 >>= λ augmentation.
    Ok (
      record {
        compile_units = compile_units.0;
        type_units = type_units.0;
        foreign = foreign.0;
        buckets = buckets.0;
        names = names.0;
        abbreviations = abbreviations.0;
      },
      augmentation.1,
    )

-- ---- the parts of an index (section 6.1.1.4)

-- bytes, and the place after them
pub record PlacedBytes : Type 0 where
  pub bytes : List ℕ
  pub end : ℕ

-- so many numbers of this size; sizes are numbers of 64 bits
abbrev pub numbers_part : (count : ℕ) → Size → DebugReader (List ℕ)
numbers_part count size bytes =
    if nat_lt (count * size_in_bytes size) (2 ^ 64) then part_and_rest (count * size_in_bytes size) bytes else Err BadLength

-- The parts that lead to entries: the offsets of compile units; those of type units, and how many there are; how many type units are in other
-- files, after these; where the entries of each name are in the pool; the abbreviations; and the pool.
pub record SpelledIndex : Type 0 where
  pub size : Size
  pub compile_units : PlacedBytes
  pub type_units : PlacedBytes
  pub type_unit_count : ℕ
  pub foreign : ℕ
  pub names : List ℕ
  pub abbreviations : List ℕ
  pub pool : PlacedBytes

-- the hash table: its buckets, and the hashes of names; there are no hashes without buckets
abbrev pub hashes_passed : IndexCounts → DebugReader (Unit {0})
hashes_passed c bytes =
    if nat_lt 0 c.buckets
    then (numbers_part c.buckets Four bytes >>= λ buckets. numbers_part c.names Four buckets.1 >>= λ hashes. Ok (tt, hashes.1))
    else Ok (tt, bytes)

-- what follows the header; `end`: the place after the bytes
abbrev pub index_parts : Size → (end : ℕ) → IndexCounts → List ℕ → Result SpelledIndex DebugFault
index_parts size end c bytes =
    numbers_part c.compile_units size bytes >>= λ compile_units.
    numbers_part c.type_units size compile_units.1 >>= λ type_units.
    numbers_part c.foreign Eight type_units.1 >>= λ signatures.
    hashes_passed c signatures.1 >>= λ hashes.
    numbers_part c.names size hashes.1 >>= λ strings.
    numbers_part c.names size strings.1 >>= λ names.
    part_and_rest c.abbreviations names.1 >>= λ abbreviations.
    Ok (record {
      size = size;
      compile_units = record { bytes = compile_units.0; end = end - length compile_units.1 };
      type_units = record { bytes = type_units.0; end = end - length type_units.1 };
      type_unit_count = c.type_units;
      foreign = c.foreign;
      names = names.0;
      abbreviations = abbreviations.0;
      pool = record { bytes = abbreviations.1; end = end };
    })

abbrev pub spelled_index : (end : ℕ) → DebugReader SpelledIndex
spelled_index end bytes =
    initial_length bytes >>= λ size.
    part_and_rest size.0.1 size.1 >>= λ part.
    index_counts part.0 >>= λ counts.
    index_parts (offset_size size.0.0) (end - length part.1) counts.0 counts.1 >>= λ index.
    Ok (index, part.1)

-- ---- abbreviations (section 6.1.1.4.7, table 6.1, and section 7.5.6)

-- DW_IDX_compile_unit, DW_IDX_type_unit, DW_IDX_die_offset; DW_IDX_parent, DW_IDX_type_hash, and two of GNU
abbrev pub index_meaning : (name : ℕ) → Result IndexMeaning DebugFault
index_meaning name =
    if name == 1 then Ok means.CompileUnit
    else if name == 2 then Ok means.TypeUnit
    else if name == 3 then Ok means.Entry
    else if ((name == 4) || (name == 5)) || ((name == 0x2000) || (name == 0x2001)) then Ok means.Other
    else Err Unsupported

-- a constant, a flag or a reference; None: a flag that takes no bytes
abbrev pub index_form : (number : ℕ) → Result (Option IndexForm) DebugFault
index_form n =
    if (n == 0x0b) || ((n == 0x0c) || (n == 0x11)) then Ok (Some (forms.Sized One))
    else if (n == 0x05) || (n == 0x12) then Ok (Some (forms.Sized Two))
    else if (n == 0x06) || (n == 0x13) then Ok (Some (forms.Sized Four))
    else if (n == 0x07) || (n == 0x14) then Ok (Some (forms.Sized Eight))
    else if (n == 0x0f) || (n == 0x15) then Ok (Some forms.Unsigned)
    else if n == 0x19 then Ok None
    else Err UnknownForm

abbrev pub index_value : IndexForm → DebugReader ℕ
index_value (forms.Sized size) = fixed_number (size_in_bytes size)
index_value forms.Unsigned = unsigned_leb
