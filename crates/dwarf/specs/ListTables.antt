-- Tables of lists (DWARF 5, sections 7.28 and 7.29), in whose lists parts are replaced: their lengths and the offsets of their lists follow.
use Rattle.std.specs.Prelude.{ℕ, zero, suc, ◌-◌, List, [], ◌∷◌, ◌++◌, length, Ok, Err}
use Rattle.wasm_numbers.specs.Results.{◌>>=◌}
use Rattle.dwarf_bytes.specs.declared.fault.DebugFault.TheVariants.{Truncated}
use Rattle.dwarf_bytes.specs.declared.size.Format.{Format}
use Rattle.dwarf_bytes.specs.declared.size.Size.{Size}
use Rattle.dwarf_bytes.specs.Changes.{SectionChange}
use Rattle.dwarf_bytes.specs.Faults.{DebugReader}
use Rattle.dwarf_bytes.specs.Merging.{MergeSteps}
use Rattle.dwarf_bytes.specs.Numbers.{size_in_bytes, offset_size, fixed_number, initial_length, part_and_rest}
use Rattle.dwarf_info.specs.Following.{distance_followed, merges_with, sized_steps, length_steps}

-- a table: the format that its length shows, the place of its first byte, what follows its length, and the place after that
pub record SpelledListTable : Type 0 where
  pub format : Format
  pub start : ℕ
  pub contents : List ℕ
  pub end : ℕ

-- the next table; `end`: the place after the bytes
abbrev pub spelled_list_table : (end : ℕ) → DebugReader SpelledListTable
spelled_list_table end bytes =
    initial_length bytes >>= λ size.
    part_and_rest size.0.1 size.1 >>= λ part.
    Ok (record { format = size.0.0; start = end - length bytes; contents = part.0; end = end - length part.1 }, part.1)

-- where the offsets are counted from, which is the place of the first, of which size they are, and the place after them
pub record OffsetsOfTable : Type 0 where
  pub own : List SectionChange
  pub base : ℕ
  pub size : Size
  pub end : ℕ

-- an offset of a list
abbrev pub list_offset_steps : OffsetsOfTable → (at offset : ℕ) → MergeSteps
list_offset_steps t at offset = merges_with (distance_followed t.own t.base offset) (sized_steps at t.size offset)

-- the next ones, of this number
unfoldable pub list_offsets_steps : OffsetsOfTable → (count : ℕ) → List ℕ → MergeSteps
list_offsets_steps t zero bytes = []
list_offsets_steps t (suc count) bytes =
    merges_with (fixed_number (size_in_bytes t.size) bytes) (λ offset.
    list_offset_steps t (t.end - length bytes) offset.0 ++ list_offsets_steps t count offset.1)

abbrev pub offsets_of_table : (own : List SectionChange) → SpelledListTable → (bytes : List ℕ) → OffsetsOfTable
offsets_of_table own t bytes = record { own = own; base = t.end - length bytes; size = offset_size t.format; end = t.end }

-- The version, the sizes of an address and of a segment selector, which aren't looked at; how many offsets there are; and the offsets.
abbrev pub table_offsets_steps : (own : List SectionChange) → SpelledListTable → MergeSteps
table_offsets_steps own t =
    merges_with (fixed_number 4 t.contents) (λ sizes.
    merges_with (fixed_number 4 sizes.1) (λ count.
    list_offsets_steps (offsets_of_table own t count.1) count.0 count.1))

-- its length, and its offsets
abbrev pub list_table_steps : (own : List SectionChange) → SpelledListTable → MergeSteps
list_table_steps own t = length_steps own t.format t.start t.end ++ table_offsets_steps own t

-- The tables, one after the other. Each takes at least one byte: at most this many are read. `end`: the place after the bytes.
unfoldable pub list_tables_steps : (own : List SectionChange) → (end most : ℕ) → List ℕ → MergeSteps
list_tables_steps own end most [] = []
list_tables_steps own end zero (b ∷ bytes) = Err Truncated ∷ []
list_tables_steps own end (suc most) (b ∷ bytes) =
    merges_with (spelled_list_table end (b ∷ bytes)) (λ t. list_table_steps own t.0 ++ list_tables_steps own end most t.1)

abbrev pub list_section_steps : (own : List SectionChange) → (section : List ℕ) → MergeSteps
list_section_steps own section = list_tables_steps own (length section) (length section) section
