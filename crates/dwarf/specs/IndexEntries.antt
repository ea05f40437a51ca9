-- Entries of the index of names (DWARF 5, sections 6.1.1.4.7 and 6.1.1.4.8), whose offsets follow.
use Rattle.std.specs.Prelude.{ℕ, zero, suc, ◌-◌, ◌^◌, Bool, false, not, ◌&&◌, ◌||◌, ◌==◌, nat_lt, nat_le, if◌then◌else◌, List, [], ◌∷◌, length, map, Option, Some, None, option_map, Result, Ok, Err}
use Rattle.std.specs.List.{find, filter_map, list_any}
use Rattle.wasm_numbers.specs.Results.{◌>>=◌, unless, some_or, with_fault}
use Rattle.dwarf_bytes.specs.declared.fault.DebugFault.{DebugFault}
use Rattle.dwarf_bytes.specs.declared.fault.DebugFault.TheVariants.{Truncated, BadNumber, BadOffset, Unsupported, Overlap, DoesNotFit}
use Rattle.dwarf_bytes.specs.declared.size.Size.{Size}
use Rattle.dwarf_bytes.specs.Changes.{SectionChange}
use Rattle.dwarf_bytes.specs.Faults.{DebugReader}
use Rattle.dwarf_bytes.specs.Numbers.{size_in_bytes, fixed_number, unsigned_leb, part_and_rest}
use Rattle.dwarf_bytes.specs.Patches.{part_of}
use Rattle.dwarf_bytes.specs.Writing.{fixed_bytes, padded}
use Rattle.dwarf_line.specs.Repeated.{all_values}
use Rattle.dwarf_info.specs.Following.{distance_followed}
use Rattle.dwarf_info.specs.UpToEnd.{up_to_end}
use Rattle.dwarf.specs.declared.index_abbreviations.IndexAttribute.{IndexAttribute}
use Rattle.dwarf.specs.declared.index_abbreviations.IndexForm.{IndexForm}
use Rattle.dwarf.specs.declared.index_abbreviations.IndexForm.TheVariants as forms
use Rattle.dwarf.specs.declared.index_abbreviations.IndexMeaning.{IndexMeaning}
use Rattle.dwarf.specs.declared.index_abbreviations.IndexMeaning.TheVariants as means
use Rattle.dwarf.specs.declared.name_index.PlacedNumber.{PlacedNumber}
use Rattle.dwarf.specs.declared.name_index.Target.{Target}
use Rattle.dwarf.specs.NameIndex.{PlacedBytes, SpelledIndex, numbers_part, spelled_index, index_meaning, index_form, index_value}
use Rattle.dwarf.specs.Replacing.{Replacing, ReplacingReader, part_replaced, each_replaced, section_replaced, unit_followed}
use Rattle.dwarf_bytes.specs.Sorting.{sorted_by}

-- ---- abbreviations (section 6.1.1.4.7)

-- an attribute; only one that says nothing of where an entry is may have a value without bytes
abbrev pub index_attribute : IndexMeaning → Option IndexForm → Result (Option IndexAttribute) DebugFault
index_attribute m (Some form) = Ok (Some (record { meaning = m; form = form }))
index_attribute means.Other None = Ok None
index_attribute _ None = Err Unsupported

-- the next specification of an attribute; None at the two zeros that end them
abbrev pub index_specification : DebugReader (Option (Option IndexAttribute))
index_specification bytes =
    unsigned_leb bytes >>= λ name.
    unsigned_leb name.1 >>= λ form.
    if (name.0 == 0) && (form.0 == 0) then Ok (None, form.1)
    else (index_meaning name.0 >>= λ m. index_form form.0 >>= λ f. index_attribute m f >>= λ a. Ok (Some a, form.1))

-- the attributes whose values take bytes
abbrev pub kept_attributes : List (Option IndexAttribute) → List IndexAttribute
kept_attributes = filter_map (λ one. one)

abbrev pub index_attributes : DebugReader (List IndexAttribute)
index_attributes bytes = up_to_end (λ before. index_specification) None bytes >>= λ each. Ok (kept_attributes each.0, each.1)

pub record IndexDeclaration : Type 0 where
  pub code : ℕ
  pub attributes : List IndexAttribute

-- the next declaration: its code, a tag and its attributes; None at the zero that ends them
abbrev pub index_declaration : DebugReader (Option IndexDeclaration)
index_declaration bytes =
    unsigned_leb bytes >>= λ code.
    if code.0 == 0 then Ok (None, code.1)
    else (unsigned_leb code.1 >>= λ tag. index_attributes tag.1 >>= λ attributes. Ok (Some (record { code = code.0; attributes = attributes.0 }), attributes.1))

-- the declarations up to that zero, or to the last byte; each takes at least one byte: at most this many are read
abbrev pub and_others : Option IndexDeclaration → (others : Result (List IndexDeclaration) DebugFault) → Result (List IndexDeclaration) DebugFault
and_others None others = Ok []
and_others (Some d) others = others >>= λ ds. Ok (d ∷ ds)

unfoldable pub declarations_at_most : (most : ℕ) → List ℕ → Result (List IndexDeclaration) DebugFault
declarations_at_most most [] = Ok []
declarations_at_most zero (b ∷ bytes) = Err Truncated
declarations_at_most (suc most) (b ∷ bytes) = index_declaration (b ∷ bytes) >>= λ d. and_others d.0 (declarations_at_most most d.1)

-- whether a number is there twice
abbrev pub repeats : List ℕ → Bool
repeats [] = false
repeats (n ∷ ns) = list_any (λ m. m == n) ns || repeats ns

abbrev pub codes_of : List IndexDeclaration → List ℕ
codes_of = map (λ d. d.code)

-- no two declarations have one code
abbrev pub index_declarations : List ℕ → Result (List IndexDeclaration) DebugFault
index_declarations bytes = declarations_at_most (length bytes) bytes >>= λ ds. unless (not (repeats (codes_of ds))) Unsupported >>= λ u. Ok ds

-- the attributes of an entry with this code
abbrev pub attributes_with : List IndexDeclaration → (code : ℕ) → Result (List IndexAttribute) DebugFault
attributes_with ds code = some_or (option_map (λ (d : IndexDeclaration). d.attributes) (find (λ (d : IndexDeclaration). d.code == code) ds)) BadNumber

-- ---- an entry (section 6.1.1.4.8)

-- What offsets follow: the index, the attributes of an entry with a code, and what is replaced in `.debug_info`.
pub record IndexFollowing : Type 0 where
  pub index : SpelledIndex
  pub attributes : (code : ℕ) → Result (List IndexAttribute) DebugFault
  pub info : List SectionChange

-- a value; `end`: the place after the bytes
abbrev pub placed_value : (end : ℕ) → IndexForm → DebugReader PlacedNumber
placed_value end form bytes =
    index_value form bytes >>= λ n.
    Ok (record { at = end - length bytes; width = (end - length n.1) - (end - length bytes); form = form; number = n.0 }, n.1)

-- What an entry says so far, with one more value. It has at most one offset.
abbrev pub with_offset : Target → Option PlacedNumber → PlacedNumber → Result Target DebugFault
with_offset t (Some other) n = Err Unsupported
with_offset t None n = Ok (record t { offset = Some n })

abbrev pub target_with : Target → IndexMeaning → PlacedNumber → Result Target DebugFault
target_with t means.CompileUnit n = Ok (record t { compile_unit = Some n.number })
target_with t means.TypeUnit n = Ok (record t { type_unit = Some n.number })
target_with t means.Entry n = with_offset t t.offset n
target_with t means.Other n = Ok t

abbrev pub target_from : (end : ℕ) → List IndexAttribute → Target → DebugReader Target
target_from end [] t bytes = Ok (t, bytes)
target_from end (a ∷ others) t bytes = placed_value end a.form bytes >>= λ n. target_with t a.meaning n.0 >>= λ u. target_from end others u n.1

abbrev pub no_target : Target
no_target = record { compile_unit = None; type_unit = None; offset = None }

-- the number at this index of a list
abbrev pub number_of_list : List ℕ → (index : ℕ) → Size → Result ℕ DebugFault
number_of_list numbers index size =
    with_fault (λ fault. BadOffset) (numbers_part index size numbers >>= λ before. fixed_number (size_in_bytes size) before.1 >>= λ n. Ok n.0)

-- The offset of the unit that an entry is in, which is a type unit if the entry names one; None if that is in another file. An entry names no
-- compile unit if there is only one.
abbrev pub compile_unit_of : SpelledIndex → (index : Option ℕ) → Result (Option ℕ) DebugFault
compile_unit_of i (Some index) = number_of_list i.compile_units.bytes index i.size >>= λ unit. Ok (Some unit)
compile_unit_of i None =
    if length i.compile_units.bytes == size_in_bytes i.size then (number_of_list i.compile_units.bytes 0 i.size >>= λ unit. Ok (Some unit)) else Err Unsupported

abbrev pub unit_with : SpelledIndex → (type_unit compile_unit : Option ℕ) → Result (Option ℕ) DebugFault
unit_with i None compile_unit = compile_unit_of i compile_unit
unit_with i (Some index) compile_unit =
    if nat_lt index i.type_unit_count then (number_of_list i.type_units.bytes index i.size >>= λ unit. Ok (Some unit))
    else if nat_lt (index - i.type_unit_count) i.foreign then Ok None
    else Err BadOffset

-- A number in as many bytes as it has: none other fits there.
abbrev pub offset_written : IndexForm → (width number : ℕ) → Result (List ℕ) DebugFault
offset_written (forms.Sized size) width n = if nat_lt n (256 ^ size_in_bytes size) then Ok (fixed_bytes (size_in_bytes size) n) else Err DoesNotFit
offset_written forms.Unsigned width n = Ok (padded width n)

-- the offset of an entry, counted from its unit, follows
abbrev pub offset_in_unit_followed : (info : List SectionChange) → (unit : ℕ) → PlacedNumber → List SectionChange → Replacing
offset_in_unit_followed info unit n cs =
    distance_followed info unit n.number >>= λ new.
    if new == n.number then Ok cs
    else (offset_written n.form n.width new >>= λ bytes. unless (length bytes == n.width) DoesNotFit >>= λ u. part_replaced (part_of n.at n.width bytes) cs)

abbrev pub target_followed : (info : List SectionChange) → Option PlacedNumber → (unit : Option ℕ) → List SectionChange → Replacing
target_followed info (Some n) (Some unit) cs = offset_in_unit_followed info unit n cs
target_followed info _ _ cs = Ok cs

-- an entry with these attributes
abbrev pub entry_followed : IndexFollowing → List IndexAttribute → ReplacingReader
entry_followed f attributes bytes cs =
    target_from f.index.pool.end attributes no_target bytes >>= λ t.
    unit_with f.index t.0.type_unit t.0.compile_unit >>= λ unit.
    target_followed f.info t.0.offset unit cs >>= λ now.
    Ok (now, t.1)

-- ---- the entries of a name, up to a zero in place of a code

unfoldable pub entries_at_most : (most : ℕ) → IndexFollowing → ReplacingReader
entries_at_most zero f bytes cs = Err Truncated
entries_at_most (suc most) f bytes cs =
    unsigned_leb bytes >>= λ code.
    if code.0 == 0 then Ok (cs, code.1)
    else (f.attributes code.0 >>= λ attributes. entry_followed f attributes code.1 cs >>= λ x. entries_at_most most f x.1 x.0)

-- those that begin at this offset of the pool, and the offset at which they end
abbrev pub from_offset : SpelledIndex → (offset : ℕ) → Result (List ℕ) DebugFault
from_offset i offset = with_fault (λ fault. BadOffset) (part_and_rest offset i.pool.bytes >>= λ before. Ok before.1)

abbrev pub name_entries_followed : IndexFollowing → (offset : ℕ) → List SectionChange → Result (List SectionChange × ℕ) DebugFault
name_entries_followed f offset cs =
    from_offset f.index offset >>= λ bytes.
    entries_at_most (length bytes) f bytes cs >>= λ x.
    Ok (x.0, length f.index.pool.bytes - length x.1)

-- ---- the entries of all names

-- whether this is the number before it, if there is one
abbrev pub repeats_number : Option ℕ → ℕ → Bool
repeats_number None n = false
repeats_number (Some m) n = m == n

-- each of the numbers once, which ascend
abbrev pub once : (before : Option ℕ) → List ℕ → List ℕ
once before [] = []
once before (n ∷ ns) = if repeats_number before n then once (Some n) ns else n ∷ once (Some n) ns

-- The entries of names begin at these offsets: each list once, and none before the end of the one before it.
abbrev pub all_names_followed : IndexFollowing → (end : ℕ) → List ℕ → List SectionChange → Replacing
all_names_followed f end [] cs = Ok cs
all_names_followed f end (offset ∷ offsets) cs =
    unless (nat_le end offset) Overlap >>= λ u.
    name_entries_followed f offset cs >>= λ x.
    all_names_followed f x.1 offsets x.0

-- by ascending offsets
abbrev pub places_of_names : List ℕ → List ℕ
places_of_names offsets = once None (sorted_by (λ n. n) offsets)

-- ---- the index

-- an offset of a unit follows
abbrev pub unit_offset_followed : (info : List SectionChange) → Size → (end : ℕ) → ReplacingReader
unit_offset_followed info size end bytes cs = unit_followed info size end bytes cs >>= λ x. Ok (x.0.1, x.1)

abbrev pub unit_offsets_followed : (info : List SectionChange) → Size → PlacedBytes → List SectionChange → Replacing
unit_offsets_followed info size list cs = each_replaced (unit_offset_followed info size list.end) list.bytes cs

abbrev pub spelled_index_followed : (info : List SectionChange) → SpelledIndex → List SectionChange → Replacing
spelled_index_followed info i cs =
    index_declarations i.abbreviations >>= λ ds.
    all_values (fixed_number (size_in_bytes i.size)) i.names >>= λ offsets.
    unit_offsets_followed info i.size i.compile_units cs >>= λ compile_units.
    unit_offsets_followed info i.size i.type_units compile_units >>= λ type_units.
    all_names_followed (record { index = i; attributes = attributes_with ds; info = info }) 0 (places_of_names offsets) type_units

-- the next index; `end`: the place after the bytes
abbrev pub index_followed : (info : List SectionChange) → (end : ℕ) → ReplacingReader
index_followed info end bytes cs =
    spelled_index end bytes >>= λ i.
    spelled_index_followed info i.0 cs >>= λ now.
    Ok (now, i.1)

-- What becomes of the section, where these parts of `.debug_info` are replaced.
abbrev pub name_index_followed : (info : List SectionChange) → (section : List ℕ) → Result (List ℕ) DebugFault
name_index_followed info section = section_replaced (index_followed info (length section)) section
