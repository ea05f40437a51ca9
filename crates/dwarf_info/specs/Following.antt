-- Offsets in units that follow what they lead to, where parts of sections become longer or shorter (DWARF 5, sections 7.5.1, 7.5.5 and 7.26).
use Rattle.std.specs.Prelude.{ℕ, zero, suc, ◌+◌, ◌-◌, ◌^◌, Bool, true, ◌&&◌, ◌==◌, nat_lt, nat_le, min, if◌then◌else◌, List, [], ◌∷◌, ◌++◌, length, Option, Some, None, option_map, Result, Ok, Err}
use Rattle.wasm_numbers.specs.Results.{◌>>=◌}
use Rattle.dwarf_bytes.specs.declared.fault.DebugFault.{DebugFault}
use Rattle.dwarf_bytes.specs.declared.fault.DebugFault.TheVariants.{Truncated, BadOffset, DoesNotFit}
use Rattle.dwarf_bytes.specs.declared.size.Format.{Format}
use Rattle.dwarf_bytes.specs.declared.size.Format.TheVariants.{Dwarf32, Dwarf64}
use Rattle.dwarf_bytes.specs.declared.size.Size.{Size}
use Rattle.dwarf_bytes.specs.Changes.{SectionChange, moved_offset}
use Rattle.dwarf_bytes.specs.Merging.{MergeSteps}
use Rattle.dwarf_bytes.specs.Numbers.{size_in_bytes, offset_size}
use Rattle.dwarf_bytes.specs.Patches.{part_of}
use Rattle.dwarf_bytes.specs.Writing.{fixed_bytes}
use Rattle.dwarf_expressions.specs.declared.encoding.Encoding.{Encoding}
use Rattle.dwarf_info.specs.declared.attribute.Meaning.{Meaning}
use Rattle.dwarf_info.specs.declared.attribute.Meaning.TheVariants as means
use Rattle.dwarf_info.specs.declared.form.FormClass.{FormClass}
use Rattle.dwarf_info.specs.declared.form.FormClass.TheVariants as forms
use Rattle.dwarf_info.specs.declared.form.Layout.{Layout}
use Rattle.dwarf_info.specs.declared.unit.UnitSection.{UnitSection}
use Rattle.dwarf_info.specs.Abbreviations.{AbbreviationsAt}
use Rattle.dwarf_info.specs.Entries.{SpelledAttribute, SpelledEntry, next_entry}
use Rattle.dwarf_info.specs.Forms.{SpelledValue, is_section_offset, number_size, number_written}
use Rattle.dwarf_info.specs.Units.{SpelledUnit, spelled_unit}

-- ---- offsets

-- Places and offsets are numbers of 64 bits: all greater ones are taken for the greatest one.
abbrev pub in_64_bits : ℕ → ℕ
in_64_bits n = min n (2 ^ 64 - 1)

-- where an offset goes into a section in which these parts are replaced
abbrev pub offset_followed : List SectionChange → (offset : ℕ) → ℕ
offset_followed cs o = in_64_bits (moved_offset cs o)

abbrev pub distance_between : (from to : ℕ) → Result ℕ DebugFault
distance_between from to = if nat_le from to then Ok (to - from) else Err BadOffset

-- what an offset becomes that is counted from a place: it is counted from where that place goes
abbrev pub distance_followed : List SectionChange → (start distance : ℕ) → Result ℕ DebugFault
distance_followed cs start distance =
    if nat_lt (distance + start) (2 ^ 64) then distance_between (offset_followed cs start) (offset_followed cs (distance + start)) else Err BadOffset

-- what is replaced in the sections that offsets lead into
pub record SectionShifts : Type 0 where
  pub info : List SectionChange
  pub ranges : List SectionChange
  pub locations : List SectionChange
  pub range_lists : List SectionChange
  pub location_lists : List SectionChange
  pub addresses : List SectionChange

-- the same of the section that an attribute's offset leads into in a unit of this version; None if that section stays
abbrev pub shifts_of : SectionShifts → Meaning → (version : ℕ) → Option (List SectionChange)
shifts_of s means.Ranges version = Some (if nat_lt version 5 then s.ranges else s.range_lists)
shifts_of s means.Location version = Some (if nat_lt version 5 then s.locations else s.location_lists)
shifts_of s means.RangeListBase version = Some s.range_lists
shifts_of s means.LocationListBase version = Some s.location_lists
shifts_of s means.AddressBase version = Some s.addresses
shifts_of s _ version = None

-- ---- steps: parts in order, and faults among them; the first fault ends all

abbrev pub merges_with : {A : Type 0} → Result A DebugFault → (A → MergeSteps) → MergeSteps
merges_with (Ok x) f = f x
merges_with (Err fault) f = Err fault ∷ []

-- a number of this size, if it changes
abbrev pub sized_part : (at : ℕ) → Size → (number : ℕ) → Result SectionChange DebugFault
sized_part at size n =
    if nat_lt n (256 ^ size_in_bytes size) then Ok (part_of at (size_in_bytes size) (fixed_bytes (size_in_bytes size) n)) else Err DoesNotFit

abbrev pub sized_steps : (at : ℕ) → Size → (old new : ℕ) → MergeSteps
sized_steps at size old new = if new == old then [] else sized_part at size new ∷ []

-- the place of the length of a unit or a table that begins there, and the place after the length, from which it counts
abbrev pub length_at : Format → (start : ℕ) → ℕ
length_at Dwarf32 start = start
length_at Dwarf64 start = in_64_bits (start + 4)

abbrev pub after_unit_length : Format → (start : ℕ) → ℕ
after_unit_length Dwarf32 start = in_64_bits (start + 4)
after_unit_length Dwarf64 start = in_64_bits (start + 12)

-- the length of a unit or a table between two places of its section
abbrev pub length_steps : (own : List SectionChange) → Format → (start end : ℕ) → MergeSteps
length_steps own format start end =
    sized_steps (length_at format start) (offset_size format) (end - after_unit_length format start)
    (offset_followed own end - offset_followed own (after_unit_length format start))

-- ---- the steps of a unit

-- what is replaced in the sections that offsets lead into, and in the section of the unit; and the unit
pub record FollowSetting : Type 0 where
  pub shifts : SectionShifts
  pub own : List SectionChange
  pub unit : SpelledUnit

abbrev pub type_steps : FollowSetting → Option (ℕ × ℕ) → MergeSteps
type_steps s None = []
type_steps s (Some (at, offset)) = merges_with (distance_followed s.own s.unit.start offset) (sized_steps at (offset_size s.unit.encoding.format) offset)

abbrev pub shifted_offset : Option (List SectionChange) → (offset : ℕ) → Option ℕ
shifted_offset shifts offset = option_map (λ cs. offset_followed cs offset) shifts

-- What a value becomes, if it is an offset that follows: of an entry in the unit, of one in `.debug_info`, or into another section.
abbrev pub value_followed : FollowSetting → SpelledAttribute → FormClass → Result (Option ℕ) DebugFault
value_followed s a forms.Reference = distance_followed s.own s.unit.start a.value.number >>= λ n. Ok (Some n)
value_followed s a forms.SectionReference = Ok (Some (offset_followed s.shifts.info a.value.number))
value_followed s a _ =
    Ok (if is_section_offset s.unit.encoding.version a.form then shifted_offset (shifts_of s.shifts a.meaning s.unit.encoding.version) a.value.number else None)

-- whether a number is that small
abbrev pub fits_size : Option Size → (number : ℕ) → Bool
fits_size None n = true
fits_size (Some size) n = nat_lt n (256 ^ size_in_bytes size)

-- the number in the bytes that the value has
abbrev pub number_part : Encoding → Layout → SpelledValue → (number : ℕ) → Result SectionChange DebugFault
number_part e layout v n =
    if fits_size (number_size e layout) n && (length (number_written (number_size e layout) v.size n) == v.size)
    then Ok (part_of v.at v.size (number_written (number_size e layout) v.size n)) else Err DoesNotFit

abbrev pub number_steps : Encoding → Layout → SpelledValue → (new : Option ℕ) → MergeSteps
number_steps e layout v None = []
number_steps e layout v (Some n) = if n == v.number then [] else number_part e layout v n ∷ []

abbrev pub follow_attribute : FollowSetting → SpelledAttribute → MergeSteps
follow_attribute s a = merges_with (value_followed s a a.form.class) (number_steps s.unit.encoding a.form.layout a.value)

abbrev pub follow_attributes : FollowSetting → List SpelledAttribute → MergeSteps
follow_attributes s [] = []
follow_attributes s (a ∷ others) = follow_attribute s a ++ follow_attributes s others

abbrev pub follow_entry : FollowSetting → Option SpelledEntry → MergeSteps
follow_entry s None = []
follow_entry s (Some entry) = follow_attributes s entry.attributes

-- The entries that these bytes spell. Each takes at least one byte: at most this many are read.
unfoldable pub follow_entries : FollowSetting → (most : ℕ) → List ℕ → MergeSteps
follow_entries s most [] = []
follow_entries s zero (b ∷ bytes) = Err Truncated ∷ []
follow_entries s (suc most) (b ∷ bytes) =
    merges_with (next_entry s.unit (b ∷ bytes)) (λ x. follow_entry s x.0 ++ follow_entries s most x.1)

-- its length, the offset of its type if it is a type unit, and its entries
abbrev pub follow_unit : FollowSetting → MergeSteps
follow_unit s =
    length_steps s.own s.unit.encoding.format s.unit.start s.unit.end
    ++ (type_steps s s.unit.type_offset ++ follow_entries s (length s.unit.entries) s.unit.entries)

-- ---- the steps of units

-- of a section: which one it is, its tables of abbreviations, its length, and what is replaced in the sections and in this one
pub record UnitsFollowing : Type 0 where
  pub kind : UnitSection
  pub tables : List AbbreviationsAt
  pub end : ℕ
  pub shifts : SectionShifts
  pub own : List SectionChange

unfoldable pub follow_each_unit : UnitsFollowing → (most : ℕ) → List ℕ → MergeSteps
follow_each_unit s most [] = []
follow_each_unit s zero (b ∷ bytes) = Err Truncated ∷ []
follow_each_unit s (suc most) (b ∷ bytes) =
    merges_with (spelled_unit s.kind s.tables s.end (b ∷ bytes)) (λ u.
    follow_unit (record { shifts = s.shifts; own = s.own; unit = u.0 }) ++ follow_each_unit s most u.1)

abbrev pub follow_section : UnitSection → List AbbreviationsAt → SectionShifts → (own : List SectionChange) → (section : List ℕ) → MergeSteps
follow_section kind tables shifts own section =
    follow_each_unit (record { kind = kind; tables = tables; end = length section; shifts = shifts; own = own }) (length section) section
