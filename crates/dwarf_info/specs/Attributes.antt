-- What the value of an attribute means for whoever moves code (DWARF 5, sections 2.2 and 7.5.4).
use Rattle.std.specs.Prelude.{ℕ, ◌&&◌, nat_le, nat_lt, if◌then◌else◌, Bool, true, false, List, [], ◌∷◌}
use Rattle.dwarf_info.specs.declared.attribute.Meaning.{Meaning}
use Rattle.dwarf_info.specs.declared.attribute.Meaning.TheVariants.{LowPc, HighPc, EntryPc, CallReturnPc, CallPc, Ranges, LineTable, Location, Computed, AddressBase, RangeListBase, LocationListBase, Unmoved, Split, Other}

-- attributes with these codes, from the first to the last, mean this
pub record MeaningRow : Type 0 where
  pub first : ℕ
  pub last : ℕ
  pub meaning : Meaning

abbrev mean : (first last : ℕ) → Meaning → MeaningRow
mean first last meaning = record { first = first; last = last; meaning = meaning }

abbrev pub first_meanings : List MeaningRow
first_meanings =
    mean 0x02 0x02 Location  -- location
    ∷ mean 0x0b 0x0d Computed  -- byte_size, bit_offset, bit_size
    ∷ mean 0x10 0x10 LineTable  -- stmt_list
    ∷ mean 0x11 0x11 LowPc  -- low_pc
    ∷ mean 0x12 0x12 HighPc  -- high_pc
    ∷ mean 0x19 0x19 Location  -- string_length
    ∷ mean 0x22 0x22 Computed  -- lower_bound
    ∷ mean 0x2a 0x2a Location  -- return_addr
    ∷ mean 0x2c 0x2c Ranges  -- start_scope
    ∷ mean 0x2e 0x2f Computed  -- bit_stride, upper_bound
    ∷ mean 0x37 0x37 Computed  -- count
    ∷ mean 0x38 0x38 Location  -- data_member_location
    ∷ []

abbrev pub second_meanings : List MeaningRow
second_meanings =
    mean 0x40 0x40 Location  -- frame_base
    ∷ mean 0x43 0x43 Unmoved  -- macro_info
    ∷ mean 0x46 0x46 Location  -- segment
    ∷ mean 0x48 0x48 Location  -- static_link
    ∷ mean 0x4a 0x4a Location  -- use_location
    ∷ mean 0x4d 0x4d Location  -- vtable_elem_location
    ∷ mean 0x4e 0x51 Computed  -- allocated, associated, data_location, byte_stride
    ∷ mean 0x52 0x52 EntryPc  -- entry_pc
    ∷ mean 0x55 0x55 Ranges  -- ranges
    ∷ mean 0x71 0x71 Computed  -- rank
    ∷ mean 0x72 0x72 Unmoved  -- str_offsets_base
    ∷ mean 0x73 0x73 AddressBase  -- addr_base
    ∷ mean 0x74 0x74 RangeListBase  -- rnglists_base
    ∷ mean 0x76 0x76 Split  -- dwo_name
    ∷ mean 0x79 0x79 Unmoved  -- macros
    ∷ mean 0x7d 0x7d CallReturnPc  -- call_return_pc
    ∷ mean 0x7e 0x7e Computed  -- call_value
    ∷ []

-- those of GNU, whose codes begin with 0x21, are in the range that the standard leaves to vendors
abbrev pub third_meanings : List MeaningRow
third_meanings =
    mean 0x81 0x81 CallPc  -- call_pc
    ∷ mean 0x83 0x86 Computed  -- call_target, call_target_clobbered, call_data_location, call_data_value
    ∷ mean 0x8c 0x8c LocationListBase  -- loclists_base
    ∷ mean 0x2111 0x2114 Computed  -- GNU_call_site_value, GNU_call_site_data_value, GNU_call_site_target, GNU_call_site_target_clobbered
    ∷ mean 0x2119 0x2119 Unmoved  -- GNU_macros
    ∷ mean 0x2130 0x2133 Split  -- GNU_dwo_name, GNU_dwo_id, GNU_ranges_base, GNU_addr_base
    ∷ []

abbrev pub meaning_in : List MeaningRow → (name : ℕ) → Meaning
meaning_in [] name = Other
meaning_in (r ∷ rs) name = if nat_le r.first name && nat_le name r.last then r.meaning else meaning_in rs name

unfoldable pub meaning_of : (name : ℕ) → Meaning
meaning_of name = meaning_in (if nat_lt name 0x40 then first_meanings else if nat_lt name 0x80 then second_meanings else third_meanings) name

-- whether the value may be in the abbreviation: it doesn't say where code is
abbrev pub may_be_implicit : Meaning → Bool
may_be_implicit Other = true
may_be_implicit Location = true
may_be_implicit Computed = true
may_be_implicit Unmoved = true
may_be_implicit _ = false
