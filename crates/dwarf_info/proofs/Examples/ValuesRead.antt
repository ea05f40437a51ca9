-- Values of attributes (DWARF 5, sections 7.5.5 and 7.5.6).
use Rattle.std.specs.Prelude.{◌≡◌, ℕ, [], ◌∷◌, true, false, Ok, Err, refl}
use Rattle.wasm_numbers.specs.Numbers.{integer}
use Rattle.wasm_numbers.specs.Reading.{many}
use Rattle.dwarf_bytes.specs.declared.fault.DebugFault.TheVariants.{Truncated, BadLength, UnknownForm}
use Rattle.dwarf_bytes.specs.declared.size.Size.{Size}
use Rattle.dwarf_bytes.specs.declared.size.Size.TheVariants.{One, Two, Three, Four, Eight}
use Rattle.dwarf_bytes.specs.declared.size.Format.{Format}
use Rattle.dwarf_bytes.specs.declared.size.Format.TheVariants.{Dwarf32, Dwarf64}
use Rattle.dwarf_expressions.specs.declared.encoding.Encoding.{Encoding}
use Rattle.dwarf_info.specs.declared.form.Form.{Form}
use Rattle.dwarf_info.specs.declared.form.FormClass.{FormClass}
use Rattle.dwarf_info.specs.declared.form.FormClass.TheVariants.{AddressIndex, Constant, Expression, SectionOffset, Other}
use Rattle.dwarf_info.specs.declared.form.Layout.{Layout}
use Rattle.dwarf_info.specs.declared.form.Layout.TheVariants.{Sized, Sixteen, AddressSize, OffsetSize, ReferenceSize, Unsigned, Signed, Terminated, Counted, CountedUnsigned, Indirect}
use Rattle.dwarf_info.specs.Forms.{form_with_code, form_of_value, value_parts, spelled_value, is_section_offset}

abbrev encoded : (version : ℕ) → Format → Size → Encoding
encoded version format size = record { version = version; format = format; address_size = size }

-- DWARF 4 and 5 with 32-bit offsets and addresses of four bytes, and with 64-bit offsets; DWARF 2 and 3 with addresses of eight bytes
abbrev four : Encoding
four = encoded 4 Dwarf32 Four

abbrev wide : Encoding
wide = encoded 5 Dwarf64 Four

abbrev two : Encoding
two = encoded 2 Dwarf32 Eight

abbrev three : Encoding
three = encoded 3 Dwarf32 Eight

abbrev form : FormClass → Layout → Form
form class layout = record { class = class; layout = layout }

-- ---- forms

addrx3 : form_with_code 0x2b ≡ Ok (form AddressIndex (Sized Three))
unfolding form_with_code
addrx3 = refl

sec_offset : form_with_code 0x17 ≡ Ok (form SectionOffset OffsetSize)
unfolding form_with_code
sec_offset = refl

no_zero : form_with_code 0 ≡ Err UnknownForm
unfolding form_with_code
no_zero = refl

flag_present_takes_no_bytes : form_with_code 0x19 ≡ Err UnknownForm
unfolding form_with_code
flag_present_takes_no_bytes = refl

-- DW_FORM_indirect: exprloc is in front of the value; not indirect again
indirect : form_of_value (form Other Indirect) (0x18 ∷ 1 ∷ 0x9c ∷ []) ≡ Ok (form Expression CountedUnsigned, 1 ∷ 0x9c ∷ [])
unfolding form_of_value form_with_code integer
indirect = refl

twice_indirect : form_of_value (form Other Indirect) (0x16 ∷ 0x0b ∷ 1 ∷ []) ≡ Err UnknownForm
unfolding form_of_value form_with_code integer
twice_indirect = refl

-- ---- values

address : value_parts four AddressSize (1 ∷ 2 ∷ 0 ∷ 0 ∷ 7 ∷ []) ≡ Ok ((513, []), 7 ∷ [])
unfolding value_parts many
address = refl

offset_of_four : value_parts four OffsetSize (1 ∷ 0 ∷ 0 ∷ 0 ∷ 7 ∷ 0 ∷ 0 ∷ 0 ∷ []) ≡ Ok ((1, []), 7 ∷ 0 ∷ 0 ∷ 0 ∷ [])
unfolding value_parts many
offset_of_four = refl

offset_of_eight : value_parts wide OffsetSize (1 ∷ 0 ∷ 0 ∷ 0 ∷ 7 ∷ 0 ∷ 0 ∷ 0 ∷ []) ≡ Ok ((0x7_0000_0001, []), [])
unfolding value_parts many
offset_of_eight = refl

-- DW_FORM_ref_addr has the size of an address in DWARF 2, and that of an offset later
reference_of_two : value_parts two ReferenceSize (1 ∷ 0 ∷ 0 ∷ 0 ∷ 0 ∷ 0 ∷ 0 ∷ 0 ∷ []) ≡ Ok ((1, []), [])
unfolding value_parts many
reference_of_two = refl

reference_of_three : value_parts three ReferenceSize (1 ∷ 0 ∷ 0 ∷ 0 ∷ 0 ∷ 0 ∷ 0 ∷ 0 ∷ []) ≡ Ok ((1, []), 0 ∷ 0 ∷ 0 ∷ 0 ∷ [])
unfolding value_parts many
reference_of_three = refl

-- udata, sdata
unsigned : value_parts four Unsigned (0xe5 ∷ 0x8e ∷ 0x26 ∷ 9 ∷ []) ≡ Ok ((624485, []), 9 ∷ [])
unfolding value_parts integer
unsigned = refl

signed : value_parts four Signed (0x80 ∷ 0x7f ∷ 9 ∷ []) ≡ Ok ((0, []), 9 ∷ [])
unfolding value_parts integer
signed = refl

-- strx3
three_bytes : value_parts four (Sized Three) (1 ∷ 2 ∷ 3 ∷ 4 ∷ []) ≡ Ok ((0x030201, []), 4 ∷ [])
unfolding value_parts many
three_bytes = refl

string : value_parts four Terminated (0x61 ∷ 0x62 ∷ 0 ∷ 0x63 ∷ []) ≡ Ok ((0, []), 0x63 ∷ [])
unfolding value_parts
string = refl

string_not_ended : value_parts four Terminated (0x61 ∷ 0x62 ∷ []) ≡ Err Truncated
unfolding value_parts
string_not_ended = refl

block_of_two : value_parts four (Counted Two) (2 ∷ 0 ∷ 0x30 ∷ 0x9f ∷ 5 ∷ []) ≡ Ok ((2, 0x30 ∷ 0x9f ∷ []), 5 ∷ [])
unfolding value_parts many
block_of_two = refl

block_too_long : value_parts four (Counted One) (2 ∷ 0x30 ∷ []) ≡ Err BadLength
unfolding value_parts many
block_too_long = refl

-- exprloc with its length in two bytes
expression : value_parts four CountedUnsigned (0x81 ∷ 0 ∷ 0x9c ∷ 5 ∷ []) ≡ Ok ((1, 0x9c ∷ []), 5 ∷ [])
unfolding value_parts integer
expression = refl

-- data16
sixteen_bytes : value_parts four Sixteen (1 ∷ 2 ∷ 3 ∷ 4 ∷ 5 ∷ 6 ∷ 7 ∷ 8 ∷ 9 ∷ 10 ∷ 11 ∷ 12 ∷ 13 ∷ 14 ∷ 15 ∷ 16 ∷ 17 ∷ []) ≡ Ok ((0, 1 ∷ 2 ∷ 3 ∷ 4 ∷ 5 ∷ 6 ∷ 7 ∷ 8 ∷ 9 ∷ 10 ∷ 11 ∷ 12 ∷ 13 ∷ 14 ∷ 15 ∷ 16 ∷ []), 17 ∷ [])
unfolding value_parts
sixteen_bytes = refl

too_short : value_parts four (Sized Four) (1 ∷ 2 ∷ 3 ∷ []) ≡ Err Truncated
unfolding value_parts many
too_short = refl

-- three bytes are left of a section of 100: the value is at 97
placed : spelled_value four (Sized Two) 100 (1 ∷ 2 ∷ 3 ∷ []) ≡ Ok (record { at = 97; size = 2; number = 513; block = [] }, 3 ∷ [])
unfolding value_parts many
placed = refl

-- ---- offsets into other sections

data4_of_three : is_section_offset 3 (form Constant (Sized Four)) ≡ true
data4_of_three = refl

data4_of_four : is_section_offset 4 (form Constant (Sized Four)) ≡ false
data4_of_four = refl

data2_of_three : is_section_offset 3 (form Constant (Sized Two)) ≡ false
data2_of_three = refl

sec_offset_of_five : is_section_offset 5 (form SectionOffset OffsetSize) ≡ true
sec_offset_of_five = refl
