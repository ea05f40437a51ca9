-- The forms of attributes' values (DWARF 5, sections 7.5.5 and 7.5.6; DWARF 4, section 7.5.4).
use Rattle.std.specs.Prelude.{ℕ, ⊤, ◌-◌, ◌^◌, ◌<◌, ◌&&◌, nat_le, if◌then◌else◌, Bool, true, false, List, [], ◌∷◌, length, Option, Some, None, Ok, Err, Result}
use Rattle.wasm_numbers.specs.Results.{◌>>=◌, some_or}
use Rattle.dwarf_bytes.specs.declared.fault.DebugFault.{DebugFault}
use Rattle.dwarf_bytes.specs.declared.fault.DebugFault.TheVariants.{UnknownForm}
use Rattle.dwarf_bytes.specs.declared.size.Size.{Size}
use Rattle.dwarf_bytes.specs.declared.size.Size.TheVariants.{One, Two, Three, Four, Eight}
use Rattle.dwarf_bytes.specs.Faults.{DebugReader}
use Rattle.dwarf_bytes.specs.Numbers.{size_in_bytes, fixed_number, unsigned_leb, signed_leb, offset_size, offset, part_and_rest, terminated}
use Rattle.dwarf_bytes.specs.Writing.{fixed_bytes, padded}
use Rattle.dwarf_expressions.specs.declared.encoding.Encoding.{Encoding}
use Rattle.dwarf_expressions.specs.Operands.{reference_size}
use Rattle.dwarf_info.specs.declared.form.Form.{Form}
use Rattle.dwarf_info.specs.declared.form.FormClass.{FormClass}
use Rattle.dwarf_info.specs.declared.form.FormClass.TheVariants.{Address, AddressIndex, Constant, Block, Expression, Reference, SectionReference, SectionOffset, ListIndex, Other}
use Rattle.dwarf_info.specs.declared.form.Layout.{Layout}
use Rattle.dwarf_info.specs.declared.form.Layout.TheVariants.{Sized, Sixteen, AddressSize, OffsetSize, ReferenceSize, Unsigned, Signed, Terminated, Counted, CountedUnsigned, Indirect}

-- ---- the forms whose values take bytes

-- forms with these codes, from the first to the last, have these values
pub record FormRow : Type 0 where
  pub first : ℕ
  pub last : ℕ
  pub form : Form

abbrev form : (first last : ℕ) → FormClass → Layout → FormRow
form first last class layout = record { first = first; last = last; form = record { class = class; layout = layout } }

-- those that DWARF 2 has
abbrev pub first_forms : List FormRow
first_forms =
    form 0x01 0x01 Address AddressSize  -- addr
    ∷ form 0x03 0x03 Block (Counted Two)  -- block2
    ∷ form 0x04 0x04 Block (Counted Four)  -- block4
    ∷ form 0x05 0x05 Constant (Sized Two)  -- data2
    ∷ form 0x06 0x06 Constant (Sized Four)  -- data4
    ∷ form 0x07 0x07 Constant (Sized Eight)  -- data8
    ∷ form 0x08 0x08 Other Terminated  -- string
    ∷ form 0x09 0x09 Block CountedUnsigned  -- block
    ∷ form 0x0a 0x0a Block (Counted One)  -- block1
    ∷ form 0x0b 0x0b Constant (Sized One)  -- data1
    ∷ form 0x0c 0x0c Other (Sized One)  -- flag
    ∷ form 0x0d 0x0d Constant Signed  -- sdata
    ∷ form 0x0e 0x0e Other OffsetSize  -- strp
    ∷ form 0x0f 0x0f Constant Unsigned  -- udata
    ∷ form 0x10 0x10 SectionReference ReferenceSize  -- ref_addr
    ∷ form 0x11 0x11 Reference (Sized One)  -- ref1
    ∷ form 0x12 0x12 Reference (Sized Two)  -- ref2
    ∷ form 0x13 0x13 Reference (Sized Four)  -- ref4
    ∷ form 0x14 0x14 Reference (Sized Eight)  -- ref8
    ∷ form 0x15 0x15 Reference Unsigned  -- ref_udata
    ∷ form 0x16 0x16 Other Indirect  -- indirect
    ∷ []

-- those that came with DWARF 4 and 5
abbrev pub later_forms : List FormRow
later_forms =
    form 0x17 0x17 SectionOffset OffsetSize  -- sec_offset
    ∷ form 0x18 0x18 Expression CountedUnsigned  -- exprloc
    ∷ form 0x1a 0x1a Other Unsigned  -- strx
    ∷ form 0x1b 0x1b AddressIndex Unsigned  -- addrx
    ∷ form 0x1c 0x1c Other (Sized Four)  -- ref_sup4
    ∷ form 0x1d 0x1d Other OffsetSize  -- strp_sup
    ∷ form 0x1e 0x1e Other Sixteen  -- data16
    ∷ form 0x1f 0x1f Other OffsetSize  -- line_strp
    ∷ form 0x20 0x20 Other (Sized Eight)  -- ref_sig8
    ∷ form 0x22 0x23 ListIndex Unsigned  -- loclistx, rnglistx
    ∷ form 0x24 0x24 Other (Sized Eight)  -- ref_sup8
    ∷ form 0x25 0x25 Other (Sized One)  -- strx1
    ∷ form 0x26 0x26 Other (Sized Two)  -- strx2
    ∷ form 0x27 0x27 Other (Sized Three)  -- strx3
    ∷ form 0x28 0x28 Other (Sized Four)  -- strx4
    ∷ form 0x29 0x29 AddressIndex (Sized One)  -- addrx1
    ∷ form 0x2a 0x2a AddressIndex (Sized Two)  -- addrx2
    ∷ form 0x2b 0x2b AddressIndex (Sized Three)  -- addrx3
    ∷ form 0x2c 0x2c AddressIndex (Sized Four)  -- addrx4
    ∷ []

abbrev pub form_in : List FormRow → (code : ℕ) → Option Form
form_in [] code = None
form_in (r ∷ rs) code = if nat_le r.first code && nat_le code r.last then Some r.form else form_in rs code

unfoldable pub form_with_code : (code : ℕ) → Result Form DebugFault
form_with_code code = some_or (form_in (if nat_le code 0x16 then first_forms else later_forms) code) UnknownForm

-- DW_FORM_flag_present: the value takes no bytes, and is that the flag is set
abbrev pub flag_present : ℕ
flag_present = 0x19

-- DW_FORM_implicit_const: the value takes no bytes in entries, since it is in the abbreviation
abbrev pub implicit_const : ℕ
implicit_const = 0x21

-- ---- values

abbrev pub is_indirect : Layout → Bool
is_indirect Indirect = true
is_indirect _ = false

-- DW_FORM_indirect: the code of the form is in front of the value. That form isn't DW_FORM_indirect again.
abbrev pub direct : Form → DebugReader Form
direct f bytes = if is_indirect f.layout then Err UnknownForm else Ok (f, bytes)

unfoldable pub form_of_value : Form → DebugReader Form
form_of_value f bytes =
    if is_indirect f.layout then (unsigned_leb bytes >>= λ code. form_with_code code.0 >>= λ g. direct g code.1) else Ok (f, bytes)

-- What a value has: its number, or how many bytes follow its number; and the bytes of a block or of an expression. The number of a
-- value of another kind isn't needed: it is 0.
abbrev pub ValueParts : Type 0
ValueParts = ℕ × List ℕ

abbrev pub number_alone : DebugReader ℕ → DebugReader ValueParts
number_alone number bytes = number bytes >>= λ n. Ok ((n.0, []), n.1)

abbrev pub block_counted : DebugReader ℕ → DebugReader ValueParts
block_counted number bytes = number bytes >>= λ n. part_and_rest n.0 n.1 >>= λ block. Ok ((n.0, block.0), block.1)

abbrev pub not_needed : {A : Type 0} → DebugReader A → DebugReader ValueParts
not_needed value bytes = value bytes >>= λ x. Ok ((0, []), x.1)

abbrev pub sixteen : DebugReader ValueParts
sixteen bytes = part_and_rest 16 bytes >>= λ block. Ok ((0, block.0), block.1)

unfoldable pub value_parts : Encoding → Layout → DebugReader ValueParts
value_parts e (Sized size) = number_alone (fixed_number (size_in_bytes size))
value_parts e Sixteen = sixteen
value_parts e AddressSize = number_alone (fixed_number (size_in_bytes e.address_size))
value_parts e OffsetSize = number_alone (offset e.format)
value_parts e ReferenceSize = number_alone (fixed_number (size_in_bytes (reference_size e)))
value_parts e Unsigned = number_alone unsigned_leb
value_parts e Signed = not_needed signed_leb
value_parts e Terminated = not_needed terminated
value_parts e (Counted size) = block_counted (fixed_number (size_in_bytes size))
value_parts e CountedUnsigned = block_counted unsigned_leb
value_parts e Indirect = λ bytes. Ok ((0, []), bytes)

-- A value in a section: the place of its first byte, how many bytes it takes, and its parts. `end`: the place after the bytes.
pub record SpelledValue : Type 0 where
  pub at : ℕ
  pub size : ℕ
  pub number : ℕ
  pub block : List ℕ

abbrev pub value_of_parts : (end : ℕ) → (bytes : List ℕ) → ValueParts × List ℕ → SpelledValue
value_of_parts end bytes x =
    record { at = end - length bytes; size = length bytes - length x.1; number = x.0.0; block = x.0.1 }

abbrev pub spelled_value : Encoding → Layout → (end : ℕ) → DebugReader SpelledValue
spelled_value e layout end bytes = value_parts e layout bytes >>= λ x. Ok (value_of_parts end bytes x, x.1)

-- ---- what a value may be

-- Four or eight bytes.
abbrev pub is_wide : Layout → Bool
is_wide (Sized Four) = true
is_wide (Sized Eight) = true
is_wide _ = false

-- An offset into another section, where an attribute may have one: up to DWARF 3 it is spelt as a constant of four or eight bytes (DWARF 3,
-- section 7.5.4: lineptr, loclistptr, macptr and rangelistptr).
abbrev pub is_offset_of_class : (version : ℕ) → FormClass → Layout → Bool
is_offset_of_class version SectionOffset layout = true
is_offset_of_class version Constant layout = nat_le version 3 && is_wide layout
is_offset_of_class version _ layout = false

abbrev pub is_section_offset : (version : ℕ) → Form → Bool
is_section_offset version f = is_offset_of_class version f.class f.layout

-- ---- writing

-- the size of the number that a value in this layout is, or begins with, if it isn't in LEB128
abbrev pub number_size : Encoding → Layout → Option Size
number_size e (Sized size) = Some size
number_size e (Counted size) = Some size
number_size e AddressSize = Some e.address_size
number_size e OffsetSize = Some (offset_size e.format)
number_size e ReferenceSize = Some (reference_size e)
number_size e _ = None

-- a number of this size; or in LEB128, in this many bytes, or in more if it needs them
abbrev pub number_written : Option Size → (width number : ℕ) → List ℕ
number_written (Some size) width n = fixed_bytes (size_in_bytes size) n
number_written None width n = padded width n

-- a number of this size is that small; one in LEB128 may have any size
abbrev pub FitsForm : Option Size → (number : ℕ) → Type 0
FitsForm (Some size) n = n < 256 ^ size_in_bytes size
FitsForm None n = ⊤
