-- The operands of operations (DWARF 5, section 7.7.1; DWARF for WebAssembly, "DW_OP_WASM_location"). Besides those that GCC and LLVM
-- write, whose names begin with DW_OP_GNU: they are in the range that the standard leaves to vendors.
use Rattle.std.specs.Prelude.{ℕ, List, [], ◌∷◌, ◌&&◌, nat_le, nat_lt, ◌==◌, if◌then◌else◌, Option, Some, None}
use Rattle.dwarf_bytes.specs.declared.size.Size.{Size}
use Rattle.dwarf_bytes.specs.declared.size.Size.TheVariants.{One, Two, Four, Eight}
use Rattle.dwarf_bytes.specs.Numbers.{offset_size}
use Rattle.dwarf_expressions.specs.declared.encoding.Encoding.{Encoding}
use Rattle.dwarf_expressions.specs.declared.operand.Operand.{Operand}
use Rattle.dwarf_expressions.specs.declared.operand.Operand.TheVariants.{Nothing, Address, Fixed, Unsigned, Signed, Branch, Block, ShortBlock, Expression, Place, EntryAt, Entry, EntryOfAnyUnit}

-- the size of the offset of an entry in `.debug_info` (DWARF 5, section 7.5.5, DW_FORM_ref_addr): in version 2 that of an address
abbrev pub reference_size : Encoding → Size
reference_size e = if e.version == 2 then e.address_size else offset_size e.format

-- operations with these codes, from the first to the last, have these operands
pub record OperandRow : Type 0 where
  pub first : ℕ
  pub last : ℕ
  pub operands : Operand × Operand

abbrev row : (first last : ℕ) → (one two : Operand) → OperandRow
row first last one two = record { first = first; last = last; operands = (one, two) }

-- operations that compute, and those whose code contains a number
abbrev pub first_rows : List OperandRow
first_rows =
    row 0x03 0x03 Address Nothing  -- addr
    ∷ row 0x06 0x06 Nothing Nothing  -- deref
    ∷ row 0x08 0x09 (Fixed One) Nothing  -- const1u, const1s
    ∷ row 0x0a 0x0b (Fixed Two) Nothing  -- const2u, const2s
    ∷ row 0x0c 0x0d (Fixed Four) Nothing  -- const4u, const4s
    ∷ row 0x0e 0x0f (Fixed Eight) Nothing  -- const8u, const8s
    ∷ row 0x10 0x10 Unsigned Nothing  -- constu
    ∷ row 0x11 0x11 Signed Nothing  -- consts
    ∷ row 0x12 0x14 Nothing Nothing  -- dup, drop, over
    ∷ row 0x15 0x15 (Fixed One) Nothing  -- pick
    ∷ row 0x16 0x22 Nothing Nothing  -- swap, rot, xderef, abs, and, div, minus, mod, mul, neg, not, or, plus
    ∷ row 0x23 0x23 Unsigned Nothing  -- plus_uconst
    ∷ row 0x24 0x27 Nothing Nothing  -- shl, shr, shra, xor
    ∷ row 0x28 0x28 Branch Nothing  -- bra
    ∷ row 0x29 0x2e Nothing Nothing  -- eq, ge, gt, le, lt, ne
    ∷ row 0x2f 0x2f Branch Nothing  -- skip
    ∷ row 0x30 0x6f Nothing Nothing  -- lit0 to lit31, reg0 to reg31
    ∷ row 0x70 0x8f Signed Nothing  -- breg0 to breg31
    ∷ []

-- the other operations of the standard
abbrev pub other_rows : List OperandRow
other_rows =
    row 0x90 0x90 Unsigned Nothing  -- regx
    ∷ row 0x91 0x91 Signed Nothing  -- fbreg
    ∷ row 0x92 0x92 Unsigned Signed  -- bregx
    ∷ row 0x93 0x93 Unsigned Nothing  -- piece
    ∷ row 0x94 0x95 (Fixed One) Nothing  -- deref_size, xderef_size
    ∷ row 0x96 0x97 Nothing Nothing  -- nop, push_object_address
    ∷ row 0x98 0x98 (EntryAt Two) Nothing  -- call2
    ∷ row 0x99 0x99 (EntryAt Four) Nothing  -- call4
    ∷ row 0x9a 0x9a EntryOfAnyUnit Nothing  -- call_ref
    ∷ row 0x9b 0x9c Nothing Nothing  -- form_tls_address, call_frame_cfa
    ∷ row 0x9d 0x9d Unsigned Unsigned  -- bit_piece
    ∷ row 0x9e 0x9e Block Nothing  -- implicit_value
    ∷ row 0x9f 0x9f Nothing Nothing  -- stack_value
    ∷ row 0xa0 0xa0 EntryOfAnyUnit Signed  -- implicit_pointer
    ∷ row 0xa1 0xa2 Unsigned Nothing  -- addrx, constx
    ∷ row 0xa3 0xa3 Expression Nothing  -- entry_value
    ∷ row 0xa4 0xa4 Entry ShortBlock  -- const_type
    ∷ row 0xa5 0xa5 Unsigned Entry  -- regval_type
    ∷ row 0xa6 0xa7 (Fixed One) Entry  -- deref_type, xderef_type
    ∷ row 0xa8 0xa9 Entry Nothing  -- convert, reinterpret
    ∷ []

-- those of vendors
abbrev pub vendor_rows : List OperandRow
vendor_rows =
    row 0xe0 0xe0 Nothing Nothing  -- GNU_push_tls_address
    ∷ row 0xed 0xed Place Nothing  -- WASM_location
    ∷ row 0xf0 0xf0 Nothing Nothing  -- GNU_uninit
    ∷ row 0xf2 0xf2 EntryOfAnyUnit Signed  -- GNU_implicit_pointer
    ∷ row 0xf3 0xf3 Expression Nothing  -- GNU_entry_value
    ∷ row 0xf4 0xf4 Entry ShortBlock  -- GNU_const_type
    ∷ row 0xf5 0xf5 Unsigned Entry  -- GNU_regval_type
    ∷ row 0xf6 0xf6 (Fixed One) Entry  -- GNU_deref_type
    ∷ row 0xf7 0xf7 Entry Nothing  -- GNU_convert
    ∷ row 0xf9 0xf9 Entry Nothing  -- GNU_reinterpret
    ∷ row 0xfa 0xfa (EntryAt Four) Nothing  -- GNU_parameter_ref
    ∷ row 0xfb 0xfc Unsigned Nothing  -- GNU_addr_index, GNU_const_index
    ∷ row 0xfd 0xfd EntryOfAnyUnit Nothing  -- GNU_variable_value
    ∷ []

abbrev pub expression_operands_in : List OperandRow → (code : ℕ) → Option (Operand × Operand)
expression_operands_in [] code = None
expression_operands_in (r ∷ rs) code = if nat_le r.first code && nat_le code r.last then Some r.operands else expression_operands_in rs code

unfoldable pub expression_operands : (code : ℕ) → Option (Operand × Operand)
expression_operands code = expression_operands_in (if nat_lt code 0x90 then first_rows else if nat_lt code 0xe0 then other_rows else vendor_rows) code
