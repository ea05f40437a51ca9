-- What becomes of the values of attributes when the code moves (DWARF 5, sections 2.17, 3.3, 3.4 and 7.5).
use Rattle.std.specs.Prelude.{ℕ, ◌+◌, ◌-◌, ◌^◌, Bool, true, false, not, ◌&&◌, ◌||◌, ◌==◌, nat_lt, nat_le, if◌then◌else◌, is_some, unwrap_or, List, [], ◌∷◌, Option, Some, None, Result, Ok, Err}
use Rattle.wasm_numbers.specs.Results.{◌>>=◌}
use Rattle.code_moves.specs.declared.body.Body.{Body}
use Rattle.code_moves.specs.Moves.{address_moved, new_address, operator_moved, ends_written_at}
use Rattle.dwarf_bytes.specs.declared.addresses.Address.{Address}
use Rattle.dwarf_bytes.specs.declared.fault.DebugFault.{DebugFault}
use Rattle.dwarf_bytes.specs.declared.fault.DebugFault.TheVariants.{Unsupported}
use Rattle.dwarf_bytes.specs.Addresses.{AddressesOfUnit, indexed_address}
use Rattle.dwarf_bytes.specs.Numbers.{size_in_bytes}
use Rattle.dwarf_expressions.specs.declared.encoding.Encoding.{Encoding}
use Rattle.dwarf_info.specs.declared.attribute.Meaning.{Meaning}
use Rattle.dwarf_info.specs.declared.attribute.Meaning.TheVariants as means
use Rattle.dwarf_info.specs.declared.effect.Effect.{Effect}
use Rattle.dwarf_info.specs.declared.effect.Effect.TheVariants as effects
use Rattle.dwarf_info.specs.declared.form.Form.{Form}
use Rattle.dwarf_info.specs.declared.form.FormClass.{FormClass}
use Rattle.dwarf_info.specs.declared.form.FormClass.TheVariants as forms
use Rattle.dwarf_info.specs.declared.form.Layout.{Layout}
use Rattle.dwarf_info.specs.declared.form.Layout.TheVariants.{Signed}
use Rattle.dwarf_info.specs.declared.moved.ListPlace.{ListPlace}
use Rattle.dwarf_info.specs.declared.moved.ListPlace.TheVariants as lists
use Rattle.dwarf_info.specs.declared.moved.ListUse.{ListUse}
use Rattle.dwarf_info.specs.declared.scope.Scope.{Scope}
use Rattle.dwarf_info.specs.declared.scope.Scope.TheVariants as scopes
use Rattle.dwarf_info.specs.Forms.{SpelledValue, is_section_offset}

-- ---- what attributes are read with

-- what the entries of a unit are counted from: its addresses by index, the offsets of its lists, and the address from which its lists are
-- counted (the first address of its own code, or 0)
pub record UnitBases : Type 0 where
  pub addresses : AddressesOfUnit
  pub ranges : ℕ
  pub locations : ℕ
  pub low : ℕ

-- of an entry: the bodies of the code, how the unit is spelt, its offset, and what it is counted from; and the scope, the tag and the first
-- address of the entry
pub record EntryContext : Type 0 where
  pub bodies : List Body
  pub encoding : Encoding
  pub unit : ℕ
  pub bases : UnitBases
  pub scope : Scope
  pub tag : ℕ
  pub low : Option ℕ

-- tags (section 7.5.3; the last one is GNU's)
abbrev pub subprogram : ℕ
subprogram = 0x2e

abbrev pub template_value_parameter : ℕ
template_value_parameter = 0x30

abbrev pub gnu_call_site : ℕ
gnu_call_site = 0x4109

-- ---- scopes

-- A function begins at its first address. It isn't in the module if this is of no body: the linker has removed it. Its code may be given
-- by ranges alone, which may be of several bodies; it has no code if it is a declaration, or an abstract instance.
abbrev pub scope_of_function : List Body → (low : Option ℕ) → (has_ranges : Bool) → Scope
scope_of_function bodies (Some address) has_ranges = if is_some (address_moved bodies address) then scopes.Body address else scopes.Dropped
scope_of_function bodies None has_ranges = if has_ranges then scopes.Ranges else scopes.Unit

-- the scope of an entry in this one: below a function that isn't in the module, nothing is
abbrev pub scope_of_entry : List Body → (around : Scope) → (tag : ℕ) → (low : Option ℕ) → (has_ranges : Bool) → Scope
scope_of_entry bodies scopes.Dropped tag low has_ranges = scopes.Dropped
scope_of_entry bodies around tag low has_ranges = if tag == subprogram then scope_of_function bodies low has_ranges else around

-- ---- addresses

abbrev pub greatest_address : Encoding → ℕ
greatest_address e = 256 ^ size_in_bytes e.address_size - 1

-- The end of a call goes where it goes, if the call is written. If it isn't, it becomes no address; otherwise the return of another call
-- would be taken for it.
abbrev pub return_moved : (greatest : ℕ) → (is_written : Bool) → (address : ℕ) → (new : Option ℕ) → ℕ
return_moved greatest is_written address None = address
return_moved greatest is_written address (Some new) = if is_written then new else greatest

abbrev pub new_return : EntryContext → (address : ℕ) → ℕ
new_return c address = return_moved (greatest_address c.encoding) (ends_written_at c.bodies address) address (address_moved c.bodies address)

-- A call is where it is itself written, after what is added in front of it (section 3.4.1). If it isn't written, it becomes no address.
abbrev pub call_moved : (greatest : ℕ) → (own : Option ℕ) → (address : ℕ) → (new : Option ℕ) → ℕ
call_moved greatest own address None = address
call_moved greatest own address (Some new) = unwrap_or own greatest

abbrev pub new_call : EntryContext → (address : ℕ) → ℕ
new_call c address = call_moved (greatest_address c.encoding) (operator_moved c.bodies address) address (address_moved c.bodies address)

-- whether the code of an entry begins in a body
abbrev pub begins_in_body : EntryContext → Option ℕ → Bool
begins_in_body c None = false
begins_in_body c (Some low) = is_some (address_moved c.bodies low)

-- What an address becomes that is the value of this attribute. GNU's call sites have the end of the call as their first address. A range
-- that begins in no body stays whole.
abbrev pub new_attribute_address : EntryContext → Meaning → (address : ℕ) → ℕ
new_attribute_address c means.LowPc address = if c.tag == gnu_call_site then new_return c address else new_address c.bodies address
new_attribute_address c means.CallReturnPc address = new_return c address
new_attribute_address c means.CallPc address = new_call c address
new_attribute_address c means.HighPc address = if begins_in_body c c.low then new_address c.bodies address else address
new_attribute_address c _ address = new_address c.bodies address

-- an address that is named by index: one that becomes no address gets another index, since the address may be used elsewhere
abbrev pub index_effect : (greatest : ℕ) → Address → (new : ℕ) → Effect
index_effect greatest a new = if (new == greatest) && not (new == a.value) then effects.NoAddress else effects.Address a new

abbrev pub effect_of_index : EntryContext → Meaning → (index : ℕ) → Result Effect DebugFault
effect_of_index c m index =
    indexed_address c.bases.addresses index >>= λ a.
    Ok (index_effect (greatest_address c.encoding) a (new_attribute_address c m a.value))

-- ---- lengths

-- an address is a number of 64 bits
abbrev pub end_moved : List Body → (end : ℕ) → Option ℕ
end_moved bodies end = if nat_lt end (2 ^ 64) then address_moved bodies end else None

-- The length of code that begins in a body is what is between its new ends; both are of bodies, and in order.
abbrev pub length_between : (length : ℕ) → (begin end : Option ℕ) → Result ℕ DebugFault
length_between length None end = Ok length
length_between length (Some begin) None = Err Unsupported
length_between length (Some begin) (Some end) = if nat_le begin end then Ok (end - begin) else Err Unsupported

abbrev pub new_length : List Body → (low : Option ℕ) → (length : ℕ) → Result ℕ DebugFault
new_length bodies None length = Ok length
new_length bodies (Some low) length = length_between length (address_moved bodies low) (end_moved bodies (low + length))

-- attributes that are a length if they are a number: DW_AT_high_pc and DW_AT_entry_pc
abbrev pub may_be_length : Meaning → Bool
may_be_length means.HighPc = true
may_be_length means.EntryPc = true
may_be_length _ = false

abbrev pub is_signed : Layout → Bool
is_signed Signed = true
is_signed _ = false

-- ---- lists and expressions

abbrev pub list_used : EntryContext → ListPlace → ListUse
list_used c place = record { place = place; base = c.bases.low; addresses = c.bases.addresses.base; encoding = c.encoding }

abbrev pub effect_of_list_index : EntryContext → Meaning → (index : ℕ) → Effect
effect_of_list_index c means.Ranges index = effects.Ranges (list_used c (lists.Index c.bases.ranges index))
effect_of_list_index c _ index = effects.Locations (list_used c (lists.Index c.bases.locations index))

-- An expression, for an attribute that may have one: up to DWARF 3 it is spelt as a block.
abbrev pub is_expression_of : (version : ℕ) → FormClass → Bool
is_expression_of version forms.Expression = true
is_expression_of version forms.Block = nat_le version 3
is_expression_of version _ = false

-- whether the bytes begin with DW_OP_addr or DW_OP_addrx
abbrev pub begins_with_address : List ℕ → Bool
begins_with_address [] = false
begins_with_address (code ∷ bytes) = (code == 0x03) || (code == 0xa1)

-- The argument of a template may be a function: there, and nowhere else in an expression, DW_OP_addr is the address of code.
abbrev pub effect_of_expression : (tag : ℕ) → (expression : List ℕ) → Result Effect DebugFault
effect_of_expression tag expression =
    if (tag == template_value_parameter) && begins_with_address expression then Err Unsupported else Ok effects.Expression

abbrev pub stays_unless : Bool → Result Effect DebugFault → Result Effect DebugFault
stays_unless test effect = if test then effect else Ok effects.Stays

-- ---- all attributes

-- Of an attribute that isn't known: an expression is moved.
abbrev pub effect_of_other : EntryContext → FormClass → SpelledValue → Result Effect DebugFault
effect_of_other c forms.SectionOffset v = Err Unsupported
effect_of_other c forms.Expression v = effect_of_expression c.tag v.block
effect_of_other c _ v = Ok effects.Stays

-- Of an attribute whose form doesn't show what it is. An offset into a section is moved if it is known into which.
abbrev pub effect_by_meaning : EntryContext → Meaning → Form → SpelledValue → Result Effect DebugFault
effect_by_meaning c means.Split f v = Err Unsupported
effect_by_meaning c means.LineTable f v = stays_unless (is_section_offset c.encoding.version f) (Ok effects.LineTable)
effect_by_meaning c means.Ranges f v = stays_unless (is_section_offset c.encoding.version f) (Ok (effects.Ranges (list_used c (lists.Offset v.number))))
effect_by_meaning c means.Location f v =
    if is_section_offset c.encoding.version f then Ok (effects.Locations (list_used c (lists.Offset v.number)))
    else stays_unless (is_expression_of c.encoding.version f.class) (effect_of_expression c.tag v.block)
effect_by_meaning c means.Computed f v = stays_unless (is_expression_of c.encoding.version f.class) (effect_of_expression c.tag v.block)
effect_by_meaning c means.Other f v = effect_of_other c f.class v
effect_by_meaning c _ f v = Ok effects.Stays

-- of a number
abbrev pub effect_of_constant : EntryContext → Meaning → Form → SpelledValue → Result Effect DebugFault
effect_of_constant c m f v =
    if may_be_length m then
    (if is_signed f.layout then Err Unsupported else (new_length c.bodies c.low v.number >>= λ new. Ok (effects.Number new)))
    else effect_by_meaning c m f v

abbrev pub effect_of_class : EntryContext → Meaning → Form → SpelledValue → FormClass → Result Effect DebugFault
effect_of_class c m f v forms.Address = Ok (effects.Number (new_attribute_address c m v.number))
effect_of_class c m f v forms.AddressIndex = effect_of_index c m v.number
effect_of_class c m f v forms.ListIndex = Ok (effect_of_list_index c m v.number)
effect_of_class c m f v forms.Constant = effect_of_constant c m f v
effect_of_class c m f v _ = effect_by_meaning c m f v

unfoldable pub effect_of : EntryContext → Meaning → Form → SpelledValue → Result Effect DebugFault
effect_of c m f v = effect_of_class c m f v f.class
