-- What becomes of values, and scopes (DWARF 5, sections 2.17, 3.3, 3.4 and 7.5), for code of no bodies: all of it is removed.
use Rattle.std.specs.Prelude.{◌≡◌, ℕ, List, [], ◌∷◌, true, false, Option, Some, None, Ok, Err, refl}
use Rattle.dwarf_bytes.specs.declared.fault.DebugFault.TheVariants.{Unsupported, BadOffset}
use Rattle.dwarf_bytes.specs.declared.size.Size.TheVariants.{One, Four}
use Rattle.dwarf_bytes.specs.declared.size.Format.TheVariants.{Dwarf32}
use Rattle.dwarf_expressions.specs.declared.encoding.Encoding.{Encoding}
use Rattle.dwarf_info.specs.declared.attribute.Meaning.TheVariants as means
use Rattle.dwarf_info.specs.declared.effect.Effect.TheVariants as effects
use Rattle.dwarf_info.specs.declared.form.Form.{Form}
use Rattle.dwarf_info.specs.declared.form.FormClass.{FormClass}
use Rattle.dwarf_info.specs.declared.form.FormClass.TheVariants as forms
use Rattle.dwarf_info.specs.declared.form.Layout.{Layout}
use Rattle.dwarf_info.specs.declared.form.Layout.TheVariants.{Sized, AddressSize, OffsetSize, Unsigned, Signed, Counted, CountedUnsigned}
use Rattle.dwarf_info.specs.declared.moved.ListPlace.{ListPlace}
use Rattle.dwarf_info.specs.declared.moved.ListPlace.TheVariants as lists
use Rattle.dwarf_info.specs.declared.moved.ListUse.{ListUse}
use Rattle.dwarf_info.specs.declared.scope.Scope.TheVariants as scopes
use Rattle.dwarf_info.specs.Forms.{SpelledValue}
use Rattle.dwarf_info.specs.Effects.{EntryContext, scope_of_entry, length_between, return_moved, call_moved, effect_of}

abbrev encoded : (version : ℕ) → Encoding
encoded version = record { version = version; format = Dwarf32; address_size = Four }

-- an entry with this tag of a unit of this version, whose lists are at 8 and 12 and are counted from 0
abbrev entry : (version tag : ℕ) → (low : Option ℕ) → EntryContext
entry version tag low = record {
  bodies = [];
  encoding = encoded version;
  unit = 0;
  bases = record { addresses = record { section = []; base = 8; size = Four }; ranges = 8; locations = 12; low = 0 };
  scope = scopes.Unit;
  tag = tag;
  low = low;
}

abbrev form : FormClass → Layout → Form
form class layout = record { class = class; layout = layout }

abbrev value : (number : ℕ) → (block : List ℕ) → SpelledValue
value number block = record { at = 0; size = 4; number = number; block = block }

abbrev list : (version : ℕ) → ListPlace → ListUse
list version place = record { place = place; base = 0; addresses = 8; encoding = encoded version }

-- ---- scopes

removed : scope_of_entry [] scopes.Unit 0x2e (Some 5) false ≡ scopes.Dropped
removed = refl

below_removed : scope_of_entry [] scopes.Dropped 0x2e None true ≡ scopes.Dropped
below_removed = refl

by_ranges_alone : scope_of_entry [] scopes.Unit 0x2e None true ≡ scopes.Ranges
by_ranges_alone = refl

declared_only : scope_of_entry [] (scopes.Body 5) 0x2e None false ≡ scopes.Unit
declared_only = refl

-- a lexical block (0x0b) is of the function that is around it, whatever its ranges are
block_of_function : scope_of_entry [] (scopes.Body 5) 0x0b None true ≡ scopes.Body 5
block_of_function = refl

-- ---- values

low_pc : effect_of (entry 4 0x2e (Some 5)) means.LowPc (form forms.Address AddressSize) (value 5 []) ≡ Ok (effects.Number 5)
unfolding effect_of
low_pc = refl

-- the address of a call that is removed along with its function
call_pc : effect_of (entry 5 0x48 (Some 5)) means.CallPc (form forms.Address AddressSize) (value 5 []) ≡ Ok (effects.Number 5)
unfolding effect_of
call_pc = refl

-- a length of code that is removed stays; one that may be negative is refused
high_pc : effect_of (entry 4 0x2e (Some 5)) means.HighPc (form forms.Constant (Sized Four)) (value 7 []) ≡ Ok (effects.Number 7)
unfolding effect_of
high_pc = refl

signed_high_pc : effect_of (entry 4 0x2e (Some 5)) means.HighPc (form forms.Constant Signed) (value 0 []) ≡ Err Unsupported
unfolding effect_of
signed_high_pc = refl

-- lists: by offset, up to DWARF 3 as data4, and by index
ranges_of_four : effect_of (entry 4 0x11 None) means.Ranges (form forms.SectionOffset OffsetSize) (value 96 []) ≡ Ok (effects.Ranges (list 4 (lists.Offset 96)))
unfolding effect_of
ranges_of_four = refl

ranges_of_three : effect_of (entry 3 0x11 None) means.Ranges (form forms.Constant (Sized Four)) (value 96 []) ≡ Ok (effects.Ranges (list 3 (lists.Offset 96)))
unfolding effect_of
ranges_of_three = refl

no_ranges_of_four : effect_of (entry 4 0x11 None) means.Ranges (form forms.Constant (Sized Four)) (value 96 []) ≡ Ok effects.Stays
unfolding effect_of
no_ranges_of_four = refl

ranges_by_index : effect_of (entry 5 0x11 None) means.Ranges (form forms.ListIndex Unsigned) (value 2 []) ≡ Ok (effects.Ranges (list 5 (lists.Index 8 2)))
unfolding effect_of
ranges_by_index = refl

locations_by_index : effect_of (entry 5 0x34 None) means.Location (form forms.ListIndex Unsigned) (value 2 []) ≡ Ok (effects.Locations (list 5 (lists.Index 12 2)))
unfolding effect_of
locations_by_index = refl

line_table : effect_of (entry 4 0x11 None) means.LineTable (form forms.SectionOffset OffsetSize) (value 0 []) ≡ Ok effects.LineTable
unfolding effect_of
line_table = refl

-- expressions: exprloc, and up to DWARF 3 a block; but the argument of a template that is an address
location : effect_of (entry 4 0x34 None) means.Location (form forms.Expression CountedUnsigned) (value 1 (0x9c ∷ [])) ≡ Ok effects.Expression
unfolding effect_of
location = refl

block_of_three : effect_of (entry 3 0x34 None) means.Location (form forms.Block (Counted One)) (value 1 (0x9c ∷ [])) ≡ Ok effects.Expression
unfolding effect_of
block_of_three = refl

block_of_four : effect_of (entry 4 0x34 None) means.Location (form forms.Block (Counted One)) (value 1 (0x9c ∷ [])) ≡ Ok effects.Stays
unfolding effect_of
block_of_four = refl

template_address : effect_of (entry 4 0x30 None) means.Location (form forms.Expression CountedUnsigned) (value 5 (0x03 ∷ 1 ∷ 0 ∷ 0 ∷ 0 ∷ [])) ≡ Err Unsupported
unfolding effect_of
template_address = refl

-- an offset into a section that isn't known, and an index that is in no table
unknown_offset : effect_of (entry 5 0x34 None) means.Other (form forms.SectionOffset OffsetSize) (value 0 []) ≡ Err Unsupported
unfolding effect_of
unknown_offset = refl

no_address_at_index : effect_of (entry 5 0x2e None) means.LowPc (form forms.AddressIndex Unsigned) (value 0 []) ≡ Err BadOffset
unfolding effect_of
no_address_at_index = refl

-- ---- addresses and lengths

-- code from 10 to 25 that goes to 30 and 48
new_length_is : length_between 15 (Some 30) (Some 48) ≡ Ok 18
new_length_is = refl

ends_outside : length_between 15 (Some 30) None ≡ Err Unsupported
ends_outside = refl

-- the end of a call that is written, and of one that isn't
returns : return_moved 0xffff_ffff true 12 (Some 40) ≡ 40
returns = refl

returns_nowhere : return_moved 0xffff_ffff false 12 (Some 40) ≡ 0xffff_ffff
returns_nowhere = refl

of_no_body : return_moved 0xffff_ffff false 12 None ≡ 12
of_no_body = refl

-- a call at 12 that is itself written at 41, after what is added in front of it at 36; and one that isn't written
call_goes : call_moved 0xffff_ffff (Some 41) 12 (Some 36) ≡ 41
call_goes = refl

call_goes_nowhere : call_moved 0xffff_ffff None 12 (Some 36) ≡ 0xffff_ffff
call_goes_nowhere = refl

call_of_no_body : call_moved 0xffff_ffff None 12 None ≡ 12
call_of_no_body = refl
