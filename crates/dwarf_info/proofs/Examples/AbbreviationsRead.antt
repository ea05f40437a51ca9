-- Abbreviations (DWARF 5, section 7.5.3). The first table has the forms of the example in appendix D.1.
use Rattle.std.specs.Prelude.{◌≡◌, ℕ, List, [], ◌∷◌, ◌++◌, true, false, Ok, Err, refl}
use Rattle.wasm_numbers.specs.Numbers.{integer}
use Rattle.wasm_numbers.specs.Reading.{many}
use Rattle.dwarf_bytes.specs.declared.fault.DebugFault.TheVariants.{Truncated, BadNumber, BadOffset, UnknownForm, Unsupported}
use Rattle.dwarf_bytes.specs.declared.size.Size.TheVariants.{One, Four}
use Rattle.dwarf_line.specs.Repeated.{at_most}
use Rattle.dwarf_info.specs.declared.abbreviations.Attribute.{Attribute}
use Rattle.dwarf_info.specs.declared.attribute.Meaning.{Meaning}
use Rattle.dwarf_info.specs.declared.attribute.Meaning.TheVariants as means
use Rattle.dwarf_info.specs.declared.form.FormClass.{FormClass}
use Rattle.dwarf_info.specs.declared.form.FormClass.TheVariants.{Address, Constant, Reference, SectionReference, Other}
use Rattle.dwarf_info.specs.declared.form.Layout.{Layout}
use Rattle.dwarf_info.specs.declared.form.Layout.TheVariants.{Sized, AddressSize, ReferenceSize, Terminated, Indirect}
use Rattle.dwarf_info.specs.Attributes.{meaning_of}
use Rattle.dwarf_info.specs.Forms.{form_with_code}
use Rattle.dwarf_info.specs.UpToEnd.{read_to_end}
use Rattle.dwarf_info.specs.Abbreviations.{Declaration, table_declarations, abbreviation_tables, AbbreviationsAt, table_at, declaration_with}

abbrev attribute : Meaning → FormClass → Layout → Attribute
attribute meaning class layout = record { meaning = meaning; form = record { class = class; layout = layout } }

-- a compilation unit (1) with children: name, producer, comp_dir, language, low_pc, high_pc, stmt_list
abbrev unit_bytes : List ℕ
unit_bytes = 1 ∷ 0x11 ∷ 1 ∷ 0x03 ∷ 0x08 ∷ 0x25 ∷ 0x08 ∷ 0x1b ∷ 0x08 ∷ 0x13 ∷ 0x0b ∷ 0x11 ∷ 0x01 ∷ 0x12 ∷ 0x0b ∷ 0x10 ∷ 0x16 ∷ 0 ∷ 0 ∷ []

-- a base type (2): name, encoding, byte_size
abbrev base_bytes : List ℕ
base_bytes = 2 ∷ 0x24 ∷ 0 ∷ 0x03 ∷ 0x08 ∷ 0x3e ∷ 0x0b ∷ 0x0b ∷ 0x0b ∷ 0 ∷ 0 ∷ []

-- a pointer (3): type; a typedef (4): name, type
abbrev other_bytes : List ℕ
other_bytes = 3 ∷ 0x0f ∷ 0 ∷ 0x49 ∷ 0x13 ∷ 0 ∷ 0 ∷ 4 ∷ 0x16 ∷ 0 ∷ 0x03 ∷ 0x08 ∷ 0x49 ∷ 0x10 ∷ 0 ∷ 0 ∷ []

abbrev unit : Declaration
unit = record {
  code = 1;
  tag = 0x11;
  has_children = true;
  attributes =
      attribute means.Other Other Terminated ∷ attribute means.Other Other Terminated ∷ attribute means.Other Other Terminated
      ∷ attribute means.Other Constant (Sized One) ∷ attribute means.LowPc Address AddressSize ∷ attribute means.HighPc Constant (Sized One)
      ∷ attribute means.LineTable Other Indirect ∷ [];
}

abbrev base : Declaration
base = record {
  code = 2;
  tag = 0x24;
  has_children = false;
  attributes = attribute means.Other Other Terminated ∷ attribute means.Other Constant (Sized One) ∷ attribute means.Computed Constant (Sized One) ∷ [];
}

abbrev pointer : Declaration
pointer = record { code = 3; tag = 0x0f; has_children = false; attributes = attribute means.Other Reference (Sized Four) ∷ [] }

abbrev typedef : Declaration
typedef = record {
  code = 4;
  tag = 0x16;
  has_children = false;
  attributes = attribute means.Other Other Terminated ∷ attribute means.Other SectionReference ReferenceSize ∷ [];
}

whole_table : table_declarations (unit_bytes ++ base_bytes ++ other_bytes ++ 0 ∷ 0xff ∷ []) ≡ Ok (unit ∷ base ∷ pointer ∷ typedef ∷ [], 0xff ∷ [])
unfolding integer many read_to_end meaning_of form_with_code
whole_table = refl

-- two tables: the second begins at offset 12
two_tables : abbreviation_tables (base_bytes ++ 0 ∷ base_bytes ++ 0 ∷ [])
    ≡ Ok ((record { offset = 0; declarations = base ∷ [] }) ∷ (record { offset = 12; declarations = base ∷ [] }) ∷ [])
unfolding integer many read_to_end meaning_of form_with_code at_most
two_tables = refl

empty_table : table_declarations (0 ∷ []) ≡ Ok ([], [])
unfolding integer many read_to_end
empty_table = refl

-- a declaration (decl_file as DW_FORM_implicit_const with -1, external as DW_FORM_flag_present) whose values take no bytes
without_bytes : table_declarations (0x80 ∷ 1 ∷ 0x2e ∷ 0 ∷ 0x3a ∷ 0x21 ∷ 0x7f ∷ 0x3f ∷ 0x19 ∷ 0 ∷ 0 ∷ 0 ∷ []) ≡ Ok ((record { code = 128; tag = 0x2e; has_children = false; attributes = [] }) ∷ [], [])
unfolding integer many read_to_end meaning_of form_with_code
without_bytes = refl

-- ---- what is refused

-- low_pc as DW_FORM_implicit_const
implicit_address : table_declarations (1 ∷ 0x2e ∷ 0 ∷ 0x11 ∷ 0x21 ∷ 0x7f ∷ 0 ∷ 0 ∷ 0 ∷ []) ≡ Err Unsupported
unfolding integer many read_to_end meaning_of form_with_code
implicit_address = refl

-- no form has the code 0x02 or 0x2d
no_form : table_declarations (1 ∷ 0x2e ∷ 0 ∷ 0x03 ∷ 0x02 ∷ 0 ∷ 0 ∷ 0 ∷ []) ≡ Err UnknownForm
unfolding integer many read_to_end meaning_of form_with_code
no_form = refl

no_such_form : table_declarations (1 ∷ 0x2e ∷ 0 ∷ 0x03 ∷ 0x2d ∷ 0 ∷ 0 ∷ 0 ∷ []) ≡ Err UnknownForm
unfolding integer many read_to_end meaning_of form_with_code
no_such_form = refl

-- the same code again
same_code : table_declarations (2 ∷ 0x2e ∷ 0 ∷ 0 ∷ 0 ∷ 2 ∷ 0x2e ∷ 0 ∷ 0 ∷ 0 ∷ 0 ∷ []) ≡ Err Unsupported
unfolding integer many read_to_end meaning_of form_with_code
same_code = refl

-- the table isn't ended, a declaration isn't, and a specification isn't
not_ended : table_declarations base_bytes ≡ Err Truncated
unfolding integer many read_to_end meaning_of form_with_code
not_ended = refl

attributes_not_ended : table_declarations (2 ∷ 0x24 ∷ 0 ∷ 0x03 ∷ 0x08 ∷ []) ≡ Err Truncated
unfolding integer many read_to_end meaning_of form_with_code
attributes_not_ended = refl

form_missing : table_declarations (2 ∷ 0x24 ∷ 0 ∷ 0x03 ∷ []) ≡ Err Truncated
unfolding integer many read_to_end meaning_of form_with_code
form_missing = refl

-- ---- looking up

abbrev tables : List AbbreviationsAt
tables = (record { offset = 0; declarations = base ∷ [] }) ∷ (record { offset = 12; declarations = unit ∷ pointer ∷ [] }) ∷ []

second_table : table_at tables 12 ≡ Ok (unit ∷ pointer ∷ [])
second_table = refl

no_table : table_at tables 11 ≡ Err BadOffset
no_table = refl

third_code : declaration_with (unit ∷ pointer ∷ []) 3 ≡ Ok pointer
third_code = refl

no_code : declaration_with (unit ∷ pointer ∷ []) 2 ≡ Err BadNumber
no_code = refl
