-- Abbreviations: which attributes an entry has, and in which forms (DWARF 5, section 7.5.3; so it is in DWARF 2 to 4).
use Rattle.std.specs.Prelude.{ℕ, ◌-◌, Bool, not, ◌&&◌, ◌==◌, nat_lt, if◌then◌else◌, List, length, Option, Some, None, option_map, Result, Ok}
use Rattle.std.specs.List.{filter_map, find}
use Rattle.wasm_numbers.specs.Results.{◌>>=◌, unless, some_or}
use Rattle.dwarf_bytes.specs.declared.fault.DebugFault.{DebugFault}
use Rattle.dwarf_bytes.specs.declared.fault.DebugFault.TheVariants.{Unsupported, BadNumber, BadOffset}
use Rattle.dwarf_bytes.specs.Faults.{DebugReader}
use Rattle.dwarf_bytes.specs.Numbers.{fixed_number, unsigned_leb, signed_leb}
use Rattle.dwarf_line.specs.Repeated.{all_values}
use Rattle.dwarf_info.specs.declared.abbreviations.Attribute.{Attribute}
use Rattle.dwarf_info.specs.Attributes.{meaning_of, may_be_implicit}
use Rattle.dwarf_info.specs.Forms.{form_with_code, flag_present, implicit_const}
use Rattle.dwarf_info.specs.UpToEnd.{up_to_end}

-- A declaration: the code and the tag of its entries, whether an entry owns those that follow it, and the attributes whose values take
-- bytes in an entry.
pub record Declaration : Type 0 where
  pub code : ℕ
  pub tag : ℕ
  pub has_children : Bool
  pub attributes : List Attribute

-- ---- attribute specifications

-- The attribute with this name and this form; None if its value takes no bytes in an entry. The value of DW_FORM_implicit_const follows,
-- and doesn't say where code is.
abbrev pub specified : (name form : ℕ) → DebugReader (Option Attribute)
specified name form bytes =
    if form == implicit_const then (signed_leb bytes >>= λ value. unless (may_be_implicit (meaning_of name)) Unsupported >>= λ u. Ok (None, value.1))
    else if form == flag_present then Ok (None, bytes)
    else (form_with_code form >>= λ f. Ok (Some (record { meaning = meaning_of name; form = f }), bytes))

-- the next one; None at the two zeros that end them
abbrev pub specification : DebugReader (Option (Option Attribute))
specification bytes =
    unsigned_leb bytes >>= λ name.
    unsigned_leb name.1 >>= λ form.
    if (name.0 == 0) && (form.0 == 0) then Ok (None, form.1)
    else (specified name.0 form.0 form.1 >>= λ one. Ok (Some one.0, one.1))

-- those whose values take bytes
abbrev pub taking_bytes : List (Option Attribute) → List Attribute
taking_bytes = filter_map (λ one. one)

abbrev pub specifications : DebugReader (List Attribute)
specifications bytes = up_to_end (λ before. specification) None bytes >>= λ each. Ok (taking_bytes each.0, each.1)

-- ---- declarations

-- what follows the code
abbrev pub declared_with : (code : ℕ) → DebugReader Declaration
declared_with code bytes =
    unsigned_leb bytes >>= λ tag.
    fixed_number 1 tag.1 >>= λ children.
    specifications children.1 >>= λ attributes.
    Ok (record { code = code; tag = tag.0; has_children = not (children.0 == 0); attributes = attributes.0 }, attributes.1)

-- The next declaration, whose code is greater than this one; None at the zero that ends a table.
abbrev pub next_declaration : (last : ℕ) → DebugReader (Option Declaration)
next_declaration last bytes =
    unsigned_leb bytes >>= λ code.
    if code.0 == 0 then Ok (None, code.1)
    else (unless (nat_lt last code.0) Unsupported >>= λ u. declared_with code.0 code.1 >>= λ d. Ok (Some d.0, d.1))

abbrev pub code_of : Option Declaration → ℕ
code_of None = 0
code_of (Some d) = d.code

abbrev pub table_declarations : DebugReader (List Declaration)
table_declarations = up_to_end (λ before. next_declaration (code_of before)) None

-- ---- the section

-- a table, and its offset
pub record AbbreviationsAt : Type 0 where
  pub offset : ℕ
  pub declarations : List Declaration

-- the next table of a section of this length
abbrev pub abbreviations_at : (section_length : ℕ) → DebugReader AbbreviationsAt
abbreviations_at section_length bytes =
    table_declarations bytes >>= λ ds. Ok (record { offset = section_length - length bytes; declarations = ds.0 }, ds.1)

-- one table after the other
abbrev pub abbreviation_tables : (section : List ℕ) → Result (List AbbreviationsAt) DebugFault
abbreviation_tables section = all_values (abbreviations_at (length section)) section

-- ---- looking up

-- the table at this offset
abbrev pub table_at : List AbbreviationsAt → (offset : ℕ) → Result (List Declaration) DebugFault
table_at ts offset = some_or (option_map (λ (t : AbbreviationsAt). t.declarations) (find (λ (t : AbbreviationsAt). t.offset == offset) ts)) BadOffset

-- the declaration with this code
abbrev pub declaration_with : List Declaration → (code : ℕ) → Result Declaration DebugFault
declaration_with ds code = some_or (find (λ (d : Declaration). d.code == code) ds) BadNumber
