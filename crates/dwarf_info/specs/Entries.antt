-- Entries of a unit, one after the other, with the values of their attributes (DWARF 5, sections 2.1 to 2.3 and 7.5.3).
use Rattle.std.specs.Prelude.{ℕ, Bool, ◌==◌, if◌then◌else◌, List, [], ◌∷◌, Option, Some, None, Ok}
use Rattle.wasm_numbers.specs.Results.{◌>>=◌}
use Rattle.dwarf_bytes.specs.Faults.{DebugReader}
use Rattle.dwarf_bytes.specs.Numbers.{unsigned_leb}
use Rattle.dwarf_expressions.specs.declared.encoding.Encoding.{Encoding}
use Rattle.dwarf_info.specs.declared.abbreviations.Attribute.{Attribute}
use Rattle.dwarf_info.specs.declared.attribute.Meaning.{Meaning}
use Rattle.dwarf_info.specs.declared.form.Form.{Form}
use Rattle.dwarf_info.specs.Abbreviations.{Declaration, declaration_with}
use Rattle.dwarf_info.specs.Forms.{SpelledValue, form_of_value, spelled_value}
use Rattle.dwarf_info.specs.Units.{SpelledUnit}

-- an attribute of an entry: what it means, and its value in its form
pub record SpelledAttribute : Type 0 where
  pub meaning : Meaning
  pub form : Form
  pub value : SpelledValue

-- an entry: its tag, whether it owns those that follow it, and its attributes
pub record SpelledEntry : Type 0 where
  pub tag : ℕ
  pub has_children : Bool
  pub attributes : List SpelledAttribute

-- `end`: the place after the bytes
abbrev pub spelled_attribute : Encoding → (end : ℕ) → Attribute → DebugReader SpelledAttribute
spelled_attribute e end a bytes =
    form_of_value a.form bytes >>= λ form.
    spelled_value e form.0.layout end form.1 >>= λ value.
    Ok (record { meaning = a.meaning; form = form.0; value = value.0 }, value.1)

-- the attributes of an entry, one after the other, as its declaration has them
unfoldable pub spelled_attributes : Encoding → (end : ℕ) → List Attribute → DebugReader (List SpelledAttribute)
spelled_attributes e end [] bytes = Ok ([], bytes)
spelled_attributes e end (a ∷ more) bytes =
    spelled_attribute e end a bytes >>= λ one.
    spelled_attributes e end more one.1 >>= λ others.
    Ok (one.0 ∷ others.0, others.1)

abbrev pub declared_entry : SpelledUnit → Declaration → DebugReader SpelledEntry
declared_entry u d bytes =
    spelled_attributes u.encoding u.end d.attributes bytes >>= λ each.
    Ok (record { tag = d.tag; has_children = d.has_children; attributes = each.0 }, each.1)

-- The next entry of a unit, by the code of its declaration; None at the zero that ends the children of an entry.
unfoldable pub next_entry : SpelledUnit → DebugReader (Option SpelledEntry)
next_entry u bytes =
    unsigned_leb bytes >>= λ code.
    if code.0 == 0 then Ok (None, code.1)
    else (declaration_with u.declarations code.0 >>= λ d. declared_entry u d code.1 >>= λ entry. Ok (Some entry.0, entry.1))
