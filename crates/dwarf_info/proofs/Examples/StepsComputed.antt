-- The steps of the entries of a section (DWARF 4, sections 2.1 to 2.3, 3.1, 3.3 and 7.5), for code of no bodies: all of it is removed.
use Rattle.std.specs.Prelude.{◌≡◌, ℕ, List, [], ◌∷◌, ◌++◌, true, false, Option, Some, None, Ok, Err, refl}
use Rattle.std.proofs.Common.{inl, lit<, lit≤}
use Rattle.wasm_numbers.specs.Numbers.{integer}
use Rattle.wasm_numbers.specs.Reading.{many}
use Rattle.dwarf_bytes.specs.declared.fault.DebugFault.TheVariants.{BadLength, BadOffset}
use Rattle.dwarf_bytes.specs.declared.size.Size.TheVariants.{Four}
use Rattle.dwarf_bytes.specs.declared.size.Format.TheVariants.{Dwarf32}
use Rattle.dwarf_bytes.specs.Changes.{SectionChange}
use Rattle.dwarf_line.specs.declared.moved.Moved.{Moved}
use Rattle.dwarf_expressions.specs.declared.encoding.Encoding.{Encoding}
use Rattle.dwarf_info.specs.declared.abbreviations.Attribute.{Attribute}
use Rattle.dwarf_info.specs.declared.attribute.Meaning.{Meaning}
use Rattle.dwarf_info.specs.declared.attribute.Meaning.TheVariants as means
use Rattle.dwarf_info.specs.declared.effect.Effect.TheVariants as effects
use Rattle.dwarf_info.specs.declared.form.FormClass.{FormClass}
use Rattle.dwarf_info.specs.declared.form.FormClass.TheVariants as forms
use Rattle.dwarf_info.specs.declared.form.Layout.{Layout}
use Rattle.dwarf_info.specs.declared.form.Layout.TheVariants.{Sized, AddressSize, OffsetSize, CountedUnsigned}
use Rattle.dwarf_info.specs.declared.scope.Scope.TheVariants as scopes
use Rattle.dwarf_info.specs.declared.unit.UnitSection.TheVariants.{Info}
use Rattle.dwarf_info.specs.Abbreviations.{Declaration, AbbreviationsAt}
use Rattle.dwarf_info.specs.Effects.{EntryContext, effect_of}
use Rattle.dwarf_info.specs.Entries.{next_entry, spelled_attributes}
use Rattle.dwarf_info.specs.Forms.{SpelledValue, form_of_value, value_parts}
use Rattle.dwarf_info.specs.Steps.{EntrySteps, changes, steps_of_entries, steps_of_units, steps_of_section}
use Rattle.dwarf_info.specs.Taken.{EntriesMoved, AreStepsTaken, IsFaultOfSteps}
use Rattle.dwarf_info.specs.Units.{spelled_unit, unit_of_part}

abbrev attribute : Meaning → FormClass → Layout → Attribute
attribute meaning class layout = record { meaning = meaning; form = record { class = class; layout = layout } }

-- a unit, a function and a variable
abbrev declarations : List Declaration
declarations =
    (record { code = 1; tag = 0x11; has_children = true; attributes = attribute means.LineTable forms.SectionOffset OffsetSize ∷ attribute means.LowPc forms.Address AddressSize ∷ [] })
    ∷ (record { code = 2; tag = 0x2e; has_children = true; attributes = attribute means.LowPc forms.Address AddressSize ∷ attribute means.HighPc forms.Constant (Sized Four) ∷ [] })
    ∷ (record { code = 3; tag = 0x34; has_children = false; attributes = attribute means.Location forms.Expression CountedUnsigned ∷ [] })
    ∷ []

abbrev tables : List AbbreviationsAt
tables = (record { offset = 0; declarations = declarations }) ∷ []

-- The header of a unit; the unit; a function that the linker has removed, and a variable of it; the end of its children; a variable of the
-- unit, whose location takes this many bytes; the end of the unit's children.
abbrev section : (count : ℕ) → List ℕ
section count =
    (33 ∷ 0 ∷ 0 ∷ 0 ∷ 4 ∷ 0 ∷ 0 ∷ 0 ∷ 0 ∷ 0 ∷ 4 ∷ [])
    ++ ((1 ∷ 0 ∷ 0 ∷ 0 ∷ 0 ∷ 0 ∷ 0 ∷ 0 ∷ 0 ∷ [])
    ++ ((2 ∷ 0xff ∷ 0xff ∷ 0xff ∷ 0xff ∷ 5 ∷ 0 ∷ 0 ∷ 0 ∷ []) ++ ((3 ∷ 1 ∷ 0x9c ∷ []) ++ (0 ∷ 3 ∷ count ∷ 0x9c ∷ 0 ∷ []))))

abbrev encoding : Encoding
encoding = record { version = 4; format = Dwarf32; address_size = Four }

abbrev context : (tag : ℕ) → (low : Option ℕ) → EntryContext
context tag low = record {
  bodies = [];
  encoding = encoding;
  unit = 0;
  bases = record { addresses = record { section = []; base = 0; size = Four }; ranges = 0; locations = 0; low = 0 };
  scope = scopes.Unit;
  tag = tag;
  low = low;
}

abbrev value : (at size number : ℕ) → List ℕ → SpelledValue
value at size number block = record { at = at; size = size; number = number; block = block }

-- the line table and the first address of the unit
abbrev of_unit : EntrySteps
of_unit =
    Ok (changes (context 0x11 (Some 0)) OffsetSize (value 12 4 0 []) effects.LineTable)
    ∷ Ok (changes (context 0x11 (Some 0)) AddressSize (value 16 4 0 []) (effects.Number 0))
    ∷ []

-- nothing of the function and of what is below it; the location of the other variable
steps : steps_of_section Info tables [] [] (section 1)
    ≡ of_unit ++ (Ok (changes (context 0x34 None) CountedUnsigned (value 34 2 1 (0x9c ∷ [])) effects.Expression) ∷ [])
unfolding steps_of_units steps_of_entries spelled_unit unit_of_part next_entry spelled_attributes form_of_value value_parts effect_of integer many
steps = refl

-- an expression that is longer than the unit
steps_up_to_fault : steps_of_section Info tables [] [] (section 3) ≡ of_unit ++ (Err BadLength ∷ [])
unfolding steps_of_units steps_of_entries spelled_unit unit_of_part next_entry spelled_attributes form_of_value value_parts effect_of integer many
steps_up_to_fault = refl

-- ---- what they leave

abbrev table : (old new : ℕ) → Moved
table old new = record { old = old; new = new }

abbrev moved : List Moved → List SectionChange → EntriesMoved
moved lines changed = record {
  changes = changed;
  ranges = [];
  locations = [];
  code = [];
  keeps_code = false;
  told = [];
  longer = [];
  tables = lines;
  names_entries = false;
}

-- the line table at 0 goes to 7: the four bytes at 12 are replaced
after_unit : EntriesMoved
after_unit = moved (table 0 7 ∷ []) ((record { at = 12; old = 4; new = 7 ∷ 0 ∷ 0 ∷ 0 ∷ [] }) ∷ [])

taken : AreStepsTaken of_unit (moved (table 0 7 ∷ []) []) after_unit
unfolding after_unit
taken = (after_unit, (table 0 7, (λ order. refl), (lit< tt, (refl, lit≤ tt))), (after_unit, refl, refl))

-- no line table was at 0
not_taken : IsFaultOfSteps of_unit (moved (table 4 7 ∷ []) []) BadOffset
not_taken = inl (inl (refl, λ order. refl))
