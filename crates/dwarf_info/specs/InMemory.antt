-- Abbreviations as the code has them.
use Rattle.std.specs.Prelude.{◌≡◌, ℕ, List, ◌++◌, length, map, slice_range, Option, Some, None, option_map, MatchOption, Ok, ⊤}
use Rattle.std.specs.List.{AllByRecursion}
use Rattle.dwarf_info.specs.declared.abbreviations.Attribute.{Attribute}
use Rattle.dwarf_info.specs.declared.abbreviations.Abbreviation.{Abbreviation}
use Rattle.dwarf_info.specs.declared.abbreviations.Specification.{Specification}
use Rattle.dwarf_info.specs.declared.abbreviations.Specification.TheVariants as said
use Rattle.dwarf_info.specs.declared.abbreviations.Table.{Table}
use Rattle.dwarf_info.specs.Abbreviations.{Declaration, AbbreviationsAt, next_declaration, table_declarations}
use Rattle.dwarf_info.specs.Sound.{HasAttributes}

abbrev pub specification_of : Specification → Option (Option Attribute)
specification_of said.End = None
specification_of said.WithoutBytes = Some None
specification_of (said.Attribute a) = Some (Some a)

abbrev pub declaration_of : List Attribute → Abbreviation → Declaration
declaration_of attributes a =
    record { code = a.code; tag = a.tag; has_children = a.has_children; attributes = slice_range attributes a.first a.end }

abbrev pub table_in_memory : List Attribute → List Abbreviation → Table → AbbreviationsAt
table_in_memory attributes abbreviations t =
    record { offset = t.offset; declarations = map (declaration_of attributes) (slice_range abbreviations t.first t.end) }

-- A declaration is read from the bytes, after one with this code, and its attributes are added.
pub record ReadsDeclaration (last : ℕ) (bytes rest : List ℕ) (old new : List Attribute) (found : Option Abbreviation) : Type 0 where
  pub added : List Attribute
  pub new_is : new ≡ old ++ added
  pub within : MatchOption found ⊤ (HasAttributes (length new))
  pub reads : next_declaration last bytes ≡ Ok (option_map (declaration_of new) found, rest)

-- A table is read from the bytes, and its abbreviations and their attributes are added.
pub record ReadsDeclarations (bytes rest : List ℕ) (old new : List Abbreviation) (old_attributes new_attributes : List Attribute) : Type 0 where
  pub added : List Abbreviation
  pub new_is : new ≡ old ++ added
  pub added_attributes : List Attribute
  pub new_attributes_are : new_attributes ≡ old_attributes ++ added_attributes
  pub within : AllByRecursion (HasAttributes (length new_attributes)) added
  pub reads : table_declarations bytes ≡ Ok (map (declaration_of new_attributes) added, rest)
