-- Abbreviations of an index as the code has them.
use Rattle.std.specs.Prelude.{◌≡◌, ℕ, ◌++◌, List, length, map, slice_range, Option, Some, None, option_map, MatchOption, Ok, ⊤}
use Rattle.std.specs.List.{AllByRecursion}
use Rattle.dwarf.specs.declared.index_abbreviations.IndexAbbreviation.{IndexAbbreviation}
use Rattle.dwarf.specs.declared.index_abbreviations.IndexAttribute.{IndexAttribute}
use Rattle.dwarf.specs.declared.index_abbreviations.IndexSpecification.{IndexSpecification}
use Rattle.dwarf.specs.declared.index_abbreviations.IndexSpecification.TheVariants as said
use Rattle.dwarf.specs.IndexEntries.{IndexDeclaration, index_declaration, declarations_at_most}
use Rattle.dwarf.specs.IndexSound.{HasIndexAttributes}

abbrev pub index_specification_of : IndexSpecification → Option (Option IndexAttribute)
index_specification_of said.End = None
index_specification_of said.WithoutBytes = Some None
index_specification_of (said.Attribute a) = Some (Some a)

abbrev pub index_declaration_of : List IndexAttribute → IndexAbbreviation → IndexDeclaration
index_declaration_of attributes a = record { code = a.code; attributes = slice_range attributes a.first a.end }

-- A declaration is read from the bytes, and its attributes are added.
pub record ReadsIndexDeclaration (bytes rest : List ℕ) (old new : List IndexAttribute) (found : Option IndexAbbreviation) : Type 0 where
  pub added : List IndexAttribute
  pub new_is : new ≡ old ++ added
  pub within : MatchOption found ⊤ (HasIndexAttributes (length new))
  pub reads : index_declaration bytes ≡ Ok (option_map (index_declaration_of new) found, rest)

-- the declarations of a table
pub record ReadsIndexTable (bytes : List ℕ) (abbreviations : List IndexAbbreviation) (attributes : List IndexAttribute) : Type 0 where
  pub within : AllByRecursion (HasIndexAttributes (length attributes)) abbreviations
  pub reads : declarations_at_most (length bytes) bytes ≡ Ok (map (index_declaration_of attributes) abbreviations)
