-- The definitions for values of the code.
use Rattle.std.specs.Prelude.{List, map}
use Rattle.dwarf_info.specs.declared.abbreviations.Attribute.{Attribute}
use Rattle.dwarf_info.specs.declared.abbreviations.Abbreviation.{Abbreviation}
use Rattle.dwarf_info.specs.declared.abbreviations.Abbreviations.{Abbreviations}
use Rattle.dwarf_info.specs.declared.abbreviations.AbbreviationTable.{AbbreviationTable}
use Rattle.dwarf_info.specs.declared.form.Value.{Value}
use Rattle.dwarf_info.specs.Abbreviations.{Declaration, AbbreviationsAt}
use Rattle.dwarf_info.specs.InMemory.{declaration_of, table_in_memory}
use Rattle.dwarf_info.specs.Forms.{SpelledValue}

abbrev pub value_spelled : Value → SpelledValue
value_spelled v = record { at = v.at; size = v.size; number = v.number; block = v.block.now }

-- the tables of a section
abbrev pub tables_of : Abbreviations → List AbbreviationsAt
tables_of a = map (table_in_memory a.attributes.items a.abbreviations.items) a.tables.items

-- the declarations of a table
abbrev pub declarations_of : AbbreviationTable → List Declaration
declarations_of t = map (declaration_of t.attributes.now) t.abbreviations.now

abbrev pub declaration_with_attributes : Abbreviation → List Attribute → Declaration
declaration_with_attributes a attributes = record { code = a.code; tag = a.tag; has_children = a.has_children; attributes = attributes }
