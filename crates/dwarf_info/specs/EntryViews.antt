-- Entries, and what is left of them, as the code has them.
use Rattle.std.specs.Prelude.{List, map}
use Rattle.dwarf_bytes.specs.Patches as patches
use Rattle.dwarf_bytes.specs.Uses.{told, lengthened}
use Rattle.dwarf_info.specs.declared.abbreviations.Abbreviation.{Abbreviation}
use Rattle.dwarf_info.specs.declared.entries.UnitContext.{UnitContext}
use Rattle.dwarf_info.specs.declared.moved.MovedEntries.{MovedEntries}
use Rattle.dwarf_info.specs.declared.values.AttributeValue.{AttributeValue}
use Rattle.dwarf_info.specs.Entries.{SpelledAttribute, SpelledEntry}
use Rattle.dwarf_info.specs.Steps.{UnitSetting}
use Rattle.dwarf_info.specs.Taken.{EntriesMoved}
use Rattle.dwarf_info.specs.UnitViews.{unit_of}
use Rattle.dwarf_info.specs.Views.{value_spelled}

abbrev pub attribute_spelled : AttributeValue → SpelledAttribute
attribute_spelled a = record { meaning = a.meaning; form = a.form; value = value_spelled a.value }

abbrev pub entry_spelled : List AttributeValue → Abbreviation → SpelledEntry
entry_spelled values a = record { tag = a.tag; has_children = a.has_children; attributes = map attribute_spelled values }

abbrev pub unit_setting : UnitContext → UnitSetting
unit_setting c = record { bodies = c.moves.now.bodies.items; addresses = c.addresses.now; unit = unit_of c.unit }

abbrev pub entries_moved : MovedEntries → EntriesMoved
entries_moved m = record {
  changes = patches.changes m.patches;
  ranges = m.ranges.items;
  locations = m.locations.items;
  code = m.code.items;
  keeps_code = m.keeps_code;
  told = told m.addresses;
  longer = lengthened m.addresses;
  tables = m.tables.now;
  names_entries = m.names_entries;
}
