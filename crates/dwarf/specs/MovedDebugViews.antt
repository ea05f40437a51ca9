-- What becomes of the sections as the code has it.
use Rattle.code_moves.specs.declared.moves.Moves.{Moves}
use Rattle.dwarf_bytes.specs.Patches.{changes}
use Rattle.dwarf_info.specs.EntryViews.{entries_moved}
use Rattle.dwarf_info.specs.Views.{tables_of}
use Rattle.dwarf.specs.declared.moved_entries.AllEntries.{AllEntries}
use Rattle.dwarf.specs.declared.moved_lists.MovedLists.{MovedLists}
use Rattle.dwarf.specs.declared.sections.DebugSections.{DebugSections}
use Rattle.dwarf.specs.MovedDebug.{DebugSetting, EntriesOfModule, ListShifts}
use Rattle.dwarf.specs.Sections.{contents_by_name}

abbrev pub debug_setting : DebugSections → Moves → DebugSetting
debug_setting s moves = record { sections = contents_by_name s.sections.items; bodies = moves.bodies.items }

abbrev pub entries_of_module : AllEntries → EntriesOfModule
entries_of_module e = record { abbreviations = tables_of e.abbreviations; info = entries_moved e.info; types = entries_moved e.types }

abbrev pub list_shifts : MovedLists → ListShifts
list_shifts l = record {
  ranges = changes l.ranges;
  locations = changes l.locations;
  range_lists = changes l.range_lists;
  location_lists = changes l.location_lists;
}
