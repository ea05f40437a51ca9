-- Entries as the code has them.
use Rattle.dwarf_lists.specs.declared.entry.Entry.{Entry}
use Rattle.dwarf_lists.specs.declared.entry.Entry.TheVariants.{End, Base, Range}
use Rattle.dwarf_lists.specs.Entries.{Entry as AnEntry, end, base, range}

abbrev pub list_entry_of : Entry → AnEntry
list_entry_of End = end
list_entry_of (Base address) = base address
list_entry_of (Range low high expression) = range low high expression.now
