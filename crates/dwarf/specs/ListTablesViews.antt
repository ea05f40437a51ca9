-- Tables of lists as the code has them.
use Rattle.std.specs.Prelude.{ℕ}
use Rattle.dwarf_bytes.specs.Patches.{changes}
use Rattle.dwarf.specs.declared.list_tables.ListTable.{ListTable}
use Rattle.dwarf.specs.declared.list_tables.Offsets.{Offsets}
use Rattle.dwarf.specs.ListTables.{SpelledListTable, OffsetsOfTable}

abbrev pub list_table_of : ListTable → SpelledListTable
list_table_of t = record { format = t.format; start = t.start; contents = t.contents.rest.now; end = t.contents.end }

abbrev pub offsets_of : Offsets → (end : ℕ) → OffsetsOfTable
offsets_of o end = record { own = changes o.own.now; base = o.base; size = o.size; end = end }
