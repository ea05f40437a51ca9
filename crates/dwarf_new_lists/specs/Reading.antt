-- Entries as the code has them.
use Rattle.std.specs.Prelude.{option_map}
use Rattle.dwarf_new_lists.specs.declared.entry.Entry.{Entry}
use Rattle.dwarf_new_lists.specs.Entries.{AnEntry}

abbrev pub new_list_entry_of : Entry → AnEntry
new_list_entry_of e = record { kind = e.kind; one = e.one.value; two = e.two.value; expression = option_map (λ x. x.bytes.now) e.expression }
