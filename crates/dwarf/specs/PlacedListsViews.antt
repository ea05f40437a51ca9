-- Lists of a section as the code has them.
use Rattle.code_moves.specs.declared.moves.Moves.{Moves}
use Rattle.dwarf_bytes.specs.Patches.{changes}
use Rattle.dwarf_bytes.specs.Uses.{told}
use Rattle.dwarf_bytes.specs.declared.addresses.AddressUses.{AddressUses}
use Rattle.dwarf_bytes.specs.declared.patches.Patches.{Patches}
use Rattle.dwarf.specs.declared.lists.LastList.{LastList}
use Rattle.dwarf.specs.declared.lists.ListSection.{ListSection}
use Rattle.dwarf.specs.PlacedLists.{ListsSetting, ListsMoved}

abbrev pub lists_setting : ListSection → Moves → ListsSetting
lists_setting s moves = record { kind = s.kind; section = s.contents.now; addresses = s.addresses.now; bodies = moves.bodies.items }

abbrev pub lists_moved : LastList → Patches → AddressUses → ListsMoved
lists_moved last patches uses = record { last = last.list; end = last.end; changes = changes patches; told = told uses }
