use Rattle.std.proofs.Common.{◌≡◌, drop, None}
use Rattle.dwarf_bytes.specs.Patches.{changes}
use Rattle.dwarf_bytes.specs.Uses.{told, lengthened}
use Rattle.dwarf.specs.PlacedListsViews.{lists_setting, lists_moved}
use Rattle.dwarf.proofs.PlacedLemmas.{ListsLeft}
use Rattle.dwarf.proofs.lists.ListSection.move_lists.Given as goal

abbrev pub invariant-each : goal.invariant-each
invariant-each l =
    ListsLeft (lists_setting l.self l.moves) l.lists (record { last = None; end = 0; changes = changes l.fn.patches; told = told l.fn.uses }) (drop l.list-index l.lists) (lists_moved l.last l.patches l.uses)
    × (lengthened l.uses ≡ lengthened l.fn.uses)
