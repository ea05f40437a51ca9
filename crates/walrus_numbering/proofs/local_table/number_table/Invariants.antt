-- The remaining entries are those of the map, and the table has numbers of the map alone.
use Rattle.std.proofs.Common.{◌≡◌, Some}
use Rattle.std.specs.List.{All}
use Rattle.walrus_numbering.specs.EmittedLocals.{number_in}
use Rattle.walrus_numbering.specs.NumberTables.{HasNumbers}
use Rattle.walrus_numbering.proofs.local_table.number_table.Given as goal

abbrev pub invariant-loop-id : goal.invariant-loop-id
invariant-loop-id l =
    (goal.iterator-loop-id).can_next l.id-iterator × (goal.iterator-loop-id).is_finite l.id-iterator
    × All (λ e. number_in l.numbers.entries e.0 ≡ Some e.1) l.id-iterator
    × HasNumbers l.numbers.entries l.table.items
