use Rattle.std.specs.Prelude.{◌≡◌, length}
use Rattle.walrus_maps.proofs.Listed.{after_these}
use Rattle.walrus_numbering.specs.EmittedLocals.{unnumbered}
use Rattle.walrus_numbering.specs.NumberTables.{entries_in}
use Rattle.walrus_numbering.proofs.listed_locals.listed_others.Given as goal

-- Those that were found, and those of the ids that are left, are all.
abbrev pub invariant-left : goal.invariant-left
invariant-left l =
    after_these l.others.items (unnumbered l.locals (entries_in l.table) l.left)
    ≡ unnumbered l.locals (entries_in l.table) l.used

abbrev pub decreases-left : goal.decreases-left
decreases-left l = length l.left
