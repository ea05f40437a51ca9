-- The locals found so far come before those found among the remaining ids.
use Rattle.std.proofs.Common.{◌≡◌}
use Rattle.walrus_numbering.specs.EmittedLocals.{unnumbered}
use Rattle.walrus_maps.proofs.Listed.{after_these}
use Rattle.walrus_numbering.proofs.local_numbers.used_others.Given as goal

abbrev pub invariant-loop-id : goal.invariant-loop-id
invariant-loop-id l =
    (goal.iterator-loop-id).can_next l.id-iterator × (goal.iterator-loop-id).is_finite l.id-iterator
    × (after_these l.others.items (unnumbered l.locals l.numbers.entries l.id-iterator) ≡ unnumbered l.locals l.numbers.entries l.used.keys)
