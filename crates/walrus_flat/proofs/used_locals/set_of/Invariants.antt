-- Those in the new set and those that are left are all.
use Rattle.std.specs.Prelude.{◌≡◌, ◌||◌, ℕ}
use Rattle.walrus_ir.specs.Unfolding.{among}
use Rattle.walrus_flat.proofs.used_locals.set_of.Given as goal

abbrev pub invariant-loop-id : goal.invariant-loop-id
invariant-loop-id l =
    (goal.iterator-loop-id).can_next l.id-iterator × (goal.iterator-loop-id).is_finite l.id-iterator
    × ((x : ℕ) → (among x l.all.keys || among x l.id-iterator) ≡ among x l.locals.keys)
