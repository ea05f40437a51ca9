use Rattle.std.specs.Prelude.{◌≡◌, ◌&&◌, ℕ, not, length}
use Rattle.walrus_ir.specs.Unfolding.{among}
use Rattle.walrus_facts.specs.Marking.{is_marked}
use Rattle.walrus_flat.proofs.used_locals.clear_marks.Given as goal

-- The marks of those that are left are still to be taken away.
abbrev pub invariant-left : goal.invariant-left
invariant-left l = (x : ℕ) → (is_marked l.marks.items x && not (among x l.left)) ≡ (is_marked l.fn.marks.items x && not (among x l.ids))

abbrev pub decreases-left : goal.decreases-left
decreases-left l = length l.left
