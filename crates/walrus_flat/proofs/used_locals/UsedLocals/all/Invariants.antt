use Rattle.std.specs.Prelude.{◌≡◌, ◌||◌, ℕ, length}
use Rattle.walrus_ir.specs.Unfolding.{among}
use Rattle.walrus_flat.specs.UsedLocals.{has_local, is_used}
use Rattle.walrus_flat.proofs.used_locals.UsedLocals.all.Given as goal

-- Those in the set and those that are left are all.
abbrev pub invariant-left : goal.invariant-left
invariant-left l = (x : ℕ) → (has_local l.all x || among x l.left) ≡ is_used l.self x

abbrev pub decreases-left : goal.decreases-left
decreases-left l = length l.left
