-- The set has the marked locals that are less than the next id.
use Rattle.std.specs.Prelude.{◌≡◌, ◌==◌, ℕ}
use Rattle.std.specs.HashSet.{contains}
use Rattle.walrus_facts.proofs.Scans.{marked_below}
use Rattle.walrus_facts.proofs.scanning.marked_set.Given as goal

abbrev pub invariant-loop-id : goal.invariant-loop-id
invariant-loop-id l = (x : ℕ) → contains (λ x y. x == y) l.set x ≡ marked_below l.marks l.id x
