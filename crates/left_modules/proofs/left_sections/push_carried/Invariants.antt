use Rattle.std.proofs.Common.{◌≡◌, ℕ, List, ◌++◌}
use Rattle.left_modules.proofs.left_sections.push_carried.Given as goal

abbrev pub invariant-sections : goal.invariant-sections
invariant-sections l = (carried : List ℕ) × (l.out.items ≡ l.fn.out.items ++ carried)
