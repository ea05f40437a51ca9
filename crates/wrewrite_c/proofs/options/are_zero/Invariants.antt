-- The words so far are 0, from this one on.
use Rattle.std.proofs.Common.{◌≡◌, ◌≤◌, ◌<◌, ℕ, get_or}
use Rattle.wrewrite_c.proofs.options.are_zero.Given as goal

abbrev pub invariant-loop-at : goal.invariant-loop-at
invariant-loop-at l = (place : ℕ) → l.from ≤ place → place < l.at → get_or l.words place 0 ≡ 0
