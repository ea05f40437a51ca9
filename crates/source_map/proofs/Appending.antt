-- Appending one text after another.
use Rattle.std.proofs.Common.{◌≡◌, ℕ, zero, suc, ◌+◌, ◌-◌, ◌/◌, ◌%◌, ◌<◌, cond, ltb, List, [], ◌∷◌, ◌++◌, refl, append_assoc, arith}
use Rattle.std.proofs.lemmas.List.{append-nil}
use Rattle.source_map.specs.Shortest.{digit, shortest_digits}

pub short_more : (more n : ℕ) → 0 < more → shortest_digits more n ≡ cond (ltb n 32) (digit n ∷ []) (digit (n % 32 + 32) ∷ shortest_digits (more - 1) (n / 32))
unfolding shortest_digits
short_more zero n h = absurd (omega arith)
short_more (suc more) n h = let k : suc more - 1 ≡ more = omega arith in rw k refl

pub ruleset appending = (short_more, append_assoc, append-nil)
