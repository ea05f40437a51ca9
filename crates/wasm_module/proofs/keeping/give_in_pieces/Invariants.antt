use Rattle.std.proofs.Common.{◌≡◌, ℕ, List, [], ◌++◌, length}
use Rattle.wasm_module.proofs.keeping.give_in_pieces.Given as goal

-- The sink took what isn't left.
abbrev pub invariant-left : goal.invariant-left
invariant-left g l = (given : List ℕ) × (given ++ l.left ≡ l.bytes) × g.S.ByteSink.takes l.fn.sink l.sink (record { bytes = given; pairs = [] })

abbrev pub decreases-left : goal.decreases-left
decreases-left g l = length l.left
