use Rattle.std.proofs.Common.{◌≡◌, List, [], ◌++◌}
use Rattle.location_pairs.specs.PackedPairs.{ArePackable, packed_pairs}
use Rattle.location_pairs.specs.PackedPieces.{HasLeft}
use Rattle.wasm_body.specs.Pairs.{Pair}
use Rattle.wasm_module.proofs.keeping_pairs.give_pairs.Given as goal

-- The sink took the pairs that aren't left.
abbrev pub invariant-left : goal.invariant-left
invariant-left g l =
    (ps : List Pair) → ArePackable ps → l.packed ≡ packed_pairs ps →
    (given rest : List Pair) × (given ++ rest ≡ ps) × HasLeft l.unpacker rest × g.S.ByteSink.takes l.fn.sink l.sink (record { bytes = []; pairs = given })

abbrev pub decreases-left : goal.decreases-left
decreases-left g l = l.unpacker.count
