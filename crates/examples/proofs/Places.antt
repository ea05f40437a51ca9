-- The pairs that `emit_instructions` appends to an empty list are those of a tree, so that their places increase.
use Rattle.std.proofs.Common.{ℕ, List, [], length, Some, sym, subst}
use Rattle.walrus_ir.specs.declared.seq.InstrSeq.{InstrSeq}
use Rattle.wasm_body.specs.Bytes.{Numbers}
use Rattle.wasm_body.specs.Pairs.{Pair}
use Rattle.wasm_body.proofs.Executions.Locations.{places_increase}
use Rattle.walrus_emitter.specs.TreeWriting.Trees.{Appends}
use Rattle.walrus_rewrite.specs.RewrittenBodies.{PlacesRise}

pub places_rise : (b : List InstrSeq) (entry : ℕ) (to : Numbers) (old new : List ℕ) (pairs : List Pair)
    → Appends b entry to old new (Some ([], pairs)) → PlacesRise pairs
places_rise b entry to old new pairs a =
    subst PlacesRise (sym a.appends_pairs) (places_increase to a.tree (length old) a.pairs a.pairs_are)
