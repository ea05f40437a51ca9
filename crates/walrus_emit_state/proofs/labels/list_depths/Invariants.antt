-- The listed depths come before those of the remaining labels.
use Rattle.std.proofs.Common.{◌≡◌, length}
use Rattle.wasm_numbers.specs.Results.{each}
use Rattle.walrus_emit_state.specs.TreeWriting.Closers.{places_of}
use Rattle.walrus_emit_state.specs.TreeWriting.ScopeTables.{depth_in}
use Rattle.walrus_maps.proofs.Listed.{after_these}
use Rattle.walrus_emit_state.proofs.labels.list_depths.Given as goal

abbrev pub invariant-places : goal.invariant-places
invariant-places l =
    let depth = depth_in (places_of l.scopes.open_scopes) in
    after_these l.depths.items (each depth l.left) ≡ each depth l.fn.places

abbrev pub decreases-places : goal.decreases-places
decreases-places l = length l.left
