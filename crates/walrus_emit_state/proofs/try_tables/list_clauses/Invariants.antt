-- The listed clauses come before the remaining ones.
use Rattle.std.proofs.Common.{◌≡◌, length}
use Rattle.wasm_numbers.specs.Results.{each}
use Rattle.walrus_emit_state.specs.TreeWriting.Closers.{places_of}
use Rattle.walrus_numbering.specs.NumberMaps.{numbers_of}
use Rattle.walrus_emit_state.specs.TreeWriting.Labels.{numbered_clause}
use Rattle.walrus_maps.proofs.Listed.{after_these}
use Rattle.walrus_emit_state.proofs.try_tables.list_clauses.Given as goal

abbrev pub invariant-catches : goal.invariant-catches
invariant-catches l =
    let numbered = numbered_clause (numbers_of l.numbers) (places_of l.scopes.open_scopes) in
    after_these l.clauses.items (each numbered l.left) ≡ each numbered l.fn.catches

abbrev pub decreases-catches : goal.decreases-catches
decreases-catches l = length l.left
