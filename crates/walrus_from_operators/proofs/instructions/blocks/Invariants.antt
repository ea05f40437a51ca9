-- The listed sequences come before those of the remaining labels.
use Rattle.std.proofs.Common.{◌≡◌}
use Rattle.wasm_numbers.specs.Results.{each}
use Rattle.walrus_context.specs.Placing.{place_at}
use Rattle.walrus_maps.proofs.Listed.{after_these}
use Rattle.walrus_from_operators.proofs.instructions.blocks.Given as goal

abbrev pub invariant-targets : goal.invariant-targets
invariant-targets l =
    (goal.iterator-targets).can_next l.targets × (goal.iterator-targets).is_finite l.targets × (after_these l.blocks.items (each (place_at l.context.frames) l.targets) ≡ each (place_at l.context.frames) l.table.0)
