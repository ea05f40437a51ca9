-- The sequences before the slot are metered.
use Rattle.std.proofs.Common.{◌≡◌}
use Rattle.walrus_metering.specs.MeteredInstructions.{metered_sequence}
use Rattle.walrus_metering.proofs.Slots.{changed_below}
use Rattle.walrus_metering.proofs.metering.meter.Given as goal

abbrev pub invariant-loop-slot : goal.invariant-loop-slot
invariant-loop-slot l =
    (l.builder.type ≡ l.fn.builder.type)
    × (l.builder.entry ≡ l.fn.builder.entry)
    × (l.builder.sequences ≡ changed_below (metered_sequence l.fn.costs l.fn.charge) l.slot l.fn.builder.sequences)
