-- Whatever later steps complete what is left complete the sequence.
use Rattle.std.proofs.Common.{length}
use Rattle.walrus_metering.proofs.Steps.{Completes}
use Rattle.walrus_metering.proofs.metering.edits_of.Given as goal

abbrev pub invariant-places : goal.invariant-places
invariant-places l = Completes l.fn.costs l.fn.charge l.fn.instrs l.edits.items l.goes_on l.left

abbrev pub decreases-places : goal.decreases-places
decreases-places l = length l.left
