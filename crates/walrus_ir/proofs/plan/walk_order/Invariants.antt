-- The walk goes on to the slots of the tasks; each task lowers the bound on the remaining steps.
use Rattle.std.proofs.Common.{◌+◌}
use Rattle.walrus_ir.specs.Planning.{agenda, work}
use Rattle.walrus_ir.proofs.Marks.{unreached}
use Rattle.walrus_ir.proofs.Planning.{HasReached}
use Rattle.walrus_ir.proofs.plan.walk_order.Given as goal

abbrev pub invariant-walk : goal.invariant-walk
invariant-walk l = HasReached l.builder.sequences l.fn.start l.plan.reached.items l.plan.order.items (agenda l.plan.tasks.items)

abbrev pub decreases-walk : goal.decreases-walk
decreases-walk l = unreached l.plan.reached.items l.builder.sequences + work l.plan.tasks.items
