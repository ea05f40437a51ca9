use Rattle.std.proofs.Common.{◌≤◌, length, arith}
use Rattle.walrus_ir.specs.Unfolding.{handlers}
use Rattle.walrus_ir.proofs.Handlers.{length-handlers-le}
use Rattle.walrus_ir.proofs.plan.count_inside.Goals as goal

pub overflow_add-result : goal.overflow_add-result
overflow_add-result c =
    let clauses = c.x.inside.catches in
    let few : length (handlers c.deref.result.now) ≤ length c.deref.result.now = length-handlers-le c.deref.result.now in
    omega (arith, few, c.deref.ensures.len, clauses.ok, clauses.small, c.count_handlers.ensures)
