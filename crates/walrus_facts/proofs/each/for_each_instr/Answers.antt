use Rattle.std.proofs.lemmas.Result.{err_from_is_err_and}
use Rattle.walrus_facts.proofs.Visits.{each_visited, none_visited}
use Rattle.walrus_facts.proofs.each.for_each_instr.Goals as goal

pub returns-in_err-dfs_in_order-clause-err : goal.returns-in_err-dfs_in_order-clause-err
returns-in_err-dfs_in_order-clause-err g c =
    let passed = err_from_is_err_and c.from_residual.result c.from_residual.ensures.1 in
    rw (passed.1, passed.2) (none_visited g.V.VisitInstr.visits c.in_err-dfs_in_order.ensures.err)

pub returns-clause-ok : goal.returns-clause-ok
returns-clause-ok g c = rw c.visiting.view_is (each_visited g.V.VisitInstr.visits c.in_ok-dfs_in_order.ensures.ok)
