use Rattle.std.proofs.lemmas.Result.{err_from_is_err_and}
use Rattle.walrus_facts.proofs.Collecting.{collected, not_collected}
use Rattle.walrus_facts.proofs.segments.used_data_segments.Goals as goal

pub returns-in_err-dfs_in_order-clause-err : goal.returns-in_err-dfs_in_order-clause-err
returns-in_err-dfs_in_order-clause-err c =
    let passed = err_from_is_err_and c.from_residual.result c.from_residual.ensures.1 in
    rw (passed.1, passed.2) (not_collected c.in_err-dfs_in_order.ensures.err)

pub returns-clause-ok : goal.returns-clause-ok
returns-clause-ok c = collected c.new-visitor.ensures c.in_ok-dfs_in_order.ensures.ok
