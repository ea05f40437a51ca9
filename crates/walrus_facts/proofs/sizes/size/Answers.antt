use Rattle.std.proofs.lemmas.Result.{err_from_is_err_and}
use Rattle.walrus_facts.proofs.Counting.{size_counts, size_counted, not_counted}
use Rattle.walrus_facts.proofs.sizes.size.Goals as goal

pub returns-in_err-dfs_in_order-clause-err : goal.returns-in_err-dfs_in_order-clause-err
returns-in_err-dfs_in_order-clause-err c =
    let passed = err_from_is_err_and c.from_residual.result c.from_residual.ensures.1 in
    rw (passed.1, passed.2) (not_counted size_counts c.new-visitor.ensures c.in_err-dfs_in_order.ensures.err)

pub returns-clause-ok : goal.returns-clause-ok
returns-clause-ok c = size_counted c.new-visitor.ensures c.in_ok-dfs_in_order.ensures.ok
