use Rattle.std.proofs.lemmas.Result.{err_from_is_err_and}
use Rattle.walrus_facts.specs.declared.marking.MarkingVisitor.{MarkingVisitor}
use Rattle.walrus_facts.proofs.Counting.{not_counted}
use Rattle.walrus_facts.proofs.Gathering.{facts_count, gathered}
use Rattle.walrus_facts.proofs.marking.walked_facts.Goals as goal

pub returns-in_err-dfs_in_order-clause-err : goal.returns-in_err-dfs_in_order-clause-err
returns-in_err-dfs_in_order-clause-err c =
    let passed = err_from_is_err_and c.from_residual.result c.from_residual.ensures.1 in
    rw (passed.1, passed.2) (not_counted (facts_count (λ (v : MarkingVisitor). v.inner)) c.new.ensures.size c.in_err-dfs_in_order.ensures.err)

pub returns-clause-ok : goal.returns-clause-ok
returns-clause-ok c =
    let new = c.new.ensures in
    gathered (λ (v : MarkingVisitor). v.inner) new.size new.uses_data_segments new.ref_funcs new.used_locals c.in_ok-dfs_in_order.ensures.ok
