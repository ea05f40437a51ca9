use Rattle.std.proofs.Common.{◌≡◌, ◌⊎◌}
use Rattle.walrus_rewrite.specs.declared.error.RewriteError.TheVariants.{Parse}
use Rattle.walrus_run.specs.Rewriting.{IsNormalBytes, IsRewrittenDemo, IsFaulty}
use Rattle.walrus_rewrite.specs.Errors.{IsOutOfMemory}
use Rattle.walrus_run.proofs.RewritingLemmas.{body_returned, body_not_refused, fault_not_written, fault_returned}
use Rattle.walrus_rewrite.proofs.SameResults.{if_ok, if_err, no_result}
use Rattle.walrus_run.proofs.rewriting.rewrite_demo.Goals as goal

pub returns-clause-each_body : goal.returns-clause-each_body
returns-clause-each_body c b accepted =
    let ops = c.args.ops.now in (
      if_err (λ e. IsOutOfMemory e ⊎ IsFaulty ops e) IsOutOfMemory (λ e. body_not_refused ops e b accepted) c.rewrite.result c.rewrite.ensures.err,
      if_ok (λ out. IsRewrittenDemo ops out.items) (λ out. IsNormalBytes b out.items) (λ out. body_returned ops out.items b accepted) c.rewrite.result c.rewrite.ensures.ok,
    )

pub returns-clause-each_fault : goal.returns-clause-each_fault
returns-clause-each_fault c f fault =
    let ops = c.args.ops.now in (
      no_result (λ out. IsRewrittenDemo ops out.items) (λ out. fault_not_written ops out.items f fault) c.rewrite.result c.rewrite.ensures.ok,
      if_err (λ e. IsOutOfMemory e ⊎ IsFaulty ops e) (λ e. IsOutOfMemory e ⊎ (e ≡ Parse f)) (λ e. fault_returned ops e f fault) c.rewrite.result c.rewrite.ensures.err,
    )
