use Rattle.std.proofs.Common.{◌≡◌, count_by, rules, sym, ◌∙◌}
use Rattle.walrus_ir.proofs.Handlers.{has_handler, length-handlers}
use Rattle.walrus_ir.proofs.plan.count_handlers.Goals as goal

pub returns : goal.returns
returns c =
    let counted : c.count.result ≡ count_by has_handler c.args.clauses.now = search rules in
    counted ∙ sym (length-handlers c.args.clauses.now)
