use Rattle.walrus_ir.specs.Events.{refused}
use Rattle.std.proofs.lemmas.Result.{err_from_is_err_and}
use Rattle.walrus_ir.proofs.Visiting.{visits_after}
use Rattle.walrus_ir.proofs.walk.visit_with_names.Goals as goal

pub returns-in_err-visit_instr : goal.returns-in_err-visit_instr
returns-in_err-visit_instr g c =
    let refusal = c.in_err-visit_instr.ensures in
    let passed = err_from_is_err_and c.from_residual.result c.from_residual.ensures.1 in
    rw (passed.1, passed.2) (refused refusal.0 refusal.1)

pub returns : goal.returns
returns g c = visits_after _ _ _ _ _ _ _ _ _ c.in_ok-visit_instr.ensures c.visit_names.ensures
