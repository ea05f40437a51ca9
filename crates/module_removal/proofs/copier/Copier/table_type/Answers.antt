use Rattle.module_removal.specs.CopiedParts.{copied_value, copied_limits}
use Rattle.module_removal.proofs.CopyLemmas.{then_copies, first_stops}
use Rattle.module_removal.proofs.copier.Copier.table_type.Goals as goal

pub returns-clause-is : goal.returns-clause-is
returns-clause-is c =
    then_copies (copied_value) (λ w u. copied_limits) c.args.input.now.end c.args.input.now.rest.now c.args.self.now tt c.value_type.new.self c.value_type.new.input.end c.value_type.new.input.rest.now c.in-Ok.ensures.is c.in-Ok.ensures.same_end
    c.limits.new.self c.limits.new.input.rest.now c.limits.result
    (c.limits.ensures.is)

pub returns-in-Err-clause-is : goal.returns-in-Err-clause-is
returns-in-Err-clause-is c =
    first_stops (copied_value) (λ w u. copied_limits) c.args.input.now.end c.args.input.now.rest.now c.args.self.now c.in-Err.error c.in-Err.ensures.is
