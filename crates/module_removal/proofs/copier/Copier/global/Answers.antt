use Rattle.module_removal.specs.CopiedConstants.{copied_constant}
use Rattle.module_removal.specs.CopiedItems.{copied_global_type}
use Rattle.module_removal.proofs.CopyLemmas.{then_copies, first_stops}
use Rattle.module_removal.proofs.copier.Copier.global.Goals as goal

pub returns-clause-is : goal.returns-clause-is
returns-clause-is c =
    then_copies (copied_global_type) (λ w u. copied_constant w) c.args.input.now.end c.args.input.now.rest.now c.args.self.now tt c.global_type.new.self c.global_type.new.input.end c.global_type.new.input.rest.now c.in-Ok.ensures.is c.in-Ok.ensures.same_end
    c.constant.new.self c.constant.new.input.rest.now c.constant.result
    (c.constant.ensures.is)

pub returns-in-Err-clause-is : goal.returns-in-Err-clause-is
returns-in-Err-clause-is c =
    first_stops (copied_global_type) (λ w u. copied_constant w) c.args.input.now.end c.args.input.now.rest.now c.args.self.now c.in-Err.error c.in-Err.ensures.is
