use Rattle.module_removal.specs.CopiedConstants.{copied_constant}
use Rattle.module_removal.specs.CopiedItems.{copied_target}
use Rattle.module_removal.proofs.CopyLemmas.{then_copies, first_stops}
use Rattle.module_removal.proofs.copier.Copier.active.Goals as goal

pub returns-clause-is : goal.returns-clause-is
returns-clause-is c =
    then_copies (λ w. copied_target w c.args.space c.args.has_index) (λ w u. copied_constant w) c.args.input.now.end c.args.input.now.rest.now c.args.self.now tt c.target.new.self c.target.new.input.end c.target.new.input.rest.now c.in-Ok.ensures.is c.in-Ok.ensures.same_end
    c.constant.new.self c.constant.new.input.rest.now c.constant.result
    (c.constant.ensures.is)

pub returns-in-Err-clause-is : goal.returns-in-Err-clause-is
returns-in-Err-clause-is c =
    first_stops (λ w. copied_target w c.args.space c.args.has_index) (λ w u. copied_constant w) c.args.input.now.end c.args.input.now.rest.now c.args.self.now c.in-Err.error c.in-Err.ensures.is
