use Rattle.module_removal.specs.CopiedParts.{copied_value, copied_vector}
use Rattle.module_removal.proofs.CopyLemmas.{then_copies, first_stops}
use Rattle.module_removal.proofs.copier.Copier.function_type.Goals as goal

pub returns-clause-is : goal.returns-clause-is
returns-clause-is c =
    then_copies (λ w. copied_vector (copied_value w)) (λ w u. copied_vector (copied_value w)) c.args.input.now.end c.args.input.now.rest.now c.args.self.now tt c.vector.new.self c.vector.new.input.end c.vector.new.input.rest.now c.in-Ok.ensures.is c.in-Ok.ensures.same_end
    c.vector-2.new.self c.vector-2.new.input.rest.now c.vector-2.result
    (c.vector-2.ensures.is)

pub returns-in-Err-clause-is : goal.returns-in-Err-clause-is
returns-in-Err-clause-is c =
    first_stops (λ w. copied_vector (copied_value w)) (λ w u. copied_vector (copied_value w)) c.args.input.now.end c.args.input.now.rest.now c.args.self.now c.in-Err.error c.in-Err.ensures.is
