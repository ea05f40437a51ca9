use Rattle.module_removal.specs.CopiedParts.{copied_number, copied_value}
use Rattle.module_removal.proofs.CopyLemmas.{then_copies, first_stops}
use Rattle.module_removal.proofs.copier.Copier.run.Goals as goal

pub returns-clause-is : goal.returns-clause-is
returns-clause-is c =
    then_copies (λ w. copied_number) (λ w n. copied_value w) c.args.input.now.end c.args.input.now.rest.now c.args.self.now c.in-Ok.value c.number.new.self c.number.new.input.end c.number.new.input.rest.now c.in-Ok.ensures.is c.in-Ok.ensures.same_end
    c.value_type.new.self c.value_type.new.input.rest.now c.value_type.result
    (c.value_type.ensures.is)

pub returns-in-Err-clause-is : goal.returns-in-Err-clause-is
returns-in-Err-clause-is c =
    first_stops (λ w. copied_number) (λ w n. copied_value w) c.args.input.now.end c.args.input.now.rest.now c.args.self.now c.in-Err.error c.in-Err.ensures.is
