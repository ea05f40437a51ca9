use Rattle.module_removal.specs.CopiedParts.{copied_number, times}
use Rattle.module_removal.specs.CopiedItems.{copied_one}
use Rattle.module_removal.proofs.CopyLemmas.{then_copies, first_stops}
use Rattle.module_removal.proofs.copier.Copier.vector.Goals as goal

pub returns-clause-is : goal.returns-clause-is
returns-clause-is c =
    then_copies (λ w. copied_number) (λ w. times (copied_one w c.args.of)) c.args.input.now.end c.args.input.now.rest.now c.args.self.now c.in-Ok.value c.number.new.self c.number.new.input.end c.number.new.input.rest.now c.in-Ok.ensures.is c.in-Ok.ensures.same_end
    c.several.new.self c.several.new.input.rest.now c.several.result
    (c.several.ensures.is)

pub returns-in-Err-clause-is : goal.returns-in-Err-clause-is
returns-in-Err-clause-is c =
    first_stops (λ w. copied_number) (λ w. times (copied_one w c.args.of)) c.args.input.now.end c.args.input.now.rest.now c.args.self.now c.in-Err.error c.in-Err.ensures.is
