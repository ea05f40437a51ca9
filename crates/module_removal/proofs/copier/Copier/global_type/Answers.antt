use Rattle.module_removal.specs.CopiedParts.{copied_value}
use Rattle.module_removal.specs.CopiedItems.{passed_byte}
use Rattle.module_removal.proofs.CopyLemmas.{then_copies, first_stops}
use Rattle.module_removal.proofs.copier.Copier.global_type.Goals as goal

pub returns-clause-is : goal.returns-clause-is
returns-clause-is c =
    then_copies (copied_value) (λ w u. passed_byte) c.args.input.now.end c.args.input.now.rest.now c.args.self.now tt c.value_type.new.self c.value_type.new.input.end c.value_type.new.input.rest.now c.in-Ok.ensures.is c.in-Ok.ensures.same_end
    c.pass_byte.new.self c.pass_byte.new.input.rest.now c.pass_byte.result
    (c.pass_byte.ensures.is)

pub returns-in-Err-clause-is : goal.returns-in-Err-clause-is
returns-in-Err-clause-is c =
    first_stops (copied_value) (λ w u. passed_byte) c.args.input.now.end c.args.input.now.rest.now c.args.self.now c.in-Err.error c.in-Err.ensures.is
