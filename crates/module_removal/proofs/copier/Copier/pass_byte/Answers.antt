use Rattle.module_removal.specs.CopiedParts.{copied_byte}
use Rattle.module_removal.proofs.CopyLemmas.{value_copies, value_fails}
use Rattle.module_removal.proofs.copier.Copier.pass_byte.Goals as goal

pub returns-clause-is : goal.returns-clause-is
returns-clause-is c =
    value_copies (λ b. tt) copied_byte c.args.input.now.end c.args.input.now.rest.now c.args.self.now c.byte.new.self c.byte.new.input.rest.now c.in-Ok.value c.in-Ok.ensures.is

pub returns-in-Err-clause-is : goal.returns-in-Err-clause-is
returns-in-Err-clause-is c =
    value_fails (λ b. tt) copied_byte c.args.input.now.end c.args.input.now.rest.now c.args.self.now c.byte.new.self c.byte.new.input.rest.now c.in-Err.error c.in-Err.ensures.is
