use Rattle.module_removal.specs.CopiedItems.{copied_export}
use Rattle.module_removal.proofs.RefusalLemmas.{fault_under}
use Rattle.module_removal.proofs.writing.Writer.export.Goals as goal

pub returns-in-Err-clause-err : goal.returns-in-Err-clause-err
returns-in-Err-clause-err c =
    fault_under copied_export c.args.input.now.end c.args.input.now.rest.now c.clear.new.self.left c.args.self.now.kept.left c.in-Err.error c.clear.ensures.left
    c.in-Err.ensures.is
