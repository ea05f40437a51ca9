use Rattle.module_removal.specs.LeftSpaces.{index_written}
use Rattle.module_removal.specs.CopiedParts.{item_at}
use Rattle.module_removal.proofs.CopyLemmas.{first_named, first_unnamed}
use Rattle.module_removal.proofs.copier.Copier.first.Goals as goal

pub returns-in-Ok-clause-is : goal.returns-in-Ok-clause-is
returns-in-Ok-clause-is c =
    first_named (index_written c.args.self.now.left) (item_at c.args.space 0) c.args.input.now.end c.args.input.now.rest.now c.at.result c.args.self.now c.name.new.self c.in-Ok.field-0 c.at.ensures.place c.in-Ok.ensures

pub returns-in-Err-clause-is : goal.returns-in-Err-clause-is
returns-in-Err-clause-is c =
    first_unnamed (index_written c.args.self.now.left) (item_at c.args.space 0) c.args.input.now.end c.args.input.now.rest.now c.at.result c.in-Err.error c.at.ensures.place c.in-Err.ensures
