use Rattle.module_removal.specs.CopiedParts.{fault_with_place}
use Rattle.module_removal.proofs.ItemCopies.{puts_name}
use Rattle.module_removal.proofs.copier.Copier.name.Goals as goal

pub returns-in-Ok : goal.returns-in-Ok
returns-in-Ok c =
    puts_name (fault_with_place c.args.at) c.args.item c.args.self.now c.find.new.self c.new_index.result c.in-Ok.ensures.ok c.new_index.ensures
