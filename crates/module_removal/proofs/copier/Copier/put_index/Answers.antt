use Rattle.module_removal.specs.CopiedParts.{fault_with_place}
use Rattle.module_removal.specs.LeftSpaces.{index_written}
use Rattle.module_removal.proofs.ItemCopies.{puts_item, item_fails}
use Rattle.module_removal.proofs.copier.Copier.put_index.Goals as goal

pub returns-in-Ok : goal.returns-in-Ok
returns-in-Ok c =
    puts_item (fault_with_place c.args.at) (index_written c.args.self.now.left) c.args.item c.in-Ok.index c.args.self.now c.name.new.self c.put_number.new.self c.put_number.result c.in-Ok.ensures c.put_number.ensures.ok c.put_number.ensures.err

pub returns-in-Err : goal.returns-in-Err
returns-in-Err c =
    item_fails (fault_with_place c.args.at) (index_written c.args.self.now.left) c.args.item c.in-Err.error c.in-Err.ensures
