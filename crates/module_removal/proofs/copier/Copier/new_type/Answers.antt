use Rattle.module_removal.specs.CopiedParts.{fault_with_place}
use Rattle.module_removal.specs.LeftSpaces.{index_written}
use Rattle.module_removal.proofs.ItemCopies.{puts_named_type, named_type_fails, puts_same_type, puts_unnamed_type}
use Rattle.module_removal.proofs.copier.Copier.new_type.Goals as goal

pub returns-in-Ok : goal.returns-in-Ok
returns-in-Ok c =
    puts_named_type (fault_with_place c.args.at) (index_written c.args.self.now.left) c.args.ty c.in-Ref.reference c.in-Concrete.index c.in-Ref.is c.in-Concrete.is
    c.with_index.result c.in-Ok.index c.args.self.now c.name.new.self c.with_index.ensures c.in-Ok.ensures

pub returns-in-Err : goal.returns-in-Err
returns-in-Err c =
    named_type_fails (fault_with_place c.args.at) (index_written c.args.self.now.left) c.args.ty c.in-Ref.reference c.in-Concrete.index c.in-Ref.is c.in-Concrete.is
    c.in-Err.error c.in-Err.ensures

pub returns-in_default : goal.returns-in_default
returns-in_default c = puts_same_type (fault_with_place c.args.at) (index_written c.args.self.now.left) c.args.ty c.args.self.now c.in_default.not-Ref

pub returns-in_default-heap_type : goal.returns-in_default-heap_type
returns-in_default-heap_type c =
    puts_unnamed_type (fault_with_place c.args.at) (index_written c.args.self.now.left) c.args.ty c.in-Ref.reference c.args.self.now c.in-Ref.is
    c.in_default-heap_type.not-Concrete
