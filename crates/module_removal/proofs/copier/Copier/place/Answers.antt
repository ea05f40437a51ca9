use Rattle.std.proofs.Common.{Bool, Ok, ap}
use Rattle.module_removal.specs.LeftSpaces.{index_written}
use Rattle.module_removal.specs.CopiedParts.{nothing}
use Rattle.module_removal.specs.CopiedItems.{copied_place}
use Rattle.module_removal.proofs.CopyLemmas.{copies_as, copies_nothing}
use Rattle.module_removal.proofs.copier.Copier.place.Goals as goal

pub returns-else-is_active-clause-is : goal.returns-else-is_active-clause-is
returns-else-is_active-clause-is c =
    copies_as c.args.self.now c.args.self.now c.args.input.now.rest.now (Ok tt) (nothing c.args.input.now.end c.args.input.now.rest.now) (copied_place (index_written c.args.self.now.left) c.args.space c.args.is_active c.args.has_index c.args.input.now.end c.args.input.now.rest.now)
    (ap (λ (b : Bool). copied_place (index_written c.args.self.now.left) c.args.space b c.args.has_index c.args.input.now.end c.args.input.now.rest.now) c.if-is_active.false) (copies_nothing c.args.self.now c.args.input.now.end c.args.input.now.rest.now)
