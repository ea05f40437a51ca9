use Rattle.module_removal.specs.CopiedItems.{copied_composite_kind, copied_composite_after}
use Rattle.module_removal.proofs.CopyLemmas.{then_copies, first_stops}
use Rattle.module_removal.proofs.copier.Copier.composite.Goals as goal

pub returns-clause-is : goal.returns-clause-is
returns-clause-is c =
    then_copies (λ w. copied_composite_kind) copied_composite_after c.args.input.now.end c.args.input.now.rest.now c.args.self.now c.in-Ok.value c.composite_kind.new.self
    c.composite_kind.new.input.end c.composite_kind.new.input.rest.now c.in-Ok.ensures.is c.in-Ok.ensures.same_end
    c.composite_after.new.self c.composite_after.new.input.rest.now c.composite_after.result c.composite_after.ensures.is

pub returns-in-Err-clause-is : goal.returns-in-Err-clause-is
returns-in-Err-clause-is c =
    first_stops (λ w. copied_composite_kind) copied_composite_after c.args.input.now.end c.args.input.now.rest.now c.args.self.now c.in-Err.error c.in-Err.ensures.is
