use Rattle.module_removal.specs.CopiedItems.{copied_supertypes, copied_composite}
use Rattle.module_removal.proofs.CopyLemmas.{then_copies, first_stops}
use Rattle.module_removal.proofs.copier.Copier.derived.Goals as goal

pub returns-clause-is : goal.returns-clause-is
returns-clause-is c =
    then_copies (copied_supertypes) (λ w u. copied_composite w) c.args.input.now.end c.args.input.now.rest.now c.args.self.now tt c.supertypes.new.self c.supertypes.new.input.end c.supertypes.new.input.rest.now c.in-Ok.ensures.is c.in-Ok.ensures.same_end
    c.composite.new.self c.composite.new.input.rest.now c.composite.result
    (c.composite.ensures.is)

pub returns-in-Err-clause-is : goal.returns-in-Err-clause-is
returns-in-Err-clause-is c =
    first_stops (copied_supertypes) (λ w u. copied_composite w) c.args.input.now.end c.args.input.now.rest.now c.args.self.now c.in-Err.error c.in-Err.ensures.is
