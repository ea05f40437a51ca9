use Rattle.std.proofs.Common.{nat_le}
use Rattle.module_removal.specs.CopiedItems.{copied_element_type, copied_elements}
use Rattle.module_removal.proofs.CopyLemmas.{then_copies, first_stops}
use Rattle.module_removal.proofs.copier.Copier.typed_elements.Goals as goal

pub returns-clause-is : goal.returns-clause-is
returns-clause-is c =
    then_copies (λ w. copied_element_type w c.args.flags) (λ w u. copied_elements w (nat_le 4 c.args.flags)) c.args.input.now.end c.args.input.now.rest.now c.args.self.now tt c.element_type.new.self c.element_type.new.input.end c.element_type.new.input.rest.now c.in-Ok.ensures.is c.in-Ok.ensures.same_end
    c.elements.new.self c.elements.new.input.rest.now c.elements.result
    (c.elements.ensures.is)

pub returns-in-Err-clause-is : goal.returns-in-Err-clause-is
returns-in-Err-clause-is c =
    first_stops (λ w. copied_element_type w c.args.flags) (λ w u. copied_elements w (nat_le 4 c.args.flags)) c.args.input.now.end c.args.input.now.rest.now c.args.self.now c.in-Err.error c.in-Err.ensures.is
