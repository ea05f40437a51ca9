use Rattle.std.proofs.Common.{refl, ◌∙◌}
use Rattle.module_removal.specs.LeftSpaces.{index_written}
use Rattle.module_removal.proofs.OperatorCopies.{no_operators, one_more_operator, last_operator, operator_stops}
use Rattle.module_removal.proofs.copier.Copier.constant.Goals as goal

pub operators-init : goal.operators-init
operators-init c =
    record { same_end = refl; some = no_operators (index_written c.args.self.now.left) c.args.input.now.end c.args.input.now.rest.now c.args.self.now }

pub returns-in-Ok-true-clause-is : goal.returns-in-Ok-true-clause-is
returns-in-Ok-true-clause-is c =
    let at = c.operators in
    last_operator index_written c.args.input.now.end c.args.input.now.rest.now at.input.rest.now c.args.self.now at.self at.invariant.some at.input.end c.operator.new.self
    c.operator.new.input.rest.now c.in-Ok-true.field-0 at.invariant.same_end c.in-Ok-true.ensures.shorter c.in-Ok-true.field-0-test c.in-Ok-true.ensures.is

pub operators-preserved : goal.operators-preserved
operators-preserved c =
    let at = c.operators in
    record {
      same_end = c.in-Ok-false.ensures.same_end ∙ at.invariant.same_end;
      some =
          one_more_operator index_written c.args.input.now.end c.args.input.now.rest.now at.input.rest.now c.args.self.now at.self at.invariant.some at.input.end c.operator.new.self
          c.operator.new.input.rest.now c.in-Ok-false.field-0 at.invariant.same_end c.in-Ok-false.ensures.shorter c.in-Ok-false.field-0-test c.in-Ok-false.ensures.is;
    }

pub returns-in-Err-clause-is : goal.returns-in-Err-clause-is
returns-in-Err-clause-is c =
    let at = c.operators in
    operator_stops index_written c.args.input.now.end at.input.end c.args.input.now.rest.now at.input.rest.now c.args.self.now at.self c.in-Err.error
    at.invariant.some at.invariant.same_end c.in-Err.ensures.is
