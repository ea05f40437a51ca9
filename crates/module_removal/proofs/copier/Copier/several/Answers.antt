use Rattle.std.proofs.Common.{refl, ◌∙◌}
use Rattle.module_removal.specs.LeftSpaces.{index_written}
use Rattle.module_removal.specs.CopiedItems.{copied_one}
use Rattle.module_removal.proofs.CopyLemmas.{none_copied, one_more_copied, one_stops, all_copied}
use Rattle.module_removal.proofs.copier.Copier.several.Goals as goal

pub items-init : goal.items-init
items-init c =
    record { same_end = refl; some = none_copied (copied_one (index_written c.args.self.now.left) c.args.of) c.args.count c.args.input.now.end c.args.input.now.rest.now c.args.self.now }

pub items-preserved : goal.items-preserved
items-preserved c =
    let at = c.items in
    record {
      same_end = c.in-Ok.ensures.same_end ∙ at.invariant.same_end;
      some =
          one_more_copied (λ w. copied_one w c.args.of) c.args.count at.counter c.args.input.now.end c.args.input.now.rest.now at.input.rest.now c.args.self.now at.self at.invariant.some
          at.input.end c.one.new.self c.one.new.input.rest.now c.items-test.true at.invariant.same_end c.in-Ok.ensures.is;
    }

pub returns-in-Err-clause-is : goal.returns-in-Err-clause-is
returns-in-Err-clause-is c =
    let at = c.items in
    one_stops (λ w. copied_one w c.args.of) c.args.count at.counter c.args.input.now.end c.args.input.now.rest.now at.input.rest.now c.args.self.now at.self at.invariant.some
    at.input.end c.in-Err.error c.items-test.true at.invariant.same_end c.in-Err.ensures.is

pub returns-clause-is : goal.returns-clause-is
returns-clause-is c =
    let at = c.items in
    all_copied (λ w. copied_one w c.args.of) c.args.count at.counter c.args.input.now.end c.args.input.now.rest.now at.input.rest.now c.args.self.now at.self at.invariant.some c.items-test.false
