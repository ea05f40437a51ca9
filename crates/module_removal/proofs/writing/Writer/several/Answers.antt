use Rattle.std.proofs.Common.{ℕ, List, refl, subst, ◌∙◌}
use Rattle.module_removal.specs.declared.writing.Writer.{Writer}
use Rattle.module_removal.specs.LeftSections.{WritesItem}
use Rattle.module_removal.specs.Refusals.{StopsAtItem}
use Rattle.module_removal.proofs.RefusalLemmas.{stops_now}
use Rattle.module_removal.proofs.SeveralStepsLemmas.{no_step_made, one_more_step, all_steps_made}
use Rattle.module_removal.proofs.writing.Writer.several.Goals as goal

pub items-init : goal.items-init
items-init c =
    record { same_end = refl; steps = no_step_made (WritesItem c.args.kind c.args.input.now.end) c.args.count (c.args.self.now, c.args.input.now.rest.now) }

pub items-preserved : goal.items-preserved
items-preserved c =
    let at = c.items in
    let old : Writer × List ℕ = (c.args.self.now, c.args.input.now.rest.now) in
    let now : Writer × List ℕ = (at.self, at.input.rest.now) in
    let new : Writer × List ℕ = (c.one.new.self, c.one.new.input.rest.now) in
    record {
      same_end = c.in-Ok.ensures.same_end ∙ at.invariant.same_end;
      steps =
          one_more_step (WritesItem c.args.kind c.args.input.now.end) c.args.count at.counter old now new at.invariant.steps c.items-test.true
          (subst (λ (n : ℕ). WritesItem c.args.kind n now new) at.invariant.same_end c.in-Ok.ensures.is);
    }

pub returns-clause-is : goal.returns-clause-is
returns-clause-is c =
    let at = c.items in
    all_steps_made (WritesItem c.args.kind c.args.input.now.end) c.args.count at.counter (c.args.self.now, c.args.input.now.rest.now) (at.self, at.input.rest.now)
    at.invariant.steps c.items-test.false

pub returns-in-Err-clause-err : goal.returns-in-Err-clause-err
returns-in-Err-clause-err c =
    let at = c.items in
    let end = c.args.input.now.end in
    let kind = c.args.kind in
    let now : Writer × List ℕ = (at.self, at.input.rest.now) in
    stops_now (WritesItem kind end) (StopsAtItem kind end) c.args.count at.counter (c.args.self.now, c.args.input.now.rest.now) now c.in-Err.error at.invariant.steps
    c.items-test.true (subst (λ (n : ℕ). StopsAtItem kind n now c.in-Err.error) at.invariant.same_end c.in-Err.ensures.err)
