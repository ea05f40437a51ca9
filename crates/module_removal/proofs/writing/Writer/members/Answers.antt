use Rattle.std.proofs.Common.{ℕ, List, refl, subst, ◌∙◌}
use Rattle.module_removal.specs.declared.writing.Writer.{Writer}
use Rattle.module_removal.specs.Written.{WritesType}
use Rattle.module_removal.specs.Refusals.{StopsAtType}
use Rattle.module_removal.proofs.RefusalLemmas.{stops_now}
use Rattle.module_removal.proofs.SeveralStepsLemmas.{no_step_made, one_more_step, all_steps_made}
use Rattle.module_removal.proofs.writing.Writer.members.Goals as goal

pub members-init : goal.members-init
members-init c =
    record { same_end = refl; steps = no_step_made (WritesType c.args.input.now.end) c.args.count (c.args.self.now, c.args.input.now.rest.now) }

pub members-preserved : goal.members-preserved
members-preserved c =
    let at = c.members in
    let old : Writer × List ℕ = (c.args.self.now, c.args.input.now.rest.now) in
    let now : Writer × List ℕ = (at.self, at.input.rest.now) in
    let new : Writer × List ℕ = (c.member.new.self, c.member.new.input.rest.now) in
    record {
      same_end = c.in-Ok.ensures.same_end ∙ at.invariant.same_end;
      steps =
          one_more_step (WritesType c.args.input.now.end) c.args.count at.counter old now new at.invariant.steps c.members-test.true
          (subst (λ (n : ℕ). WritesType n now new) at.invariant.same_end c.in-Ok.ensures.is);
    }

pub returns-clause-is : goal.returns-clause-is
returns-clause-is c =
    let at = c.members in
    all_steps_made (WritesType c.args.input.now.end) c.args.count at.counter (c.args.self.now, c.args.input.now.rest.now) (at.self, at.input.rest.now)
    at.invariant.steps c.members-test.false

pub returns-in-Err-clause-err : goal.returns-in-Err-clause-err
returns-in-Err-clause-err c =
    let at = c.members in
    let end = c.args.input.now.end in
    let now : Writer × List ℕ = (at.self, at.input.rest.now) in
    stops_now (WritesType end) (StopsAtType end) c.args.count at.counter (c.args.self.now, c.args.input.now.rest.now) now c.in-Err.error at.invariant.steps c.members-test.true
    (subst (λ (n : ℕ). StopsAtType n now c.in-Err.error) at.invariant.same_end c.in-Err.ensures.err)
