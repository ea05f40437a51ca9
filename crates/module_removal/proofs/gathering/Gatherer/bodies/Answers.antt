use Rattle.std.proofs.Common.{◌∙◌, arith}
use Rattle.module_removal.proofs.GatherStepLemmas.{no_body, one_more_body, all_bodies}
use Rattle.module_removal.proofs.gathering.Gatherer.bodies.Goals as goal

pub bodies-init : goal.bodies-init
bodies-init c = record {
  same_end = c.number.ensures.same_end;
  gathers = λ none. no_body c.args.contents.end c.in-Ok.value c.args.contents.rest.now c.number.new.self.rest.now c.args.self.now c.in-Ok.ensures.is none;
}

pub bodies-preserved : goal.bodies-preserved
bodies-preserved c =
    let at = c.bodies in
    record {
      same_end = c.next_body.ensures.same_end ∙ at.invariant.same_end;
      gathers = λ none.
          one_more_body c.args.contents.end at.input.end c.args.contents.rest.now c.in-Ok.value at.counter c.args.self.now at.self c.next_body.new.self at.func
          c.saturating_add-func.result at.input.rest.now c.next_body.new.input.rest.now (at.invariant.gathers none) c.bodies-test.true at.invariant.same_end
          (λ finds. c.in-Ok-next_body.ensures.is finds) (λ small. omega (arith, c.saturating_add-func.ensures));
    }

pub returns : goal.returns
returns c = λ none.
    let at = c.bodies in
    all_bodies c.args.contents.end c.args.contents.rest.now c.in-Ok.value at.counter c.args.self.now at.self at.func at.input.rest.now (at.invariant.gathers none)
    (omega arith)
