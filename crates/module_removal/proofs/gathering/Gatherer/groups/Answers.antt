use Rattle.std.proofs.Common.{◌∙◌}
use Rattle.module_removal.specs.Gathered.{GathersGroup}
use Rattle.module_removal.proofs.GatherStepLemmas.{none_of_each, one_of_each, all_of_each}
use Rattle.module_removal.proofs.GrowthLemmas.{group_grows}
use Rattle.module_removal.proofs.gathering.Gatherer.groups.Goals as goal

pub groups-init : goal.groups-init
groups-init c = record {
  same_end = c.number.ensures.same_end;
  gathers = λ none.
      none_of_each GathersGroup c.args.contents.end c.in-Ok.value c.args.contents.rest.now c.number.new.self.rest.now c.args.self.now c.in-Ok.ensures.is none;
}

pub groups-preserved : goal.groups-preserved
groups-preserved c =
    let at = c.groups in
    record {
      same_end = c.group.ensures.same_end ∙ at.invariant.same_end;
      gathers = λ none.
          one_of_each GathersGroup c.args.contents.end at.input.end c.args.contents.rest.now c.in-Ok.value at.counter c.args.self.now (at.self, at.input.rest.now)
          (c.group.new.self, c.group.new.input.rest.now) group_grows (at.invariant.gathers none) c.groups-test.true at.invariant.same_end
          (λ finds. c.in-Ok-group.ensures.is finds);
    }

pub returns : goal.returns
returns c = λ none.
    let at = c.groups in
    all_of_each GathersGroup c.args.contents.end c.args.contents.rest.now c.in-Ok.value at.counter c.args.self.now (at.self, at.input.rest.now) (at.invariant.gathers none)
    c.groups-test.false
