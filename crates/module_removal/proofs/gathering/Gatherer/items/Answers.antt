use Rattle.std.proofs.Common.{◌∙◌}
use Rattle.module_removal.specs.Gathered.{GathersItem}
use Rattle.module_removal.proofs.GatherStepLemmas.{none_of_each, one_of_each, all_of_each}
use Rattle.module_removal.proofs.GrowthLemmas.{item_grows}
use Rattle.module_removal.proofs.gathering.Gatherer.items.Goals as goal

pub items-init : goal.items-init
items-init c = record {
  same_end = c.number.ensures.same_end;
  gathers = λ none.
      none_of_each (GathersItem c.args.kind) c.args.contents.end c.in-Ok.value c.args.contents.rest.now c.number.new.self.rest.now c.args.self.now c.in-Ok.ensures.is none;
}

pub items-preserved : goal.items-preserved
items-preserved c =
    let at = c.items in
    record {
      same_end = c.item.ensures.same_end ∙ at.invariant.same_end;
      gathers = λ none.
          one_of_each (GathersItem c.args.kind) c.args.contents.end at.input.end c.args.contents.rest.now c.in-Ok.value at.counter c.args.self.now (at.self, at.input.rest.now)
          (c.item.new.self, c.item.new.input.rest.now) (item_grows c.args.kind) (at.invariant.gathers none) c.items-test.true at.invariant.same_end
          (λ finds. c.in-Ok-item.ensures.is finds);
    }

pub returns : goal.returns
returns c = λ none.
    let at = c.items in
    all_of_each (GathersItem c.args.kind) c.args.contents.end c.args.contents.rest.now c.in-Ok.value at.counter c.args.self.now (at.self, at.input.rest.now) (at.invariant.gathers none)
    c.items-test.false
