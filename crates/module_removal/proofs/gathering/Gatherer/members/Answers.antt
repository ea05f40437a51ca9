use Rattle.std.proofs.Common.{ℕ, List, refl, subst, ◌∙◌}
use Rattle.module_removal.specs.declared.gathering.Gatherer.{Gatherer}
use Rattle.module_removal.specs.Gathered.{GathersType}
use Rattle.module_removal.proofs.GatherStepLemmas.{none_gathered, one_gathered, all_gathered}
use Rattle.module_removal.proofs.GrowthLemmas.{type_grows}
use Rattle.module_removal.proofs.gathering.Gatherer.members.Goals as goal

pub members-init : goal.members-init
members-init c = record {
  same_end = refl;
  gathers = λ none. none_gathered (GathersType c.args.first c.args.input.now.end) c.args.count (c.args.self.now, c.args.input.now.rest.now) none;
}

pub members-preserved : goal.members-preserved
members-preserved c =
    let at = c.members in
    let end = c.args.input.now.end in
    let old : Gatherer × List ℕ = (c.args.self.now, c.args.input.now.rest.now) in
    let now : Gatherer × List ℕ = (at.self, at.input.rest.now) in
    let new : Gatherer × List ℕ = (c.member.new.self, c.member.new.input.rest.now) in
    record {
      same_end = c.member.ensures.same_end ∙ at.invariant.same_end;
      gathers = λ none.
          let so = at.invariant.gathers none in
          let made = subst (λ (n : ℕ). GathersType c.args.first n now new) at.invariant.same_end (c.in-Ok.ensures.is so.finds) in
          one_gathered (GathersType c.args.first end) c.args.count at.counter old now new so c.members-test.true made ((type_grows c.args.first end now new made).finds so.finds);
    }

pub returns-clause-is : goal.returns-clause-is
returns-clause-is c = λ none.
    let at = c.members in
    all_gathered (GathersType c.args.first c.args.input.now.end) c.args.count at.counter (c.args.self.now, c.args.input.now.rest.now) (at.self, at.input.rest.now)
    (at.invariant.gathers none) c.members-test.false
