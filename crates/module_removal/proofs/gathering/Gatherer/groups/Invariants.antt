use Rattle.std.proofs.Common.{◌≡◌, None}
use Rattle.module_removal.specs.Gathered.{GathersGroup}
use Rattle.module_removal.proofs.GatherStepLemmas.{EachLeft}
use Rattle.module_removal.proofs.gathering.Gatherer.groups.Given as goal

abbrev pub invariant-groups : goal.invariant-groups
invariant-groups l = record {
  same_end : l.input.end ≡ l.contents.end;
  gathers :
      l.fn.self.copier.left ≡ None → EachLeft GathersGroup l.contents.end l.contents.rest.now l.groups l.counter l.fn.self (l.self, l.input.rest.now);
}
