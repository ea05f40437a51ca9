use Rattle.std.proofs.Common.{◌≡◌, None}
use Rattle.module_removal.specs.Gathered.{GathersType}
use Rattle.module_removal.proofs.GatherStepLemmas.{GathersLeft}
use Rattle.module_removal.proofs.gathering.Gatherer.members.Given as goal

abbrev pub invariant-members : goal.invariant-members
invariant-members l = record {
  same_end : l.input.end ≡ l.fn.input.end;
  gathers :
      l.fn.self.copier.left ≡ None →
      GathersLeft (GathersType l.first l.fn.input.end) l.count l.counter (l.fn.self, l.fn.input.rest.now) (l.self, l.input.rest.now);
}
