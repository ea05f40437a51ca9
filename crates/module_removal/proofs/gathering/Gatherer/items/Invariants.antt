use Rattle.std.proofs.Common.{◌≡◌, None}
use Rattle.module_removal.specs.Gathered.{GathersItem}
use Rattle.module_removal.proofs.GatherStepLemmas.{EachLeft}
use Rattle.module_removal.proofs.gathering.Gatherer.items.Given as goal

abbrev pub invariant-items : goal.invariant-items
invariant-items l = record {
  same_end : l.input.end ≡ l.contents.end;
  gathers :
      l.fn.self.copier.left ≡ None → EachLeft (GathersItem l.kind) l.contents.end l.contents.rest.now l.count l.counter l.fn.self (l.self, l.input.rest.now);
}
