use Rattle.std.proofs.Common.{◌≡◌, None}
use Rattle.module_removal.proofs.GatherStepLemmas.{BodiesLeft}
use Rattle.module_removal.proofs.gathering.Gatherer.bodies.Given as goal

abbrev pub invariant-bodies : goal.invariant-bodies
invariant-bodies l = record {
  same_end : l.input.end ≡ l.contents.end;
  gathers :
      l.fn.self.copier.left ≡ None → BodiesLeft l.contents.end l.contents.rest.now l.count l.counter l.fn.self l.self l.func l.input.rest.now;
}
