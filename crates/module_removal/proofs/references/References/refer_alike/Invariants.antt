use Rattle.std.proofs.Common.{◌≡◌}
use Rattle.reaching.specs.Reaching.{edges_of}
use Rattle.module_removal.specs.Gathered.{RefersToAlike}
use Rattle.module_removal.proofs.SeveralStepsLemmas.{StepsLeft}
use Rattle.module_removal.proofs.references.References.refer_alike.Given as goal

abbrev pub invariant-types : goal.invariant-types
invariant-types l = record {
  counts : l.self.counts ≡ l.fn.self.counts;
  taken : l.self.taken ≡ l.fn.self.taken;
  left :
      StepsLeft (RefersToAlike l.alike.types l.fn.self.counts) l.count l.index (0, edges_of l.fn.self.graph) (l.index, edges_of l.self.graph);
}
