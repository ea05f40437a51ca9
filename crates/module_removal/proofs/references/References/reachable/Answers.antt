use Rattle.std.proofs.Common.{ap, ◌∙◌}
use Rattle.std.proofs.lemmas.List.{take_all}
use Rattle.module_removal.specs.Edges.{roots_of}
use Rattle.module_removal.proofs.EdgeLemmas.{reached_as}
use Rattle.module_removal.proofs.references.References.reachable.Goals as goal

pub returns-in-Ok-clause-reached : goal.returns-in-Ok-clause-reached
returns-in-Ok-clause-reached c =
    reached_as _ _ _ _ _
    (c.deref.ensures.value ∙ c.roots.invariant ∙ ap (roots_of c.args.self.now.counts) (take_all c.roots.root-index c.args.roots.now c.roots-test.false))
    c.in-Ok.ensures.reached
