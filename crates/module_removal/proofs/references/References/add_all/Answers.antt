use Rattle.std.proofs.lemmas.List.{take_more}
use Rattle.module_removal.proofs.EdgeLemmas.{refers_to_both}
use Rattle.module_removal.proofs.references.References.add_all.Goals as goal

pub items-preserved : goal.items-preserved
items-preserved c = refers_to_both _ _ _ _ _ _ _ c.items.invariant c.in-Ok.ensures.ok (take_more _ _ _ c.items-test.true)
