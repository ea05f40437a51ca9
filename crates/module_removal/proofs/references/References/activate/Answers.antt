use Rattle.module_removal.specs.Gathered.{item_of_active}
use Rattle.module_removal.proofs.GatherLemmas.{activates_own}
use Rattle.module_removal.proofs.references.References.activate.Goals as goal

pub returns-else-is_within-clause-ok : goal.returns-else-is_within-clause-ok
returns-else-is_within-clause-ok c =
    activates_own c.args.number (item_of_active c.args.active.now) c.args.self.now c.add_numbers.new.self c.add_numbers.result c.add_numbers.ensures.counts c.add_numbers.ensures.taken
    c.add_numbers.ensures.edges
