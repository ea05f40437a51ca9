use Rattle.module_removal.proofs.GatherLemmas.{activates_from}
use Rattle.module_removal.proofs.references.References.activate_from.Goals as goal

pub returns-in-Ok-clause-ok : goal.returns-in-Ok-clause-ok
returns-in-Ok-clause-ok c =
    activates_from c.args.number c.in-Ok.from c.args.target c.args.self.now c.add_numbers.new.self c.add_numbers.result c.add_numbers.ensures.counts c.add_numbers.ensures.taken
    c.in-Ok.ensures.ok c.add_numbers.ensures.edges
