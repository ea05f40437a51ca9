use Rattle.module_removal.proofs.EdgeLemmas.{refers_to_one}
use Rattle.module_removal.proofs.references.References.add.Goals as goal

pub returns-in-Ok-clause-ok : goal.returns-in-Ok-clause-ok
returns-in-Ok-clause-ok c =
    refers_to_one c.args.from c.in-Ok.to c.args.to c.args.self.now c.add_numbers.new.self c.add_numbers.result c.in-Ok.ensures.ok c.add_numbers.ensures.counts
    c.add_numbers.ensures.taken c.add_numbers.ensures.edges
