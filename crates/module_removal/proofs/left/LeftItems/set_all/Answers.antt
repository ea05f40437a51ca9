use Rattle.module_removal.proofs.MarkLemmas.{marked_if}
use Rattle.module_removal.proofs.left.LeftItems.set_all.Goals as goal

pub returns-clause-ok : goal.returns-clause-ok
returns-clause-ok c =
    marked_if c.args.counts.now c.args.marks.now c.args.self.now c.set_marked.new.self c.set_marked-2.new.self c.set_marked-3.new.self c.set_marked-4.new.self
    c.set_marked-5.new.self c.set_marked-6.new.self c.set_marked-7.new.self c.set_marked-8.new.self c.set_marked-8.result c.in-Ok.ensures.ok
    c.in-Ok-set_marked.ensures.ok c.in-Ok-set_marked-2.ensures.ok c.in-Ok-set_marked-3.ensures.ok c.in-Ok-set_marked-4.ensures.ok
    c.in-Ok-set_marked-5.ensures.ok c.in-Ok-set_marked-6.ensures.ok c.set_marked-8.ensures.ok
