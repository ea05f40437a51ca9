use Rattle.module_removal.proofs.WritingLemmas.{writes_start}
use Rattle.module_removal.proofs.writing.Writer.start.Goals as goal

pub returns-clause-is : goal.returns-clause-is
returns-clause-is c =
    writes_start c.args.self.now c.clear.new.self c.index.new.self c.args.input.end c.args.input.rest.now c.index.new.input.rest.now c.args.self.now.out.items
    c.put_section.new.out.items c.deref.result.now c.put_section.result c.clear.ensures.left c.clear.ensures.out c.in-Ok.ensures.is c.deref.ensures.value
    c.put_section.ensures.written
