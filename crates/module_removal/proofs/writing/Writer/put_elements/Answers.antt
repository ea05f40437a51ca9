use Rattle.module_removal.proofs.LeftSectionLemmas.{ok_then}
use Rattle.module_removal.proofs.writing.Writer.put_elements.Goals as goal

pub returns-clause-is : goal.returns-clause-is
returns-clause-is c = ok_then c.finish.result c.finish.ensures.is (λ w. (c.declare.new.self, c.in-Ok.ensures.is, w))
