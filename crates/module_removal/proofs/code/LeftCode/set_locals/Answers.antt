use Rattle.module_removal.proofs.OrderLemmas.{order_stays}
use Rattle.module_removal.proofs.code.LeftCode.set_locals.Goals as goal

pub returns-clause-order : goal.returns-clause-order
returns-clause-order c = λ order. order_stays c.args.self.now.locals.parts.items c.pass_locals.new.self.parts.items c.pass_locals.ensures order
