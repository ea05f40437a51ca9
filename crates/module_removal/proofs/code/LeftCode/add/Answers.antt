use Rattle.module_removal.proofs.OrderLemmas.{order_stays}
use Rattle.module_removal.proofs.code.LeftCode.add.Goals as goal

pub returns-clause-order : goal.returns-clause-order
returns-clause-order c = λ order.
    order_stays c.args.self.now.operators.parts.items c.pass_operators.new.self.parts.items c.pass_operators.ensures order
