use Rattle.source_map.proofs.MovingTexts.{stops}
use Rattle.source_map.proofs.moving_text.MovingSourceMap.add.Goals as goal

pub returns-then-step-mapping-clause-adds : goal.returns-then-step-mapping-clause-adds
returns-then-step-mapping-clause-adds c = λ all moves h.
    stops all moves c.args.step c.loop-self.self c.in-Some.mapping c.in-Some.is c.if-step-mapping.true (c.loop-self.invariant.1 all moves h)

pub returns-in-Err-clause-memory : goal.returns-in-Err-clause-memory
returns-in-Err-clause-memory c = λ all moves h. c.in-Err.ensures.memory all moves (c.loop-self.invariant.1 all moves h)
