use Rattle.std.proofs.Common.{rules}
use Rattle.source_map.proofs.MovingTexts.{passes}
use Rattle.source_map.proofs.moving_text.MovingSourceMap.pass.Goals as goal

pub returns-in-Ok-clause-passes : goal.returns-in-Ok-clause-passes
returns-in-Ok-clause-passes c = λ all moves h.
    passes all moves c.args.step c.args.self.now _ c.args.mapping c.requires.next c.requires.reached (search rules) (search rules) (search rules) h
