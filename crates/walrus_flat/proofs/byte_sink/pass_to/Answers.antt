use Rattle.walrus_flat.proofs.SinkLemmas.{left_as_is}
use Rattle.walrus_flat.proofs.byte_sink.pass_to.Goals as goal

pub returns-then-MOST-clause-passes : goal.returns-then-MOST-clause-passes
returns-then-MOST-clause-passes g c = left_as_is g.S.ByteSink.takes c.args.sink.now c.args.draft.now (g.met.S.ByteSink.nothing c.args.sink.now)
