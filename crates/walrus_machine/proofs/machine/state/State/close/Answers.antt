use Rattle.std.proofs.Common.{ap, map, arith}
use Rattle.walrus_machine.specs.Runs.{outcome_of}
use Rattle.walrus_machine.specs.Tracing.{seen}
use Rattle.walrus_machine.proofs.Tracing.{closed}
use Rattle.walrus_machine.proofs.machine.state.State.close.Goals as goal

pub returns-clause-closed : goal.returns-clause-closed
returns-clause-closed c = λ cs k.
    let s = c.args.self.now in
    ap (λ ls. seen s.events.items (k ls (map outcome_of s.outcomes.now)))
    (closed cs c.args.n s.labels.len _ s.labels.items c.truncate.new.self.items s.labels.ok.0 (omega (arith, c.len.ensures, c.saturating_sub-left.ensures)) c.truncate.ensures.items)
