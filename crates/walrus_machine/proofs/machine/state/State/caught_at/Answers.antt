use Rattle.std.proofs.Common.{arith}
use Rattle.walrus_machine.proofs.Tracing.{caught_here, nothing_caught}
use Rattle.walrus_machine.proofs.machine.state.State.caught_at.Goals as goal

pub returns-then-depth-len : goal.returns-then-depth-len
returns-then-depth-len c = λ cs.
    let ls = c.args.self.now.labels in
    caught_here cs ls.items c.args.n _ c.index.result.now (omega (arith, c.if-depth-len.true, c.len.ensures, ls.ok.0)) (omega (arith, c.len-then-depth-len.ensures, ls.ok.0)) c.index.ensures

pub returns-else-depth-len : goal.returns-else-depth-len
returns-else-depth-len c = λ cs.
    let ls = c.args.self.now.labels in
    nothing_caught cs ls.items c.args.n (omega (arith, c.if-depth-len.false, c.len.ensures, ls.ok.0))
