use Rattle.walrus_parser.proofs.Endings.{appends_ok, appends_err}
use Rattle.walrus_parser.proofs.body_parser.BodyParser.append_instr.Goals as goal

pub returns-in-Ok-clause-ok : goal.returns-in-Ok-clause-ok
returns-in-Ok-clause-ok c =
    appends_ok c.args.self.now.context c.alloc_instr.new.self c.unreachable.new.self (c.args.instr, c.args.location) c.args.unreachable_after c.unreachable.result c.if-unreachable_after.true c.in-Ok.ensures.ok.0 c.in-Ok.ensures.ok.1 c.unreachable.ensures.ok

pub returns-in-Ok-clause-err : goal.returns-in-Ok-clause-err
returns-in-Ok-clause-err c =
    appends_err c.args.self.now.context c.alloc_instr.new.self c.unreachable.new.self (c.args.instr, c.args.location) c.args.unreachable_after c.unreachable.result c.if-unreachable_after.true c.in-Ok.ensures.ok.0 c.in-Ok.ensures.ok.1 c.unreachable.ensures.err
