use Rattle.std.proofs.Common.{length, Ok, ap, sym, subst, ◌<◌}
use Rattle.wasm_ops.specs.CommonOperators.{common_listed}
use Rattle.walrus_context.specs.OpenFrames.{with_instr}
use Rattle.walrus_context.specs.OpenTrees.{OpenTrees}
use Rattle.walrus_parser.proofs.AtOnce.{some_changed, taken_at_once, stays_alive}
use Rattle.walrus_parser.proofs.Endings.{appends_ok}
use Rattle.walrus_parser.proofs.body_parser.BodyParser.take_at_once.Goals as goal

pub returns-then-not-append_innermost : goal.returns-then-not-append_innermost
returns-then-not-append_innermost c = ap (λ t. record c.args.self.now { context = t }) (c.append_innermost.ensures.same c.if-not-append_innermost.true)

pub returns-then-not-unreachable_after : goal.returns-then-not-unreachable_after
returns-then-not-unreachable_after c =
    let old = c.args.self.now in
    let r = c.requires in
    taken_at_once old (common_listed c.args.common) c.args.instr c.args.location c.args.unreachable_after r.kind r.unreachable_after r.placed r.plain c.append_innermost.new.self
    (stays_alive old.context c.append_innermost.new.self c.args.instr c.args.location c.args.unreachable_after c.if-not-unreachable_after.true (c.append_innermost.ensures.done c.if-not-append_innermost.false))

pub mark_innermost_unreachable-requires : goal.mark_innermost_unreachable-requires
mark_innermost_unreachable-requires c =
    let changes = c.append_innermost.ensures.done c.if-not-append_innermost.false in
    subst (λ (t : OpenTrees). 0 < length t.frames) (sym changes.1) (some_changed (with_instr (c.args.instr, c.args.location)) c.args.self.now.context.frames changes.0)

pub returns : goal.returns
returns c =
    let old = c.args.self.now in
    let r = c.requires in
    let changes = c.append_innermost.ensures.done c.if-not-append_innermost.false in
    taken_at_once old (common_listed c.args.common) c.args.instr c.args.location c.args.unreachable_after r.kind r.unreachable_after r.placed r.plain c.mark_innermost_unreachable.new.self
    (appends_ok old.context c.append_innermost.new.self c.mark_innermost_unreachable.new.self (c.args.instr, c.args.location) c.args.unreachable_after (Ok tt) c.if-not-unreachable_after.false changes.0 changes.1 c.mark_innermost_unreachable.ensures)
