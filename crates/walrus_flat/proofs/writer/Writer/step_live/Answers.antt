use Rattle.std.proofs.Common.{sym, subst, ◌∙◌}
use Rattle.wasm_ops.specs.CommonOperators.{common_listed}
use Rattle.wasm_operators.specs.Meaning.{meaning}
use Rattle.walrus_flat.specs.Writers.{WritesCommon}
use Rattle.walrus_flat.proofs.WriterAtOnce.{stays, ends_reachable}
use Rattle.walrus_flat.proofs.writer.Writer.step_live.Goals as goal

pub returns-then-not-write_common : goal.returns-then-not-write_common
returns-then-not-write_common c =
    let done = c.write_common in
    subst (WritesCommon c.args.self.now done.new.self (meaning (common_listed c.args.common)) c.args.location) c.if-not-write_common.true done.ensures

pub returns-then-is_unreachable_after_common : goal.returns-then-is_unreachable_after_common
returns-then-is_unreachable_after_common c =
    let done = c.write_common in
    let o = common_listed c.args.common in
    ends_reachable c.args.self.now o c.args.location c.requires done.new.self (subst (WritesCommon c.args.self.now done.new.self (meaning o) c.args.location) c.if-not-write_common.false done.ensures)
    (sym c.is_unreachable_after_common.ensures ∙ c.if-is_unreachable_after_common.true)

pub returns-else-is_unreachable_after_common : goal.returns-else-is_unreachable_after_common
returns-else-is_unreachable_after_common c =
    let done = c.write_common in
    let o = common_listed c.args.common in
    stays c.args.self.now o c.args.location c.requires done.new.self (subst (WritesCommon c.args.self.now done.new.self (meaning o) c.args.location) c.if-not-write_common.false done.ensures)
    (sym c.is_unreachable_after_common.ensures ∙ c.if-is_unreachable_after_common.false)
