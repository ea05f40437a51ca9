use Rattle.std.proofs.Common.{Ok, ap, sym, subst, ◌∙◌}
use Rattle.wasm_operators.specs.Meaning.{meaning}
use Rattle.wasm_ops.specs.CommonOperators.{common_listed}
use Rattle.walrus_flat.specs.Writers.{WritesAtOnce}
use Rattle.walrus_flat.proofs.CheckerAtOnce.{is_alone}
use Rattle.walrus_flat.proofs.WriterOperators.{at_other}
use Rattle.walrus_flat.proofs.write_body.write_at_once.Goals as goal

pub pass-requires : goal.pass-requires
pass-requires c = (meaning (common_listed c.in-Some.common), c.in-Some.ensures.is_read)

pub returns : goal.returns
returns c =
    let a = c.args in
    let common = c.in-Some.common in
    let x = common_listed common in
    let new = c.step_live.new.self in
    let taken = subst (WritesAtOnce a.writer.now new x a.location) c.if-not-step_live.false c.step_live.ensures in (
      x,
      c.in-Some.ensures.is_read ∙ ap (λ r. Ok (meaning x, r)) (sym c.pass.ensures.rest),
      c.in-Some.ensures.spelt,
      c.pass.ensures.moves,
      at_other a.writer.now new x a.location (Ok tt) (is_alone common) taken,
    )

pub returns-then-not-is_live : goal.returns-then-not-is_live
returns-then-not-is_live c = c.skip_at_once.ensures c.args.location
