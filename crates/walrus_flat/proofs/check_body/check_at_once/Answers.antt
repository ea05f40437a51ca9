use Rattle.std.proofs.Common.{inl, ap, sym, subst, ◌∙◌, Ok}
use Rattle.wasm_operators.specs.Meaning.{meaning}
use Rattle.wasm_ops.specs.CommonOperators.{common_listed}
use Rattle.walrus_flat.specs.Checked.{ChecksAtOnce}
use Rattle.walrus_flat.proofs.CheckerAtOnce.{is_alone}
use Rattle.walrus_flat.proofs.check_body.check_at_once.Goals as goal

pub pass-requires : goal.pass-requires
pass-requires g c = (meaning (common_listed c.in-Some.common), c.in-Some.ensures.is_read)

pub returns-in-Ok : goal.returns-in-Ok
returns-in-Ok g c =
    let x = common_listed c.in-Some.common in
    let steps = subst (ChecksAtOnce c.args.checker.now c.step_common.new.self (meaning x)) c.if-not-step_common.false c.step_common.ensures in (
      x,
      c.in-Some.ensures.is_read ∙ ap (λ r. Ok (meaning x, r)) (sym c.pass.ensures.rest),
      c.pass.ensures.moves,
      (c.in-Ok.ensures.ok, steps),
      inl (is_alone c.in-Some.common),
    )

pub returns-in-Err : goal.returns-in-Err
returns-in-Err g c = (common_listed c.in-Some.common, c.in-Some.rest.now, c.in-Some.ensures.is_read, c.in-Err.ensures.err)
