use Rattle.std.proofs.Common.{◌≡◌, true, Ok, ap, sym, subst, ◌∙◌}
use Rattle.walrus_flat.specs.Written.{is_unreachable_next}
use Rattle.std.specs.Bool.{OnTrue}
use Rattle.wasm_operators.specs.Meaning.{meaning}
use Rattle.wasm_ops.specs.CommonOperators.{common_listed}
use Rattle.walrus_flat.proofs.CheckerAtOnce.{is_alone}
use Rattle.walrus_flat.proofs.WriterControls.{common_skipped}
use Rattle.walrus_flat.proofs.write_body.skip_at_once.Goals as goal

pub pass-requires : goal.pass-requires
pass-requires c = (meaning (common_listed c.in-Some._common), c.in-Some.ensures.is_read)

pub returns : goal.returns
returns c = λ location.
    let a = c.args in
    let common = c.in-Some._common in
    let x = common_listed common in
    let dead = subst (λ b. OnTrue b (is_unreachable_next a.writer.now.«open».next ≡ true)) c.if-not-is_unreachable.false c.is_unreachable.ensures in (
      x,
      c.in-Some.ensures.is_read ∙ ap (λ r. Ok (meaning x, r)) (sym c.pass.ensures.rest),
      c.in-Some.ensures.spelt,
      c.pass.ensures.moves,
      common_skipped a.writer.now x location (is_alone common) dead,
    )
