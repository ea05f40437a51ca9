use Rattle.std.proofs.Common.{inr, ap, sym, subst, ◌∙◌, ◌≢◌, [], Ok}
use Rattle.std.specs.Bool.{OnTrue}
use Rattle.wasm_operators.specs.Meaning.{meaning}
use Rattle.walrus_flat.specs.Controls.{control_listed}
use Rattle.walrus_flat.specs.Checked.{ChecksAtOnce}
use Rattle.walrus_flat.proofs.check_body.check_control.Goals as goal

pub pass-requires : goal.pass-requires
pass-requires g c = (meaning (control_listed c.in-Some.control), c.in-Some.ensures.is_read)

pub returns-in-Ok : goal.returns-in-Ok
returns-in-Ok g c =
    let a = c.args in
    let x = control_listed c.in-Some.control in
    let new = c.step_control.new.self in
    let steps = subst (ChecksAtOnce a.checker.now new (meaning x)) c.if-not-step_control.false c.step_control.ensures.step in
    let inside = subst (λ b. OnTrue b (new.«open».items ≢ [])) c.if-not-step_control.false c.step_control.ensures.inside in
    let taken = c.in-Ok.ensures.ok in (
      x,
      c.in-Some.ensures.is_read ∙ ap (λ r. Ok (meaning x, r)) (sym c.pass.ensures.rest),
      c.pass.ensures.moves,
      (taken, steps),
      inr inside,
    )

pub returns-in-Err : goal.returns-in-Err
returns-in-Err g c =
    let a = c.args in
    let x = control_listed c.in-Some.control in (
      x,
      c.in-Some.rest.now,
      c.in-Some.ensures.is_read,
      c.in-Err.ensures.err,
    )
