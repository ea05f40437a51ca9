use Rattle.std.proofs.Common.{Ok, ap, sym, subst, ◌∙◌}
use Rattle.std.specs.Bool.{OnTrue}
use Rattle.wasm_operators.specs.Meaning.{meaning}
use Rattle.walrus_flat.specs.Controls.{control_listed}
use Rattle.walrus_flat.specs.Writers.{StepsWriter}
use Rattle.walrus_flat.proofs.write_body.write_control.Goals as goal

pub pass-requires : goal.pass-requires
pass-requires c = (meaning (control_listed c.in-Some.control), c.in-Some.ensures.is_read)

pub returns : goal.returns
returns c =
    let a = c.args in
    let x = control_listed c.in-Some.control in
    let new = c.step_control.new.self in
    let taken = subst (λ b. OnTrue b (StepsWriter a.writer.now new (meaning x) a.location (Ok tt))) c.if-not-step_control.false c.step_control.ensures.done in (
      x,
      c.in-Some.ensures.is_read ∙ ap (λ r. Ok (meaning x, r)) (sym c.pass.ensures.rest),
      c.in-Some.ensures.spelt,
      c.pass.ensures.moves,
      taken,
    )
