use Rattle.std.proofs.Common.{Ok, ap, sym, subst, ◌∙◌}
use Rattle.std.specs.Bool.{OnTrue}
use Rattle.wasm_operators.specs.Meaning.{meaning}
use Rattle.walrus_flat.specs.Controls.{control_listed}
use Rattle.walrus_flat.specs.Writers.{StepsWriter}
use Rattle.walrus_flat.proofs.write_body.skip_control.Goals as goal

pub pass-requires : goal.pass-requires
pass-requires c = (meaning (control_listed c.in-Some.control), c.in-Some.ensures.is_read)

pub returns : goal.returns
returns c = λ location.
    let a = c.args in
    let x = control_listed c.in-Some.control in
    let new = c.skip_control.new.self in
    let taken = subst (λ b. OnTrue b (StepsWriter a.writer.now new (meaning x) location (Ok tt))) c.if-not-skip_control.false (c.skip_control.ensures.done location) in (
      x,
      c.in-Some.ensures.is_read ∙ ap (λ r. Ok (meaning x, r)) (sym c.pass.ensures.rest),
      c.in-Some.ensures.spelt,
      c.pass.ensures.moves,
      taken,
    )
