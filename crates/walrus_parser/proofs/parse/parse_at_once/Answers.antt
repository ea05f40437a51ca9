use Rattle.std.proofs.Common.{◌≡◌, inl, inr, Err, refl, sym, ap, subst, ◌∙◌}
use Rattle.wasm_operators.specs.Meaning.{meaning}
use Rattle.wasm_ops.specs.CommonOperators.{common_listed}
use Rattle.wasm_ops.proofs.Passing.{is_after}
use Rattle.wasm_body.specs.declared.error.ParseFailure.{ParseFailure}
use Rattle.wasm_body.specs.declared.error.ParseError.{ParseError}
use Rattle.wasm_body.specs.Parsing.Accepted.{has_location}
use Rattle.walrus_validators.specs.Checking.{fault_of}
use Rattle.walrus_parser.specs.BodyParsers.{TakesAtOnce}
use Rattle.walrus_validators.specs.Admitting.{AdmitsAs}
use Rattle.walrus_validators.proofs.Taking.{is_admitted, is_not_admitted, located_fits}
use Rattle.walrus_parser.proofs.parse.parse_at_once.Goals as goal

pub returns-then-not-take_common : goal.returns-then-not-take_common
returns-then-not-take_common g c =
    let a = c.args in
    let common = c.in-Some.common in
    (refl, subst (TakesAtOnce a.parser.now c.take_common.new.self (meaning (common_listed common)) c.in-Some-location_at.location) c.if-not-take_common.true c.take_common.ensures, refl, refl, c.in-Some-location_at.ensures)

pub returns-in-Err : goal.returns-in-Err
returns-in-Err g c =
    let a = c.args in
    let common = c.in-Some.common in
    let state = g.V.OpCheck.state a.validator.now in
    let is = c.failure.ensures in
    let error_is : c.failure.result.error ≡ fault_of c.in-Err.error = ap (λ (f : ParseFailure). f.error) is ∙ c.checked.ensures in (
      ap (λ (f : ParseFailure). f.at) is,
      elim (is_not_admitted (has_location a.on_instr_pos) g.V.OpCheck.check state a.at (meaning (common_listed common)) c.in-Err.error (g.V.OpCheck.state c.check_common.new.validator)
          (located_fits g.F.Fn a.on_instr_pos a.at c.in-Some-location_at.location c.in-Some-location_at.ensures) c.in-Err.ensures) [
            | inl memory ↦ inl (error_is ∙ memory)
            | inr refused ↦ inr (
              common,
              c.in-Some.rest.now,
              c.in-Some.ensures.is_read,
              subst (λ (x : ParseError). AdmitsAs a.on_instr_pos g.V.OpCheck.check state a.at (meaning (common_listed common)) (λ rest. Err x)) (sym error_is) refused,
            )
          ],
    )

pub returns : goal.returns
returns g c =
    let a = c.args in
    let common = c.in-Some.common in
    let o = meaning (common_listed common) in
    let found = c.pass_common.ensures.found in
    let steps = subst (TakesAtOnce a.parser.now c.take_common.new.self o c.in-Some-location_at.location) c.if-not-take_common.false c.take_common.ensures in (
      common,
      c.pass_common.ensures.is_read,
      is_after a.reader.now c.pass_common.new.self o found.0 found.1 found.2,
      record {
        location = c.in-Some-location_at.location;
        is_admitted = λ bytes rest read. is_admitted (has_location a.on_instr_pos) g.V.OpCheck.check (g.V.OpCheck.state a.validator.now) a.at bytes rest o (g.V.OpCheck.state c.check_common.new.validator)
            read (located_fits g.F.Fn a.on_instr_pos a.at c.in-Some-location_at.location c.in-Some-location_at.ensures) c.in-Ok.ensures;
        is_located = c.in-Some-location_at.ensures;
        adds_pair = c.try_push.ensures.done c.if-not-try_push.false;
        steps = steps.0;
        is_same = steps.1;
      },
    )
