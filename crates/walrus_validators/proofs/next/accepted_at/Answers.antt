use Rattle.std.proofs.Common.{inr}
use Rattle.wasm_operators.specs.Meaning.{meaning}
use Rattle.wasm_body.specs.Parsing.Accepted.{has_location}
use Rattle.walrus_validators.specs.Locating.{HasNoLocation, Locates}
use Rattle.walrus_validators.proofs.Taking.{is_admitted, is_not_admitted, is_too_great, located_fits}
use Rattle.walrus_validators.proofs.next.accepted_at.Goals as goal

pub returns-in_default-clause-err : goal.returns-in_default-clause-err
returns-in_default-clause-err g c =
    let o = c.args.on_instr_pos in
    let none : HasNoLocation o c.args.at = c.in_default.ensures in
    inr (λ bytes rest read.
    is_too_great (has_location o) g.V.OpCheck.check (g.V.OpCheck.state c.args.validator.now) c.args.at bytes rest (meaning c.args.operator.now) read none)

pub returns-in-Ok-clause-ok : goal.returns-in-Ok-clause-ok
returns-in-Ok-clause-ok g c = λ bytes rest read.
    let o = c.args.on_instr_pos in
    let located : Locates g.F.Fn o c.args.at c.in-Some.location = c.in-Some.ensures in
    is_admitted (has_location o) g.V.OpCheck.check (g.V.OpCheck.state c.args.validator.now) c.args.at bytes rest (meaning c.args.operator.now) (g.V.OpCheck.state c.op.new.self)
    read (located_fits g.F.Fn o c.args.at c.in-Some.location located) c.in-Ok.ensures

pub returns-in-Err-clause-err : goal.returns-in-Err-clause-err
returns-in-Err-clause-err g c =
    let o = c.args.on_instr_pos in
    let located : Locates g.F.Fn o c.args.at c.in-Some.location = c.in-Some.ensures in
    is_not_admitted (has_location o) g.V.OpCheck.check (g.V.OpCheck.state c.args.validator.now) c.args.at (meaning c.args.operator.now) c.in-Err.error (g.V.OpCheck.state c.op.new.self)
    (located_fits g.F.Fn o c.args.at c.in-Some.location located) c.in-Err.ensures
