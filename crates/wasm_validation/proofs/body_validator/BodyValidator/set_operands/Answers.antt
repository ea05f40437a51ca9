use Rattle.std.proofs.Common.{refl, arith}
use Rattle.wasm_validation.proofs.OtherOperands.{stays_well_formed}
use Rattle.wasm_validation.proofs.body_validator.BodyValidator.set_operands.Goals as goal

pub invariant_of-self : goal.invariant_of-self
invariant_of-self c = λ accepted.
    let old = c.self.inside.validator in
    let a = c.len.ensures in
    let b = c.len-2.ensures in
    let more = c.if-len.true in
    let n = old.operands.ok.0 in
    let m = c.args.operands.ok.0 in
    stays_well_formed old (record old { operands = c.args.operands }) refl (omega arith) (c.self.invariant accepted)
