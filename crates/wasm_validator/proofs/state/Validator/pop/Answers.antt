use Rattle.std.proofs.Common.{◌≡◌, ◌≢◌, length, arith}
use Rattle.wasm_validator.specs.Steps.{setting_of, inner_of}
use Rattle.wasm_validator.proofs.Popping.{at_height, over_height}
use Rattle.wasm_validator.proofs.state.Validator.pop.Goals as goal

pub returns-then-len-self-clause-pops : goal.returns-then-len-self-clause-pops
returns-then-len-self-clause-pops c =
    let v = c.args.self.now in
    let ok = v.operands.ok.0 in
    let e = c.len.ensures in
    let h = c.if-len-self.true in
    let is : length v.operands.items ≡ v.inner.height = omega arith in
    at_height (setting_of v) (inner_of v) c.args.expected v.operands.items c.demand.result is c.demand.ensures

pub returns-in-Some-clause-pops : goal.returns-in-Some-clause-pops
returns-in-Some-clause-pops c =
    let v = c.args.self.now in
    let ok = v.operands.ok.0 in
    let e = c.len.ensures in
    let isnt : length v.operands.items ≢ v.inner.height = λ h. c.if-len-self.false (omega arith) in
    over_height (setting_of v) (inner_of v) c.args.expected v.operands.items c.pop.new.self.items c.in-Some.operand c.fits.result isnt c.in-Some.ensures.items c.fits.ensures
