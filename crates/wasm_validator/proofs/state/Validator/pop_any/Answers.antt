use Rattle.std.proofs.Common.{◌≡◌, ◌≢◌, length, true, false, arith}
use Rattle.wasm_validator.specs.Steps.{inner_of}
use Rattle.wasm_validator.proofs.PoppedOperands.{any_at, any_over}
use Rattle.wasm_validator.proofs.state.Validator.pop_any.Goals as goal

pub returns-then-self-clause-pops : goal.returns-then-self-clause-pops
returns-then-self-clause-pops c =
    let v = c.args.self.now in
    let ok = v.operands.ok.0 in
    let e = c.len.ensures in
    let h = c.if-len-self.true in
    let is : length v.operands.items ≡ v.inner.height = omega arith in
    any_at (inner_of v) v.operands.items true is c.if-self.true

pub returns-else-self-clause-pops : goal.returns-else-self-clause-pops
returns-else-self-clause-pops c =
    let v = c.args.self.now in
    let ok = v.operands.ok.0 in
    let e = c.len.ensures in
    let h = c.if-len-self.true in
    let is : length v.operands.items ≡ v.inner.height = omega arith in
    any_at (inner_of v) v.operands.items false is c.if-self.false

pub returns-in-Some-clause-pops : goal.returns-in-Some-clause-pops
returns-in-Some-clause-pops c =
    let v = c.args.self.now in
    let ok = v.operands.ok.0 in
    let e = c.len.ensures in
    let isnt : length v.operands.items ≢ v.inner.height = λ h. c.if-len-self.false (omega arith) in
    any_over (inner_of v) v.operands.items c.pop.new.self.items c.in-Some.operand isnt c.in-Some.ensures.items
