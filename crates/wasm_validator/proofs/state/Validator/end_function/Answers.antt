use Rattle.std.proofs.Common.{◌≡◌, ◌≢◌, [], length, ap, arith}
use Rattle.wasm_validator.specs.declared.state.Validator.{Validator}
use Rattle.wasm_validator.specs.Steps.{operand_stack}
use Rattle.wasm_validator.proofs.Lists.{length_onto}
use Rattle.wasm_validator.proofs.Constructs.{function_ends, function_refused}
use Rattle.wasm_validator.proofs.state.Validator.end_function.Goals as goal

pub returns-then-len-self-clause-goes_on : goal.returns-then-len-self-clause-goes_on
returns-then-len-self-clause-goes_on c =
    let v = c.args.self.now in
    let w = c.pop_list.new.self in
    let l = length_onto w.operands.items [] in
    let o = w.operands.ok.0 in
    let e = c.len.ensures in
    let same = ap (λ (x : Validator). x.inner.height) c.in-Ok.ensures.same in
    let isnt : length (operand_stack w) ≢ v.inner.height = λ h. c.if-len-self.true (omega arith) in
    function_refused v w c.in-Ok.ensures.pops isnt

pub returns-clause-goes_on : goal.returns-clause-goes_on
returns-clause-goes_on c =
    let v = c.args.self.now in
    let w = c.pop_list.new.self in
    let l = length_onto w.operands.items [] in
    let o = w.operands.ok.0 in
    let e = c.len.ensures in
    let same = ap (λ (x : Validator). x.inner.height) c.in-Ok.ensures.same in
    let n = c.if-len-self.false in
    let is : length (operand_stack w) ≡ v.inner.height = omega arith in
    function_ends v w c.requires.inner c.requires.alone c.in-Ok.ensures.pops is
