use Rattle.std.proofs.Common.{◌≡◌, [], length, reverse, take, true, sym, ap, ◌∙◌, arith}
use Rattle.wasm_validator.specs.declared.state.Validator.{Validator}
use Rattle.wasm_validator.specs.Steps.{setting_of, inner_of, operand_stack}
use Rattle.wasm_validator.proofs.Lists.{length_onto}
use Rattle.wasm_validator.proofs.Popping.{nothing_left}
use Rattle.wasm_validator.proofs.state.Validator.pop_all.Goals as goal

pub returns-then-len-self-clause-pops : goal.returns-then-len-self-clause-pops
returns-then-len-self-clause-pops c =
    let v = c.args.self.now in
    let w = c.loop-left.self in
    let l = length_onto w.operands.items [] in
    let o = w.operands.ok.0 in
    let e = c.len.ensures in
    let t = c.if-len-self.true in
    let same = ap (λ (x : Validator). x.inner.height) c.loop-left.invariant.same in
    let unreachable : v.inner.unreachable ≡ true = sym (ap (λ (x : Validator). x.inner.unreachable) c.loop-left.invariant.same) ∙ c.if-self.true in
    let is : length (operand_stack w) ≡ v.inner.height = omega arith in
    sym c.loop-left.invariant.pops ∙ nothing_left (setting_of v) (inner_of v) (reverse (take c.loop-left.left c.args.types.now)) (operand_stack w) unreachable is
