use Rattle.std.proofs.Common.{◌≡◌, ◌-◌, ◌+◌, [], length, replicate, true, refl, sym, ap, ◌∙◌, arith}
use Rattle.wasm_validator.specs.declared.state.Validator.{Validator}
use Rattle.wasm_validator.specs.Steps.{setting_of, inner_of, operand_stack, pop_each_in, pop_all_in}
use Rattle.wasm_validator.proofs.Lists.{length_onto}
use Rattle.wasm_validator.proofs.Popping.{nothing_left}
use Rattle.wasm_validator.proofs.Repeated.{same_reversed, still_same, same_on, same_end}
use Rattle.wasm_validator.proofs.state.Validator.pop_same.Goals as goal

pub loop-left-init : goal.loop-left-init
loop-left-init c =
    let v = c.args.self.now in
    record {
      within = omega arith;
      same = refl;
      pops = ap (λ l. pop_each_in (setting_of v) (inner_of v) l (operand_stack v)) (sym (same_reversed c.args.count c.args.ty));
    }

pub returns-then-len-self-clause-pops : goal.returns-then-len-self-clause-pops
returns-then-len-self-clause-pops c =
    let v = c.args.self.now in
    let w = c.loop-left.self in
    let l = length_onto w.operands.items [] in
    let o = w.operands.ok.0 in
    let e = c.len.ensures in
    let t = c.if-len-self.true in
    let same = ap (λ (x : Validator). x.inner.height) c.loop-left.invariant.same in
    let unreachable : v.inner.unreachable ≡ true = sym (ap (λ (x : Validator). x.inner.unreachable) c.loop-left.invariant.same) ∙ c.if-self.true in
    let is : length (operand_stack w) ≡ v.inner.height = omega arith in
    sym c.loop-left.invariant.pops ∙ nothing_left (setting_of v) (inner_of v) (replicate c.loop-left.left c.args.ty) (operand_stack w) unreachable is

pub loop-left-preserved : goal.loop-left-preserved
loop-left-preserved c =
    let v = c.args.self.now in
    let u = c.loop-left.self in
    let w = c.pop.new.self in
    let n = c.loop-left.left in
    let t = c.args.ty in
    let positive = c.loop-left-test.true in
    let within = c.loop-left.invariant.within in
    let more : n ≡ (n - 1) + 1 = omega arith in
    record {
      within = omega arith;
      same = still_same v u w (n - 1) n t more c.loop-left.invariant.same c.pop.ensures.same;
      pops = same_on v u w (n - 1) n t more c.loop-left.invariant.same (pop_all_in (setting_of v) (inner_of v) (replicate c.args.count t) (operand_stack v)) c.in-Ok.ensures.pops c.loop-left.invariant.pops;
    }

pub returns-in-Err-clause-pops : goal.returns-in-Err-clause-pops
returns-in-Err-clause-pops c =
    let v = c.args.self.now in
    let n = c.loop-left.left in
    let t = c.args.ty in
    let positive = c.loop-left-test.true in
    let more : n ≡ (n - 1) + 1 = omega arith in
    same_end v c.loop-left.self c.pop.new.self (n - 1) n t more c.loop-left.invariant.same (pop_all_in (setting_of v) (inner_of v) (replicate c.args.count t) (operand_stack v)) c.in-Err.fault
    c.in-Err.ensures.pops c.loop-left.invariant.pops
