use Rattle.std.proofs.Common.{◌≡◌, ◌≢◌, [], ◌++◌, length, Ok, sym, ap, ◌∙◌, arith}
use Rattle.wasm_body.specs.Validity.{up_to}
use Rattle.wasm_validator.specs.declared.state.Validator.{Validator}
use Rattle.wasm_validator.specs.States.{opened_of}
use Rattle.wasm_validator.specs.Steps.{setting_of, arguments_of, stacks_of, inner_of, operand_stack}
use Rattle.wasm_validator.proofs.Lists.{earlier, length_onto}
use Rattle.wasm_validator.proofs.Frames.{closes, closes_not, locals_below_inner}
use Rattle.wasm_validator.proofs.state.Validator.pop_control.Goals as goal

pub returns-then-len-self-clause-pops : goal.returns-then-len-self-clause-pops
returns-then-len-self-clause-pops c =
    let v = c.args.self.now in
    let w = c.pop_list.new.self in
    let l = length_onto w.operands.items [] in
    let o = w.operands.ok.0 in
    let e = c.len.ensures in
    let same = ap (λ (x : Validator). x.inner.height) c.in-Ok.ensures.same in
    let isnt : length (operand_stack w) ≢ v.inner.height = λ h. c.if-len-self.true (omega arith) in
    closes_not (setting_of v) (inner_of v) (stacks_of v) (operand_stack w) c.in-Ok.ensures.pops isnt

pub returns-clause-pops : goal.returns-clause-pops
returns-clause-pops c =
    let v = c.args.self.now in
    let w = c.pop_list.new.self in
    let initial = arguments_of v in
    let l = length_onto w.operands.items [] in
    let o = w.operands.ok.0 in
    let e = c.len.ensures in
    let same = ap (λ (x : Validator). x.inner.height) c.in-Ok.ensures.same in
    let n = c.if-len-self.false in
    let is : length (operand_stack w) ≡ v.inner.height = omega arith in
    let cut = c.truncate.ensures ∙ ap (λ (x : Validator). up_to x.inner.locals_height x.set) c.in-Ok.ensures.same in
    let below = locals_below_inner (opened_of v.inner.opened) (length initial) v.inner.locals_height c.requires in
    closes (setting_of v) (inner_of v) (stacks_of v) (operand_stack w) (c.truncate.new.self ++ initial) c.in-Ok.ensures.pops is
    (ap (λ ls. ls ++ initial) cut ∙ earlier v.set initial v.inner.locals_height ∙ ap (λ h. up_to h (v.set ++ initial)) (sym below))
    ∙ ap (λ (x : Validator). Ok (record { operands = operand_stack w; initialised = c.truncate.new.self ++ arguments_of x })) (sym c.in-Ok.ensures.same)
