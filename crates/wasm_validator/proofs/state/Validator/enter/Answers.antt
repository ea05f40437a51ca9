use Rattle.std.proofs.Common.{◌≡◌, [], ◌++◌, length, false, ap, ◌∙◌, arith, length-append}
use Rattle.wasm_body.specs.Validity.{ControlFrame}
use Rattle.wasm_context.specs.TypeLists.{types_in}
use Rattle.wasm_validator.specs.States.{opened_of, locals_height_of}
use Rattle.wasm_validator.specs.Steps.{arguments_of, operand_stack}
use Rattle.wasm_validator.specs.declared.frame.Frame.{Frame}
use Rattle.wasm_validator.proofs.Lists.{length_onto}
use Rattle.wasm_validator.proofs.Frames.{enters_from, locals_below_inner}
use Rattle.wasm_validator.proofs.state.Validator.enter.Goals as goal

pub returns-clause-ok : goal.returns-clause-ok
returns-clause-ok c =
    let v = c.args.self.now in
    let k = v.context.now in
    let initial = length (arguments_of v) in
    let frame : Frame = record { opened = c.args.opened; starts = c.args.starts; ends = c.args.ends; height = c.len.result; locals_height = c.len-2.result; unreachable = false } in
    let a = v.operands.ok.0 in
    let b = c.len.ensures in
    let d = length_onto v.operands.items [] in
    let f = c.len-2.ensures in
    let g = length-append v.set (arguments_of v) in
    let i = locals_below_inner (opened_of c.args.opened) initial c.len-2.result c.requires in
    let high : c.len.result ≡ length (operand_stack v) = omega arith in
    let wide = i ∙ (let e : _ ≡ length (v.set ++ arguments_of v) = omega arith in e) in
    let of_height : _ → _ → ControlFrame = λ h l. record { opened = opened_of c.args.opened; start_types = types_in k c.args.starts; end_types = types_in k c.args.ends; height = h; locals_height = l; unreachable = false } in
    enters_from v c.push_list.new.self frame c.args.opened c.args.starts c.args.ends c.push_list.result
    (ap (λ h. of_height h (locals_height_of (opened_of c.args.opened) initial c.len-2.result)) high ∙ ap (of_height (length (operand_stack v))) wide)
    c.push_list.ensures.ok c.push_list.ensures.same
