use Rattle.std.proofs.Common.{◌≡◌, ◌<◌, ◌≤◌, [], length, true, false, rules, sym, ◌∙◌, arith}
use Rattle.wasm_validator.specs.Steps.{arguments_of, outer_of, open_state}
use Rattle.wasm_validator.specs.Core.{given_in, delegates_in}
use Rattle.wasm_validator.proofs.Frames.{length_frames, none_there}
use Rattle.wasm_validator.proofs.Constructs.{delegate_refused, delegate_nowhere, delegate_given, given_results, somewhere}
use Rattle.wasm_validator.proofs.state.Validator.delegate.Goals as goal

pub returns-then-not-is_try-clause-goes_on : goal.returns-then-not-is_try-clause-goes_on
returns-then-not-is_try-clause-goes_on c =
    let v = c.args.self.now in
    let h : c.is_try.result ≡ false = search rules in
    delegate_refused v c.args.depth (sym c.is_try.ensures ∙ h)

pub returns-then-depth-len-clause-goes_on : goal.returns-then-depth-len-clause-goes_on
returns-then-depth-len-clause-goes_on c =
    let v = c.args.self.now in
    let o = v.outer.ok.0 in
    let e = c.len.ensures in
    let h = c.if-depth-len.true in
    let l = length_frames v.context.now (length (arguments_of v)) v.outer.items [] in
    let beyond : length (outer_of v) ≤ c.args.depth = omega arith in
    delegate_nowhere v c.args.depth (none_there (outer_of v) c.args.depth beyond)

pub returns-in-Ok-clause-goes_on : goal.returns-in-Ok-clause-goes_on
returns-in-Ok-clause-goes_on c =
    let v = c.args.self.now in
    let w = c.pop_control.new.self in
    let o = v.outer.ok.0 in
    let e = c.len.ensures in
    let h = c.if-depth-len.false in
    let l = length_frames v.context.now (length (arguments_of v)) v.outer.items [] in
    let within : c.args.depth < length (outer_of v) = omega arith in
    let d = somewhere (outer_of v) c.args.depth within in
    let t : c.is_try.result ≡ true = search rules in
    given_results (delegates_in v c.args.depth) (given_in w) (open_state c.give.new.self) c.give.result
    (delegate_given v c.args.depth w d.0 (sym c.is_try.ensures ∙ t) d.1 c.in-Ok.ensures.pops c.in-Ok.ensures.same) c.give.ensures.ok c.give.ensures.err
