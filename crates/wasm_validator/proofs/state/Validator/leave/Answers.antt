use Rattle.std.proofs.Common.{◌≡◌, List, [], ◌∷◌, length, refl, ap, ◌∙◌, arith}
use Rattle.wasm_validator.specs.declared.frame.Frame.{Frame}
use Rattle.wasm_validator.specs.States.{frames_onto}
use Rattle.wasm_validator.specs.Steps.{arguments_of}
use Rattle.wasm_validator.proofs.Frames.{frames_last}
use Rattle.wasm_validator.proofs.state.Validator.leave.Goals as goal

none_left : (fs : List Frame) → length fs ≡ 0 → fs ≡ []
none_left [] h = refl
none_left (f ∷ fs) h = absurd (omega arith)

pub returns-in-Some-clause-leaves : goal.returns-in-Some-clause-leaves
returns-in-Some-clause-leaves c =
    let v = c.args.self.now in
    let k = v.context.now in
    let initial = length (arguments_of v) in
    (ap (λ l. frames_onto k initial l []) c.in-Some.ensures.items ∙ frames_last k initial c.pop.new.self.items c.in-Some.frame [], refl)

pub returns-in-None-clause-leaves : goal.returns-in-None-clause-leaves
returns-in-None-clause-leaves c =
    let v = c.args.self.now in
    let ok = v.outer.ok.0 in
    let e = c.in-None.ensures.cases.0 in
    (ap (λ l. frames_onto v.context.now (length (arguments_of v)) l []) (none_left v.outer.items (omega arith)), refl)
