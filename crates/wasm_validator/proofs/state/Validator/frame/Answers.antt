use Rattle.std.proofs.Common.{◌<◌, ◌-◌, ◌∷◌, length, Some, sym, ap, ◌∙◌, arith}
use Rattle.std.proofs.lemmas.Option.{slice_get-get_or}
use Rattle.wasm_body.specs.Validity as algorithm
use Rattle.wasm_validator.specs.Steps.{arguments_of, inner_of, outer_of}
use Rattle.wasm_validator.proofs.Frames.{labels_outer, labels_none}
use Rattle.wasm_validator.proofs.state.Validator.frame.Goals as goal

pub returns-then-label-eq0 : goal.returns-then-label-eq0
returns-then-label-eq0 c =
    let v = c.args.self.now in
    ap (algorithm.labelled_frame (inner_of v ∷ outer_of v)) c.if-label-eq0.true

pub returns-then-label-len : goal.returns-then-label-len
returns-then-label-len c =
    let v = c.args.self.now in
    let o = v.outer.ok.0 in
    let e = c.len.ensures in
    let h = c.if-label-len.true in
    labels_none v.context.now (length (arguments_of v)) (inner_of v) v.outer.items c.args.label (omega arith)

pub returns : goal.returns
returns c =
    let v = c.args.self.now in
    let o = v.outer.ok.0 in
    let e = c.len.ensures in
    let f = c.len-2.ensures in
    let h = c.if-label-len.false in
    let z = c.if-label-eq0.false in
    let fs = v.outer.items in
    let i = c.len-2.result - c.args.label in
    let g = c.index.result.now in
    let within : i < length fs = omega arith in
    let at = slice_get-get_or fs i g within ∙ ap Some (sym c.index.ensures) in
    labels_outer v.context.now (length (arguments_of v)) (inner_of v) fs i c.args.label g z (omega arith) at
