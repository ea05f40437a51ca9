use Rattle.std.proofs.Common.{◌<◌, [], length, Some, slice_get, refl, ap, sym, ◌∙◌, arith}
use Rattle.std.proofs.lemmas.Option.{slice_get-get_or}
use Rattle.walrus_context.specs.OpenFrames.{frame_with}
use Rattle.walrus_context.proofs.FrameStacks.{count, get}
use Rattle.walrus_context.proofs.frame_stack.FrameStack.get.Goals as goal

pub returns-in-None : goal.returns-in-None
returns-in-None c =
    let inside = c.self.inside in
    let long = ap length (sym c.self.view_is) ∙ count inside.instrs.items [] inside.controls.items in
    let none = c.in-None.ensures in
    omega arith

pub returns-in-Some : goal.returns-in-Some
returns-in-Some c =
    let inside = c.self.inside in
    let i = c.in-Some.index in
    let f = c.index.result.now in
    let is = c.in-Some.ensures in
    let within : i < length inside.controls.items = omega arith in
    let at = slice_get-get_or inside.controls.items i f within ∙ ap Some (sym c.index.ensures) in
    let found = get inside.instrs.items [] inside.controls.items i c.args.n f is at in
    (frame_with f found.0, ap (λ fs. slice_get fs c.args.n) (sym c.self.view_is) ∙ found.1, record { is = refl })
