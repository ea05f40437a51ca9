use Rattle.std.proofs.Common.{[], length, ap, sym, ◌∙◌, arith}
use Rattle.walrus_context.proofs.FrameStacks.{count}
use Rattle.walrus_context.proofs.frame_stack.FrameStack.count.Goals as goal

pub returns : goal.returns
returns c =
    let inside = c.self.inside in
    let long = ap length (sym c.self.view_is) ∙ count inside.instrs.items [] inside.controls.items in
    let is = c.len.ensures ∙ inside.controls.ok.0 in
    omega arith
