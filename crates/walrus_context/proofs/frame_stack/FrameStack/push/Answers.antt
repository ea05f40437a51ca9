use Rattle.std.proofs.Common.{◌∷◌, [], length, ap, sym, subst, ◌∙◌, false}
use Rattle.walrus_context.specs.declared.frame.ControlFrame.{ControlFrame}
use Rattle.walrus_context.specs.OpenFrames.{frame_with}
use Rattle.walrus_context.specs.FrameStacks.{frames_in, StartFrom}
use Rattle.walrus_context.proofs.FrameStacks.{opened, starts_append, either_way}
use Rattle.walrus_context.proofs.frame_stack.FrameStack.push.Goals as goal

pub invariant_of-self : goal.invariant_of-self
invariant_of-self c =
    let inside = c.self.inside in
    let f : ControlFrame = record { start_types = c.args.start_types; end_types = c.args.end_types; unreachable = false; block = c.args.block; kind = c.args.kind; start = c.len-start.result } in
    let at = c.len-start.ensures ∙ inside.instrs.ok.0 in
    either_way c.try_push.result
    (λ e. subst (λ cs. StartFrom 0 cs (length inside.instrs.items)) (sym (c.try_push.ensures.done e)) (starts_append 0 inside.controls.items f (length inside.instrs.items) c.self.invariant at))
    (λ e. subst (λ cs. StartFrom 0 cs (length inside.instrs.items)) (sym (c.try_push.ensures.same e)) c.self.invariant)

pub returns-clause-done : goal.returns-clause-done
returns-clause-done c = λ e.
    let inside = c.self.inside in
    let f : ControlFrame = record { start_types = c.args.start_types; end_types = c.args.end_types; unreachable = false; block = c.args.block; kind = c.args.kind; start = c.len-start.result } in
    let at = c.len-start.ensures ∙ inside.instrs.ok.0 in
    ap (frames_in inside.instrs.items []) (c.try_push.ensures.done e) ∙ opened inside.instrs.items [] inside.controls.items f at ∙ ap (λ fs. frame_with f [] ∷ fs) c.self.view_is

pub returns-clause-same : goal.returns-clause-same
returns-clause-same c = λ e. ap (frames_in c.self.inside.instrs.items []) (c.try_push.ensures.same e) ∙ c.self.view_is
