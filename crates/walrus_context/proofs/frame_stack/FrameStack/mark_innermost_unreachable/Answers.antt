use Rattle.std.proofs.Common.{◌≡◌, ◌<◌, ◌+◌, ◌-◌, [], length, Some, refl, ap, sym, ◌∙◌, arith, true}
use Rattle.std.proofs.lemmas.Option.{slice_get-get_or}
use Rattle.walrus_context.specs.OpenFrames.{changed_at, marked_unreachable}
use Rattle.walrus_context.proofs.FrameStacks.{count, set_control, starts_set}
use Rattle.walrus_context.proofs.frame_stack.FrameStack.mark_innermost_unreachable.Goals as goal

pub overflow_sub-index : goal.overflow_sub-index
overflow_sub-index c =
    let inside = c.self.inside in
    let long = ap length (sym c.self.view_is) ∙ count inside.instrs.items [] inside.controls.items in
    let is = c.len-index.ensures ∙ inside.controls.ok.0 in
    let some = c.requires in
    omega arith

pub index_mut-requires : goal.index_mut-requires
index_mut-requires c =
    let inside = c.self.inside in
    let long = ap length (sym c.self.view_is) ∙ count inside.instrs.items [] inside.controls.items in
    let is = c.len-index.ensures in
    let ok = inside.controls.ok.0 in
    let some = c.requires in
    omega arith

pub returns : goal.returns
returns c =
    let inside = c.self.inside in
    let cs = inside.controls.items in
    let long = ap length (sym c.self.view_is) ∙ count inside.instrs.items [] cs in
    let is = c.len-index.ensures ∙ inside.controls.ok.0 in
    let some = c.requires in
    let i = c.len-index.result - 1 in
    let f = c.index_mut.result.now in
    let within : i < length cs = omega arith in
    let at = slice_get-get_or cs i f within ∙ ap Some (sym c.index_mut.ensures.value) in
    let last : 0 + i + 1 ≡ length cs = omega arith in
    (some, set_control inside.instrs.items marked_unreachable [] cs i 0 f (record f { unreachable = true }) last at refl (λ l. refl) ∙ ap (changed_at 0 marked_unreachable) c.self.view_is)

pub invariant_of-self : goal.invariant_of-self
invariant_of-self c =
    let inside = c.self.inside in
    let cs = inside.controls.items in
    let long = ap length (sym c.self.view_is) ∙ count inside.instrs.items [] cs in
    let is = c.len-index.ensures ∙ inside.controls.ok.0 in
    let some = c.requires in
    let i = c.len-index.result - 1 in
    let f = c.index_mut.result.now in
    let within : i < length cs = omega arith in
    let at = slice_get-get_or cs i f within ∙ ap Some (sym c.index_mut.ensures.value) in
    starts_set 0 cs i f (record f { unreachable = true }) (length inside.instrs.items) at refl c.self.invariant
