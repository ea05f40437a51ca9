use Rattle.std.proofs.Common.{◌≡◌, ◌++◌, ◌∷◌, [], length, take, drop, ap, sym, subst, ◌∙◌, arith}
use Rattle.std.specs.Option.{option_to_list}
use Rattle.std.proofs.lemmas.List.{length-take}
use Rattle.walrus_context.specs.OpenFrames.{frame_with}
use Rattle.walrus_context.specs.FrameStacks.{frames_in, StartFrom}
use Rattle.walrus_context.proofs.FrameStacks.{closed, starts_split}
use Rattle.walrus_context.proofs.frame_stack.FrameStack.discard.Goals as goal

pub invariant_of-self : goal.invariant_of-self
invariant_of-self c =
    let inside = c.self.inside in
    let f = c.unwrap-frame.result in
    let cs = c.pop.new.self.items in
    let high = length inside.instrs.items in
    let controls : inside.controls.items ≡ cs ++ f ∷ [] = c.pop.ensures.items ∙ ap (λ o. cs ++ option_to_list o) c.unwrap-frame.ensures in
    let s = starts_split 0 cs f high (subst (λ cs. StartFrom 0 cs high) controls c.self.invariant) in
    let last = s.1 in
    let l = length-take f.start inside.instrs.items in
    let long : length c.truncate.new.self.items ≡ f.start = ap length c.truncate.ensures.items ∙ (let e : length (take f.start inside.instrs.items) ≡ f.start = omega arith in e) in
    subst (StartFrom 0 cs) (sym long) s.0

pub returns : goal.returns
returns c =
    let inside = c.self.inside in
    let f = c.unwrap-frame.result in
    let cs = c.pop.new.self.items in
    let high = length inside.instrs.items in
    let controls : inside.controls.items ≡ cs ++ f ∷ [] = c.pop.ensures.items ∙ ap (λ o. cs ++ option_to_list o) c.unwrap-frame.ensures in
    let s = starts_split 0 cs f high (subst (λ cs. StartFrom 0 cs high) controls c.self.invariant) in (
      frame_with f (drop f.start inside.instrs.items),
      sym c.self.view_is
          ∙ ap (frames_in inside.instrs.items []) controls
          ∙ closed inside.instrs.items [] cs f 0 s.0 s.1
          ∙ ap (λ all. frame_with f (drop f.start inside.instrs.items) ∷ frames_in all [] cs) (sym c.truncate.ensures.items),
    )
