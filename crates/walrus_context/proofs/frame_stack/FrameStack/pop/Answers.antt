use Rattle.std.proofs.Common.{◌≡◌, ◌∷◌, [], length, take, ap, sym, subst, ◌∙◌, arith}
use Rattle.std.proofs.lemmas.List.{length-take}
use Rattle.walrus_context.specs.OpenFrames.{frame_with}
use Rattle.walrus_context.specs.FrameStacks.{frames_in, StartFrom}
use Rattle.walrus_context.proofs.FrameStacks.{closed, starts_split}
use Rattle.walrus_context.proofs.frame_stack.FrameStack.pop.Goals as goal

pub take_tail-requires : goal.take_tail-requires
take_tail-requires c =
    let inside = c.self.inside in
    let high = length inside.instrs.items in
    let s = starts_split 0 c.pop.new.self.items c.in-Some.frame high (subst (λ cs. StartFrom 0 cs high) c.in-Some.ensures.items c.self.invariant) in
    let last = s.1 in
    let ok = inside.instrs.ok.0 in
    omega arith

pub invariant_of-self-in-Ok : goal.invariant_of-self-in-Ok
invariant_of-self-in-Ok c =
    let inside = c.self.inside in
    let high = length inside.instrs.items in
    let s = starts_split 0 c.pop.new.self.items c.in-Some.frame high (subst (λ cs. StartFrom 0 cs high) c.in-Some.ensures.items c.self.invariant) in
    let last = s.1 in
    let l = length-take c.in-Some.frame.start inside.instrs.items in
    let long : length c.take_tail.new.list.items ≡ c.in-Some.frame.start = ap length c.in-Ok.ensures.items ∙ (let e : length (take c.in-Some.frame.start inside.instrs.items) ≡ c.in-Some.frame.start = omega arith in e) in
    subst (StartFrom 0 c.pop.new.self.items) (sym long) s.0

pub returns-in-Ok-clause-ok : goal.returns-in-Ok-clause-ok
returns-in-Ok-clause-ok c =
    let inside = c.self.inside in
    let f = c.in-Some.frame in
    let cs = c.pop.new.self.items in
    let high = length inside.instrs.items in
    let s = starts_split 0 cs f high (subst (λ cs. StartFrom 0 cs high) c.in-Some.ensures.items c.self.invariant) in
    sym c.self.view_is
    ∙ ap (frames_in inside.instrs.items []) c.in-Some.ensures.items
    ∙ closed inside.instrs.items [] cs f 0 s.0 s.1
    ∙ ap (λ xs. frame_with f xs ∷ frames_in (take f.start inside.instrs.items) [] cs) (sym c.in-Ok.ensures.tail)
    ∙ ap (λ all. frame_with f c.in-Ok.tail.items ∷ frames_in all [] cs) (sym c.in-Ok.ensures.items)
