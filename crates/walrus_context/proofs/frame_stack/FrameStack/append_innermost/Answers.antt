use Rattle.std.proofs.Common.{◌<◌, ◌∷◌, [], length, Some, ap, sym, subst, ◌∙◌, arith}
use Rattle.std.proofs.lemmas.Option.{slice_get-get_or}
use Rattle.std.proofs.lemmas.List.{length-append}
use Rattle.walrus_ir.specs.Unfolding.{LocatedInstr}
use Rattle.walrus_context.specs.FrameStacks.{frames_in, StartFrom}
use Rattle.walrus_context.specs.OpenFrames.{with_instr, ChangesAt}
use Rattle.walrus_context.proofs.FrameStacks.{dropped_at, appended_last, starts_before, either_way}
use Rattle.walrus_context.proofs.frame_stack.FrameStack.append_innermost.Goals as goal

pub returns-then-index-clause-done : goal.returns-then-index-clause-done
returns-then-index-clause-done c = λ _.
    let inside = c.self.inside in
    let cs = inside.controls.items in
    let x : LocatedInstr = (c.args.instr, c.args.location) in
    let i = c.in-Some.index in
    let f = c.index.result.now in
    let is = c.in-Some.ensures in
    let within : i < length cs = omega arith in
    let at = slice_get-get_or cs i f within ∙ ap Some (sym c.index.ensures) in
    subst (λ fs. ChangesAt 0 (with_instr x) fs fs) c.self.view_is (dropped_at inside.instrs.items cs i 0 f x (omega arith) at c.if-index.true)

pub invariant_of-self : goal.invariant_of-self
invariant_of-self c =
    let inside = c.self.inside in
    let all = inside.instrs.items in
    let cs = inside.controls.items in
    let x : LocatedInstr = (c.args.instr, c.args.location) in
    either_way c.try_push.result
    (λ e.
    let long = ap length (c.try_push.ensures.done e) ∙ length-append all (x ∷ []) in
    starts_before 0 (length all) (length c.try_push.new.list.items) cs (omega arith) c.self.invariant)
    (λ e. subst (λ l. StartFrom 0 cs (length l)) (sym (c.try_push.ensures.same e)) c.self.invariant)

pub returns-clause-done : goal.returns-clause-done
returns-clause-done c = λ e.
    let inside = c.self.inside in
    let all = inside.instrs.items in
    let cs = inside.controls.items in
    let x : LocatedInstr = (c.args.instr, c.args.location) in
    let i = c.in-Some.index in
    let f = c.index.result.now in
    let is = c.in-Some.ensures in
    let within : i < length cs = omega arith in
    let at = slice_get-get_or cs i f within ∙ ap Some (sym c.index.ensures) in
    let changes = appended_last all cs i f x (omega arith) at c.if-index.false c.self.invariant in
    subst (λ fs. ChangesAt 0 (with_instr x) fs (frames_in c.try_push.new.list.items [] cs)) c.self.view_is
    (subst (λ l. ChangesAt 0 (with_instr x) (frames_in all [] cs) (frames_in l [] cs)) (sym (c.try_push.ensures.done e)) changes)

pub returns-clause-same : goal.returns-clause-same
returns-clause-same c = λ e. ap (λ l. frames_in l [] c.self.inside.controls.items) (c.try_push.ensures.same e) ∙ c.self.view_is
