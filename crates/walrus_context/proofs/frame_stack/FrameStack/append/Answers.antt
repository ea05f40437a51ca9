use Rattle.std.proofs.Common.{◌≡◌, ◌<◌, ◌+◌, ◌∷◌, [], length, Some, suc, refl, ap, sym, subst, ◌∙◌, arith, inr}
use Rattle.std.proofs.lemmas.Option.{slice_get-get_or}
use Rattle.std.proofs.lemmas.List.{length-append}
use Rattle.walrus_ir.specs.Unfolding.{LocatedInstr}
use Rattle.walrus_context.specs.FrameStacks.{frames_in, moved_from, StartFrom}
use Rattle.walrus_context.specs.OpenFrames.{with_instr, changed_at, ChangesAt, InnerAreEmpty}
use Rattle.walrus_context.proofs.FrameStacks.{count, later_at_end, starts_moved, appended, dropped_at}
use Rattle.walrus_context.proofs.frame_stack.FrameStack.append.Goals as goal

pub returns-in_default-clause-err : goal.returns-in_default-clause-err
returns-in_default-clause-err c =
    let inside = c.self.inside in
    let long = ap length (sym c.self.view_is) ∙ count inside.instrs.items [] inside.controls.items in
    let none = c.in_default.ensures in
    inr (refl, omega arith)

pub returns-then-index-clause-ok : goal.returns-then-index-clause-ok
returns-then-index-clause-ok c =
    let inside = c.self.inside in
    let cs = inside.controls.items in
    let x : LocatedInstr = (c.args.instr, c.args.location) in
    let i = c.in-Some.index in
    let f = c.index.result.now in
    let is = c.in-Some.ensures in
    let within : i < length cs = omega arith in
    let at = slice_get-get_or cs i f within ∙ ap Some (sym c.index.ensures) in
    subst (λ fs. ChangesAt c.args.n (with_instr x) fs fs) c.self.view_is (dropped_at inside.instrs.items cs i c.args.n f x is at c.if-index.true)

pub move_starts-requires-clause-fit : goal.move_starts-requires-clause-fit
move_starts-requires-clause-fit c =
    let instrs = c.self.inside.instrs in
    let long = instrs.ok.0 in
    let within = instrs.ok.1 in
    let small = instrs.small in
    (length instrs.items, omega arith, c.self.invariant)

pub invariant_of-self : goal.invariant_of-self
invariant_of-self c =
    let inside = c.self.inside in
    let all = inside.instrs.items in
    let cs = inside.controls.items in
    let i = c.in-Some.index in
    let is = c.in-Some.ensures in
    let x : LocatedInstr = (c.args.instr, c.args.location) in
    let inner = subst (InnerAreEmpty c.args.n) (sym c.self.view_is) c.requires in
    let following = later_at_end all [] 0 cs i c.args.n is c.self.invariant inner in
    let controls : c.move_starts.new.controls.items ≡ moved_from (suc i) cs = c.move_starts.ensures ∙ ap (λ k. moved_from k cs) (let e : i + 1 ≡ suc i = omega arith in e) in
    let long : length c.push_or_fail.new.list.items ≡ length all + 1 = ap length c.in-Ok.ensures.ok ∙ length-append all (x ∷ []) in
    subst (λ k. StartFrom 0 k (length c.push_or_fail.new.list.items)) (sym controls) (subst (StartFrom 0 (moved_from (suc i) cs)) (sym long) (starts_moved 0 (length all) cs i c.self.invariant following))

pub returns-in-Ok-clause-ok : goal.returns-in-Ok-clause-ok
returns-in-Ok-clause-ok c =
    let inside = c.self.inside in
    let all = inside.instrs.items in
    let cs = inside.controls.items in
    let longest = ap length (sym c.self.view_is) ∙ count all [] cs in
    let i = c.in-Some.index in
    let f = c.index.result.now in
    let is = c.in-Some.ensures in
    let within : i < length cs = omega arith in
    let at = slice_get-get_or cs i f within ∙ ap Some (sym c.index.ensures) in
    let x : LocatedInstr = (c.args.instr, c.args.location) in
    let inner = subst (InnerAreEmpty c.args.n) (sym c.self.view_is) c.requires in
    let following = later_at_end all [] 0 cs i c.args.n is c.self.invariant inner in
    let controls : c.move_starts.new.controls.items ≡ moved_from (suc i) cs = c.move_starts.ensures ∙ ap (λ k. moved_from k cs) (let e : i + 1 ≡ suc i = omega arith in e) in (
      omega arith,
      ap (frames_in c.push_or_fail.new.list.items []) controls
          ∙ ap (λ l. frames_in l [] (moved_from (suc i) cs)) c.in-Ok.ensures.ok
          ∙ appended all x [] 0 cs i c.args.n f is at c.if-index.false c.self.invariant following
          ∙ ap (changed_at c.args.n (with_instr x)) c.self.view_is,
    )
