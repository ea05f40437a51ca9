use Rattle.std.proofs.Common.{◌≡◌, ◌≤◌, ◌+◌, ◌-◌, [], length, Some, ap, sym, ◌∙◌, subst, arith, inl, inr, IfErr, Result, Ok, Err}
use Rattle.std.proofs.lemmas.List.{length-set}
use Rattle.std.proofs.lemmas.Option.{slice_get-get_or}
use Rattle.std.proofs.lemmas.Result.{on_ok_weaker, on_err_weaker}
use Rattle.walrus_context.specs.declared.frame.ControlFrame.{ControlFrame}
use Rattle.walrus_context.specs.FrameStacks.{StartFrom}
use Rattle.walrus_context.specs.OpenFrames.{with_clause_around}
use Rattle.walrus_context.proofs.FrameStacks.{count}
use Rattle.walrus_context.proofs.LastClauses.{few, passes, inside, lacks, adds, has_none, stays, some_same}
use Rattle.walrus_context.proofs.frame_stack.FrameStack.add_clause.Goals as goal

if_err_weaker : {T E : Type 0} {P Q : E → Type 0} (r : Result T E) → ((e : E) → P e → Q e) → IfErr r P → IfErr r Q
if_err_weaker (Ok x) f h = tt
if_err_weaker (Err e) f h = f e h

pub returns-in_default-clause-err : goal.returns-in_default-clause-err
returns-in_default-clause-err c =
    let stack = c.self.inside in
    let long = ap length (sym c.self.view_is) ∙ count stack.instrs.items [] stack.controls.items in
    let none = c.in_default.ensures in
    inr (few c.args.catch c.args.self.now (omega arith))

pub returns-then-index-clause-ok : goal.returns-then-index-clause-ok
returns-then-index-clause-ok c =
    let stack = c.self.inside in
    let cs = stack.controls.items in
    let i = c.in-Some.index in
    let known = c.in-Some.ensures in
    let f = c.index.result.now in
    let at = slice_get-get_or cs i f (omega arith) ∙ ap Some (sym c.index.ensures) in
    ap (with_clause_around c.args.catch) (sym c.self.view_is) ∙ passes c.args.catch stack.instrs.items cs i f known at c.if-index.true ∙ ap Ok c.self.view_is

pub returns-then-start-end-clause-err : goal.returns-then-start-end-clause-err
returns-then-start-end-clause-err c =
    let stack = c.self.inside in
    let cs = stack.controls.items in
    let i = c.in-Some.index in
    let known = c.in-Some.ensures in
    let f = c.index.result.now in
    let g = c.index-2.result.now in
    let h = c.index-3.result.now in
    let is : i + 2 ≡ length cs = omega arith in
    let at = slice_get-get_or cs i f (omega arith) ∙ ap Some (sym c.index.ensures) in
    let again = slice_get-get_or cs i g (omega arith) ∙ ap Some (sym c.index-2.ensures) in
    let following = slice_get-get_or cs (i + 1) h (omega arith) ∙ ap Some (sym c.index-3.ensures) in
    let same = ap (λ (k : ControlFrame). k.start) (some_same f g (sym at ∙ again)) in
    let none = c.if-start-end.true in
    inr (ap (with_clause_around c.args.catch) (sym c.self.view_is) ∙ lacks c.args.catch stack.instrs.items cs i f h c.self.invariant is at following c.if-index.false (omega arith))

pub index_mut-requires : goal.index_mut-requires
index_mut-requires c =
    let stack = c.self.inside in
    let cs = stack.controls.items in
    let i = c.in-Some.index in
    let known = c.in-Some.ensures in
    let long = stack.instrs.ok.0 in
    let f = c.index.result.now in
    let h = c.index-3.result.now in
    let is : i + 2 ≡ length cs = omega arith in
    let at = slice_get-get_or cs i f (omega arith) ∙ ap Some (sym c.index.ensures) in
    let following = slice_get-get_or cs (i + 1) h (omega arith) ∙ ap Some (sym c.index-3.ensures) in
    let within = (inside c.args.catch stack.instrs.items cs i f h c.self.invariant is at following).1 in
    let some = c.if-start-end.false in
    omega arith

pub invariant_of-self : goal.invariant_of-self
invariant_of-self c =
    let stack = c.self.inside in
    subst (StartFrom 0 stack.controls.items) (sym (length-set stack.instrs.items (c.index-3.result.now.start - 1) c.add_clause_in.new.item)) c.self.invariant

pub returns : goal.returns
returns c =
    let stack = c.self.inside in
    let cs = stack.controls.items in
    let all = stack.instrs.items in
    let i = c.in-Some.index in
    let known = c.in-Some.ensures in
    let f = c.index.result.now in
    let g = c.index-2.result.now in
    let h = c.index-3.result.now in
    let x = c.index_mut.result.now in
    let y = c.add_clause_in.new.item in
    let is : i + 2 ≡ length cs = omega arith in
    let at = slice_get-get_or cs i f (omega arith) ∙ ap Some (sym c.index.ensures) in
    let again = slice_get-get_or cs i g (omega arith) ∙ ap Some (sym c.index-2.ensures) in
    let following = slice_get-get_or cs (i + 1) h (omega arith) ∙ ap Some (sym c.index-3.ensures) in
    let same = ap (λ (k : ControlFrame). k.start) (some_same f g (sym at ∙ again)) in
    let rise = c.self.invariant in
    let within = (inside c.args.catch all cs i f h rise is at following).1 in
    let some = c.if-start-end.false in
    let e = h.start - 1 in
    let ends : e + 1 ≡ h.start = omega arith in
    let less : f.start ≤ e = omega arith in
    let last = slice_get-get_or all e x (omega arith) ∙ ap Some (sym c.index_mut.ensures.value) in
    let here = ap (with_clause_around c.args.catch) (sym c.self.view_is) in
    record {
      ok = on_ok_weaker c.add_clause_in.result (λ added. here ∙ adds c.args.catch all cs i f h rise is at following e x ends less last y c.if-index.false added) c.add_clause_in.ensures.ok;
      err = if_err_weaker c.add_clause_in.result (λ error known. elim known [
        | inl is_memory ↦ inl is_memory
        | inr none ↦ inr (here ∙ has_none c.args.catch all cs i f h rise is at following e x ends less last c.if-index.false none.1 ∙ ap Err (sym none.0))
      ]) c.add_clause_in.ensures.err;
      same = on_err_weaker c.add_clause_in.result (λ as_before. stays c.args.catch all cs i f h rise is at following e x ends less last y as_before ∙ c.self.view_is) c.add_clause_in.ensures.same;
    }
