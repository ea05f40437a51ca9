use Rattle.std.proofs.Common.{◌≡◌, ◌<◌, ◌+◌, ◌++◌, [], ◌∷◌, Bool, true, false, map, length, get_or, sym, ap, ◌∙◌, subst, arith}
use Rattle.walrus_insertion.specs.declared.probe.Edit.TheVariants.{Keep, Insert}
use Rattle.walrus_insertion.specs.Edits.{edited}
use Rattle.walrus_insertion.specs.InsertedInstructions.{ends_code, IsPushed, InsertedFrom}
use Rattle.walrus_insertion.proofs.Asking.{SaidBelow, one_said, last_said, end_said}
use Rattle.walrus_insertion.proofs.script.Script.ask_each.Goals as goal

pub loop-index-init : goal.loop-index-init
loop-index-init g c = (c.requires, λ later last h. rw c.clear.ensures.items h)

pub loop-index-preserved : goal.loop-index-preserved
loop-index-preserved g c =
    let at = c.loop-index in
    let gives = IsPushed (goal.F-step g) c.args.kind c.args.instrs.now in
    let asked = c.in_ok-ask.ensures.asked in
    let x = c.index-instrs-index.result in
    let within : at.index < length c.args.instrs.now = omega arith in
    let goes : ends_code (get_or c.args.instrs.now at.index x) ≡ false =
    ap ends_code (sym c.index-instrs-index.is) ∙ (sym c.never_goes_on.ensures ∙ c.if-never_goes_on.false) in
    let said : c.push.new.self.items ≡ at.self.edits.items ++ map Insert asked.0 ++ Keep ∷ [] =
    c.in_ok-push.ensures.items ∙ ap (λ es. es ++ Keep ∷ []) asked.2 in (
      c.in_ok-ask.ensures.callable,
      subst (λ es. SaidBelow gives c.args.caller.now c.args.instrs.now c.ask.new.caller es (at.index + 1)) (sym said)
          (one_said gives c.args.caller.now c.args.instrs.now at.caller c.ask.new.caller at.self.edits.items at.index asked.0 x within asked.1 goes at.invariant.1),
    )

pub returns-then-never_goes_on-clause-asked : goal.returns-then-never_goes_on-clause-asked
returns-then-never_goes_on-clause-asked g c =
    let at = c.loop-index in
    let gives = IsPushed (goal.F-step g) c.args.kind c.args.instrs.now in
    let asked = c.in_ok-ask.ensures.asked in
    let x = c.index-instrs-index.result in
    let within : at.index < length c.args.instrs.now = omega arith in
    let never : ends_code (get_or c.args.instrs.now at.index x) ≡ true =
    ap ends_code (sym c.index-instrs-index.is) ∙ (sym c.never_goes_on.ensures ∙ c.if-never_goes_on.true) in
    let said : c.push.new.self.items ≡ at.self.edits.items ++ map Insert asked.0 ++ Keep ∷ [] =
    c.in_ok-push.ensures.items ∙ ap (λ es. es ++ Keep ∷ []) asked.2 in
    subst (λ es. InsertedFrom gives c.args.caller.now 0 c.args.instrs.now (edited es c.args.instrs.now) c.ask.new.caller) (sym said)
    (last_said gives c.args.caller.now c.args.instrs.now at.caller c.ask.new.caller at.self.edits.items at.index asked.0 x within asked.1 never at.invariant.1)

pub returns-clause-asked : goal.returns-clause-asked
returns-clause-asked g c =
    let at = c.loop-index in
    let gives = IsPushed (goal.F-step g) c.args.kind c.args.instrs.now in
    let asked = c.in_ok-ask-2.ensures.asked in
    subst (λ es. InsertedFrom gives c.args.caller.now 0 c.args.instrs.now (edited es c.args.instrs.now) c.ask-2.new.caller) (sym asked.2)
    (end_said gives c.args.caller.now c.args.instrs.now at.caller c.ask-2.new.caller at.self.edits.items at.index asked.0 (omega arith) asked.1 (omega arith) at.invariant.1)
