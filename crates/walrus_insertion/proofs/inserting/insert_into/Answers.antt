use Rattle.std.proofs.Common.{sym, ap, ◌∙◌, subst}
use Rattle.walrus_ir.specs.declared.seq.InstrSeq.{InstrSeq}
use Rattle.walrus_insertion.specs.InsertedInstructions.{IsPushed, IsEdited}
use Rattle.walrus_insertion.proofs.EditedFunctions.{merged, edited_of, unedited}
use Rattle.walrus_insertion.proofs.inserting.insert_into.Goals as goal

pub returns-clause-inserted : goal.returns-clause-inserted
returns-clause-inserted g c =
    merged (IsPushed (goal.F-step g)) c.args.kind c.args.caller.now c.ask_each.new.caller c.args.seq.now c.merge.new.seq c.as_slice.result.now c.ask_each.new.self.edits.items c.deref.result.now
    (c.as_slice.ensures.value ∙ ap (λ (s : InstrSeq). s.instrs) c.seq.view_is) c.deref.ensures.value c.in_ok-merge.ensures.ok c.in_ok-ask_each.ensures.asked

pub returns-clause-edited : goal.returns-clause-edited
returns-clause-edited g c =
    edited_of (merged (IsPushed (goal.F-step g)) c.args.kind c.args.caller.now c.ask_each.new.caller c.args.seq.now c.merge.new.seq c.as_slice.result.now c.ask_each.new.self.edits.items c.deref.result.now
    (c.as_slice.ensures.value ∙ ap (λ (s : InstrSeq). s.instrs) c.seq.view_is) c.deref.ensures.value c.in_ok-merge.ensures.ok c.in_ok-ask_each.ensures.asked)

pub returns-in_err-ask_each-clause-edited : goal.returns-in_err-ask_each-clause-edited
returns-in_err-ask_each-clause-edited g c = unedited c.args.seq.now

pub returns-in_err-merge-clause-edited : goal.returns-in_err-merge-clause-edited
returns-in_err-merge-clause-edited g c = subst (λ s. IsEdited c.args.seq.now s) (sym c.in_err-merge.ensures.err) (unedited c.args.seq.now)
