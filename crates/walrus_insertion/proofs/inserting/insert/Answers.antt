use Rattle.std.proofs.Common.{◌≡◌, ◌<◌, ℕ, length, slice_get, slice_set, Some, refl, sym, subst, arith}
use Rattle.std.proofs.lemmas.Option.{get_or_from_slice_get}
use Rattle.walrus_insertion.specs.InsertedInstructions.{IsPushed, IsInsertedOrPassed}
use Rattle.walrus_insertion.proofs.Visiting.{none_visited, one_visited, all_visited}
use Rattle.walrus_insertion.proofs.EditedFunctions.{none_edited, one_edited, trees_edited}
use Rattle.walrus_insertion.proofs.inserting.insert.Goals as goal

pub loop-slot-init : goal.loop-slot-init
loop-slot-init g c =
    let b = c.args.builder.now.sequences in
    (c.requires, refl, refl, none_visited (IsInsertedOrPassed (IsPushed (goal.F-step g))) c.args.caller b, none_edited b)

pub loop-slot-preserved : goal.loop-slot-preserved
loop-slot-preserved g c =
    let at = c.loop-slot in
    let R = IsInsertedOrPassed (IsPushed (goal.F-step g)) in
    let seq = c.seq_mut-seq.result.now in
    let new = c.visit.new.seq in
    let here = subst (λ (n : ℕ). slice_get at.builder.sequences n ≡ Some seq) c.new.ensures c.seq_mut-seq.ensures.value in
    let is = get_or_from_slice_get at.builder.sequences at.slot seq seq here in
    let within : at.slot < length at.builder.sequences = omega (arith, at.invariant.3.0) in (
      c.in_ok-visit.ensures.callable,
      at.invariant.1,
      at.invariant.2,
      rw c.new.ensures (one_visited R c.args.caller c.args.builder.now.sequences at.builder.sequences at.caller c.visit.new.caller at.slot seq new within
          (subst (λ s. R at.caller s new c.visit.new.caller) (sym is) c.in_ok-visit.ensures.inserted) at.invariant.3),
      rw c.new.ensures (one_edited c.args.builder.now.sequences at.builder.sequences at.slot seq new within at.invariant.3.1 here c.visit.ensures.edited at.invariant.4),
    )

pub returns-in_err-kinds-clause-edited : goal.returns-in_err-kinds-clause-edited
returns-in_err-kinds-clause-edited g c = record { type = refl; entry = refl; count = refl; sequences = (none_edited c.args.builder.now.sequences).1 }

pub returns-in_err-kinds-clause-trees : goal.returns-in_err-kinds-clause-trees
returns-in_err-kinds-clause-trees g c = let b = c.args.builder.now.sequences in trees_edited b b (none_edited b).1

pub returns-in_err-visit-clause-edited : goal.returns-in_err-visit-clause-edited
returns-in_err-visit-clause-edited g c =
    let at = c.loop-slot in
    let seq = c.seq_mut-seq.result.now in
    let here = subst (λ (n : ℕ). slice_get at.builder.sequences n ≡ Some seq) c.new.ensures c.seq_mut-seq.ensures.value in
    let within : at.slot < length at.builder.sequences = omega (arith, at.invariant.3.0) in
    let all = one_edited c.args.builder.now.sequences at.builder.sequences at.slot seq c.visit.new.seq within at.invariant.3.1 here c.visit.ensures.edited at.invariant.4 in
    record { type = at.invariant.1; entry = at.invariant.2; count = rw c.new.ensures all.0; sequences = rw c.new.ensures all.1 }

pub returns-in_err-visit-clause-trees : goal.returns-in_err-visit-clause-trees
returns-in_err-visit-clause-trees g c =
    let at = c.loop-slot in
    let seq = c.seq_mut-seq.result.now in
    let here = subst (λ (n : ℕ). slice_get at.builder.sequences n ≡ Some seq) c.new.ensures c.seq_mut-seq.ensures.value in
    let within : at.slot < length at.builder.sequences = omega (arith, at.invariant.3.0) in
    let all = one_edited c.args.builder.now.sequences at.builder.sequences at.slot seq c.visit.new.seq within at.invariant.3.1 here c.visit.ensures.edited at.invariant.4 in
    rw c.new.ensures (trees_edited c.args.builder.now.sequences (slice_set at.builder.sequences at.slot c.visit.new.seq) all.1)

pub returns-clause-inserted : goal.returns-clause-inserted
returns-clause-inserted g c =
    let at = c.loop-slot in (
      at.caller,
      record {
        type = at.invariant.1;
        entry = at.invariant.2;
        sequences = all_visited (IsInsertedOrPassed (IsPushed (goal.F-step g))) c.args.caller c.args.builder.now.sequences at.builder.sequences at.caller at.slot (omega (arith, at.invariant.3.0)) at.invariant.3;
      },
    )

pub returns-clause-trees : goal.returns-clause-trees
returns-clause-trees g c = trees_edited c.args.builder.now.sequences c.loop-slot.builder.sequences c.loop-slot.invariant.4.1
