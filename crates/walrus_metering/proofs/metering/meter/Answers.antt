use Rattle.std.specs.Prelude.{Some, slice_get, slice_set}
use Rattle.std.proofs.Common.{◌≡◌, ◌+◌, ℕ, suc, List, sym, ap, ◌∙◌, subst, arith}
use Rattle.walrus_ir.specs.declared.seq.InstrSeq.{InstrSeq}
use Rattle.walrus_ir.specs.Function.{Function, with_sequence}
use Rattle.walrus_metering.specs.MeteredInstructions.{metered_sequence}
use Rattle.walrus_metering.proofs.Slots.{changed_below, next_is, one_changed, set_same, in_any_case, same_function}
use Rattle.walrus_metering.proofs.metering.meter.Goals as goal

pub returns-in_err-meter_sequence-clause-err : goal.returns-in_err-meter_sequence-clause-err
returns-in_err-meter_sequence-clause-err c =
    let at = c.loop-slot in
    let f = metered_sequence c.args.costs.now c.args.charge.now in
    let old = c.args.builder.now.sequences in
    let seq = c.seq_mut-seq.result.now in
    let new = c.meter_sequence.new.seq in
    let here : slice_get at.builder.sequences at.slot ≡ Some seq =
    subst (λ (n : ℕ). slice_get at.builder.sequences n ≡ Some seq) c.new.ensures c.seq_mut-seq.ensures.value in
    let same : slice_set at.builder.sequences c.new.result new ≡ changed_below f at.slot old =
    ap (λ (n : ℕ). slice_set at.builder.sequences n new) c.new.ensures
    ∙ ap (λ s. slice_set at.builder.sequences at.slot s) c.in_err-meter_sequence.ensures.err
    ∙ set_same at.builder.sequences at.slot seq here
    ∙ at.invariant.2 in
    let wanted : Function = record c.args.builder.now { sequences = changed_below f at.slot old } in
    in_any_case c.from_residual.result (at.slot, same_function (with_sequence at.builder c.new.result new) wanted at.invariant.0 same at.invariant.1)

pub loop-slot-preserved : goal.loop-slot-preserved
loop-slot-preserved c =
    let at = c.loop-slot in
    let f = metered_sequence c.args.costs.now c.args.charge.now in
    let old = c.args.builder.now.sequences in
    let seq = c.seq_mut-seq.result.now in
    let new = c.meter_sequence.new.seq in
    let here : slice_get at.builder.sequences at.slot ≡ Some seq =
    subst (λ (n : ℕ). slice_get at.builder.sequences n ≡ Some seq) c.new.ensures c.seq_mut-seq.ensures.value in
    let known : slice_get old at.slot ≡ Some seq =
    sym (next_is f old at.slot) ∙ ap (λ (xs : List InstrSeq). slice_get xs at.slot) (sym at.invariant.2) ∙ here in
    let next : suc at.slot ≡ at.slot + 1 = omega arith in
    let made : slice_set at.builder.sequences c.new.result new ≡ changed_below f (at.slot + 1) old =
    ap (λ (n : ℕ). slice_set at.builder.sequences n new) c.new.ensures
    ∙ ap (λ s. slice_set at.builder.sequences at.slot s) c.in_ok-meter_sequence.ensures.ok
    ∙ ap (λ (xs : List InstrSeq). slice_set xs at.slot (f seq)) at.invariant.2
    ∙ one_changed f old at.slot seq known
    ∙ ap (λ n. changed_below f n old) next in
    (at.invariant.0, at.invariant.1, made)
