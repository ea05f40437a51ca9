use Rattle.std.proofs.Common.{◌≡◌, ◌<◌, ℕ, length, slice_get, Some, sym, subst, arith}
use Rattle.std.proofs.lemmas.Option.{get_or_from_slice_get}
use Rattle.walrus_facts.specs.Mapping.{IsCalled, IsMappedSequence}
use Rattle.walrus_facts.proofs.Changes.{one_changed, all_changed}
use Rattle.walrus_facts.proofs.mapping.map_instrs.Goals as goal

pub loop-slot-preserved : goal.loop-slot-preserved
loop-slot-preserved g c =
    let at = c.loop-slot in
    let R = IsMappedSequence (IsCalled (goal.F-step g)) in
    let seq = c.seq_mut.result.now in
    let new = c.map_sequence.new.seq in
    let here = subst (λ (n : ℕ). slice_get at.builder.sequences n ≡ Some seq) c.new.ensures c.seq_mut.ensures.value in
    let is = get_or_from_slice_get at.builder.sequences at.slot seq seq here in
    let within : at.slot < length at.builder.sequences = omega (arith, at.invariant.3.0) in (
      c.map_sequence.ensures.callable,
      at.invariant.1,
      at.invariant.2,
      rw c.new.ensures (one_changed R c.args.change c.args.builder.now.sequences at.builder.sequences at.change c.map_sequence.new.change at.slot seq new within
          (subst (λ s. R at.change s new c.map_sequence.new.change) (sym is) c.map_sequence.ensures.mapped) at.invariant.3),
    )

pub returns : goal.returns
returns g c =
    let at = c.loop-slot in (
      at.change,
      record {
        type = at.invariant.1;
        entry = at.invariant.2;
        sequences = all_changed (IsMappedSequence (IsCalled (goal.F-step g))) c.args.change c.args.builder.now.sequences at.builder.sequences at.change at.slot (omega (arith, at.invariant.3.0)) at.invariant.3;
      },
    )
