use Rattle.std.proofs.Common.{◌<◌, ℕ, refl, ap, subst}
use Rattle.location_pairs.specs.PackedPairs.{step_to}
use Rattle.location_pairs.proofs.PackedPairs.{two_appended}
use Rattle.location_pairs.proofs.packing.pack_one.Goals as goal

pub returns-then-step-lt128-clause-packed : goal.returns-then-step-lt128-clause-packed
returns-then-step-lt128-clause-packed c =
    let last = c.args.last in
    let pair = c.args.pair in
    two_appended c.extend_from_slice.result c.args.packed.now.items c.extend_from_slice.new.self.items (step_to 64 last.place pair.1) (step_to 32 last.location pair.0) _ _ c.if-distance-lt128.true
    (subst (λ (l : ℕ). step_to 32 last.location l < 128) c.data.ensures c.if-step-lt128.true) refl (ap (λ (l : ℕ). step_to 32 last.location l) c.data.ensures)
    c.extend_from_slice.ensures.items
