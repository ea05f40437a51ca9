-- If `same` is equality, the laws of a visitor hold for all `steps` and `refuses`.
use Rattle.std.specs.Prelude.{◌≡◌}
use Rattle.std.proofs.Common.{subst}
use Rattle.walrus_ir.specs.Events.{WalkEvent, AreStepsAlike, AreRefusalsAlike}

-- equal states take the same steps to equal states
pub equal_steps_alike : {V : Type 0} (steps : V → WalkEvent → V → Type 0) → AreStepsAlike ◌≡◌ steps
equal_steps_alike {V = V} steps s s' t t' e from to step =
    let P : V → Type 0 = λ w. steps w e t in
    let Q : V → Type 0 = λ w. steps s' e w in
    subst Q to (subst P from step)

-- equal states refuse the same events, with the same faults
pub equal_refusals_alike : {V F : Type 0} (refuses : V → WalkEvent → F → Type 0) → AreRefusalsAlike ◌≡◌ refuses
equal_refusals_alike {V = V} refuses s s' e f from refusal = let P : V → Type 0 = λ w. refuses w e f in subst P from refusal
