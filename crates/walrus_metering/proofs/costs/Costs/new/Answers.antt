use Rattle.std.specs.Prelude.{slice_get}
use Rattle.std.proofs.Common.{◌≡◌, ℕ, List, replicate, sym, subst}
use Rattle.walrus_metering.specs.OperatorCosts.{operator_slot, cost_or_one}
use Rattle.walrus_metering.proofs.Tables.{each_costs_one}
use Rattle.walrus_metering.proofs.costs.Costs.new.Goals as goal

pub returns : goal.returns
returns c = λ opcode.
    let made : c.in_ok-rows.rows.items ≡ replicate 2304 1 = c.in_ok-rows.ensures.items_if_clones_equal (λ y e. e) in
    subst (λ (l : List ℕ). cost_or_one (slice_get l (operator_slot opcode)) ≡ 1) (sym made) (each_costs_one 2304 (operator_slot opcode))
