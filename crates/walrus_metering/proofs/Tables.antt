-- A table in which each operator costs 1.
use Rattle.std.specs.Prelude.{slice_get}
use Rattle.std.proofs.Common.{◌≡◌, ℕ, zero, suc, replicate, refl}
use Rattle.walrus_metering.specs.OperatorCosts.{cost_or_one}

pub each_costs_one : (n i : ℕ) → cost_or_one (slice_get (replicate n 1) i) ≡ 1
each_costs_one zero i = refl
each_costs_one (suc n) zero = refl
each_costs_one (suc n) (suc i) = each_costs_one n i
