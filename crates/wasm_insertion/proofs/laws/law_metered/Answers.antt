use Rattle.wasm_insertion.proofs.Metering.{metered_is_paid, metered_is_inserted}
use Rattle.wasm_insertion.proofs.ExactMetering.{metered_is_exact}
use Rattle.wasm_insertion.proofs.laws.law_metered.Goals as goal

pub returns : goal.returns
returns g c = record { paid = metered_is_paid g.row.A.Denot; exact = metered_is_exact g.row.A.Denot; inserted = metered_is_inserted g.row.A.Denot }
