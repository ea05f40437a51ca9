use Rattle.wasm_insertion.proofs.FlatInsertions.{probed_is_inserted}
use Rattle.wasm_insertion.proofs.ProbedBodies.{probed_stays_valid}
use Rattle.wasm_insertion.proofs.laws.law_inserted_valid.Goals as goal

pub returns : goal.returns
returns g c = record { stays_valid = probed_stays_valid g.row.T.Denot; is_inserted = probed_is_inserted g.row.T.Denot }
