use Rattle.wasm_body.proofs.ReadBack.OtherLocations.{any_locations}
use Rattle.wasm_body.proofs.laws.law_any_locations.Goals as goal

pub returns : goal.returns
returns g c = any_locations _
