use Rattle.wasm_body.proofs.ReadBack.ReadingBack.{accepted_again}
use Rattle.wasm_body.proofs.laws.law_accepted_again.Goals as goal

pub returns : goal.returns
returns g c = accepted_again _ _
