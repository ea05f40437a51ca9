use Rattle.walrus_body.proofs.EmittedFaults.{emitted_faults}
use Rattle.walrus_body.proofs.laws.law_emitted_faults.Goals as goal

pub returns : goal.returns
returns g c = emitted_faults _ _ _
