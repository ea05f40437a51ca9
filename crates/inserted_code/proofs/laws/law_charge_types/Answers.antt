use Rattle.inserted_code.proofs.ChargeTypes.{typed_charges_are_probes}
use Rattle.inserted_code.proofs.laws.law_charge_types.Goals as goal

pub returns : goal.returns
returns c = typed_charges_are_probes
