use Rattle.wasm_body.proofs.Validity.ValidNormalForms.{named_validity_kept, validity_kept}
use Rattle.wasm_body.proofs.laws.law_validity.Goals as goal

pub returns : goal.returns
returns g c = record { named = named_validity_kept; accepted = validity_kept }
