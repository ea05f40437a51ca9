use Rattle.wasm_typing.proofs.OperandLemmas.{validity_is_tested, standard_validity_kept}
use Rattle.wasm_typing.proofs.laws.law_standard_validity.Goals as goal

pub returns : goal.returns
returns c = record { tested = validity_is_tested; kept = standard_validity_kept }
