use Rattle.wasm_validation.proofs.OneVerdict.{valid_has_no_fault, one_fault_of_code}
use Rattle.wasm_validation.proofs.laws.law_one_verdict.Goals as goal

pub returns : goal.returns
returns c = record { valid = valid_has_no_fault; one = one_fault_of_code }
