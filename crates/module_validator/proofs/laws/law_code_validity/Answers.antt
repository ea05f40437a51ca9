use Rattle.module_validator.proofs.CodeLemmas.{valid_code_is_ok, first_fault_is_err}
use Rattle.module_validator.proofs.laws.law_code_validity.Goals as goal

pub returns-clause-valid : goal.returns-clause-valid
returns-clause-valid c = valid_code_is_ok

pub returns-clause-fault : goal.returns-clause-fault
returns-clause-fault c = first_fault_is_err
