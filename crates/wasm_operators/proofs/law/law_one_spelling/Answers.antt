use Rattle.wasm_numbers.proofs.Agreement.{one_spelling}
use Rattle.wasm_operators.proofs.OperationLaws.{operations_agree}
use Rattle.wasm_operators.proofs.law.law_one_spelling.Goals as goal

pub returns : goal.returns
returns c = one_spelling operations_agree
