use Rattle.wasm_typing.proofs.OperandLemmas.{typed_operators}
use Rattle.wasm_typing.proofs.laws.law_typed_operators.Goals as goal

pub returns : goal.returns
returns c = typed_operators
