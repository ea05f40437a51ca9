use Rattle.wasm_typing.proofs.OperandNumbers.{unary_take_one, binary_take_two, ternary_take_three}
use Rattle.wasm_typing.proofs.laws.law_operand_numbers.Goals as goal

pub returns : goal.returns
returns c = record { unary = unary_take_one; binary = binary_take_two; ternary = ternary_take_three }
