-- Every operator has a row.
use Rattle.std.specs.Prelude.{◌≡◌, Some}
use Rattle.std.proofs.Common.{refl}
use Rattle.wasm_types.specs.declared.unary.UnaryOp.{UnaryOp}
use Rattle.wasm_types.specs.declared.unary.UnaryOp.TheVariants as unary
use Rattle.wasm_types.specs.declared.binary.BinaryOp.{BinaryOp}
use Rattle.wasm_types.specs.declared.binary.BinaryOp.TheVariants as binary
use Rattle.wasm_operators.specs.UnaryOperations.{unary_row, unary_opcode}
use Rattle.wasm_operators.specs.BinaryOperations.{binary_row, binary_opcode}

pub unary_has_row : (op : UnaryOp) → unary_row op ≡ Some (unary_opcode op)
unary_has_row unary.I32Eqz = refl
unary_has_row _ = refl

pub binary_has_row : (op : BinaryOp) → binary_row op ≡ Some (binary_opcode op)
binary_has_row binary.I32Add = refl
binary_has_row _ = refl
