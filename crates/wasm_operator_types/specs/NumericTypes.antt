-- The types of operators of one, two and three operands.
use Rattle.std.specs.Prelude.{◌≡◌, ℕ, [], ◌∷◌, Option, Some, None, Ok, Err}
use Rattle.wasm_types.specs.declared.val_type.ValType.{ValType}
use Rattle.wasm_types.specs.declared.unary.UnaryOp.{UnaryOp}
use Rattle.wasm_types.specs.declared.binary.BinaryOp.{BinaryOp}
use Rattle.wasm_types.specs.declared.ternary.TernaryOp.{TernaryOp}
use Rattle.wasm_operators.specs.UnaryOperations.{unary_operation}
use Rattle.wasm_operators.specs.BinaryOperations.{binary_operation}
use Rattle.wasm_operators.specs.TernaryOperations.{ternary_operation}
use Rattle.wasm_body.specs.Validity.{Checked, refused}
use Rattle.wasm_typing.specs.Contexts.{OperandContext}
use Rattle.wasm_typing.specs.Operands.{InstructionType, ◌⟶◌}
use Rattle.wasm_typing.specs.RuleLaws.{type_of_operator}

-- t -> u, or refused
abbrev pub one : Option (ValType ℕ × ValType ℕ) → Checked InstructionType
one (Some x) = Ok (x.0 ∷ [] ⟶ x.1 ∷ [])
one None = Err refused

-- t1 t2 -> u, or refused
abbrev pub two : Option (ValType ℕ × ValType ℕ × ValType ℕ) → Checked InstructionType
two (Some x) = Ok (x.0 ∷ x.1 ∷ [] ⟶ x.2 ∷ [])
two None = Err refused

-- t t t -> t
abbrev pub three : ValType ℕ → InstructionType
three t = t ∷ t ∷ t ∷ [] ⟶ t ∷ []

-- The type of an operator doesn't depend on the context.
abbrev pub UnaryIs : UnaryOp → Option (ValType ℕ × ValType ℕ) → Type 0
UnaryIs op r = (c : OperandContext) → type_of_operator c (unary_operation op) ≡ one r

abbrev pub BinaryIs : BinaryOp → Option (ValType ℕ × ValType ℕ × ValType ℕ) → Type 0
BinaryIs op r = (c : OperandContext) → type_of_operator c (binary_operation op) ≡ two r

abbrev pub TernaryIs : TernaryOp → ValType ℕ → Type 0
TernaryIs op t = (c : OperandContext) → type_of_operator c (ternary_operation op) ≡ Ok (three t)
