-- The encodings of operators, and the shortest one.
use Rattle.std.specs.Prelude.{◌≡◌, ℕ, List, ◌++◌, map, Option, Some, None, Ok, Err}
use Rattle.wasm_numbers.specs.declared.fault.ReadFault.TheVariants.{UnknownOperator}
use Rattle.wasm_operators.specs.declared.types.Opcode.{Opcode}
use Rattle.wasm_numbers.specs.Reading.{Reader}
use Rattle.wasm_operators.specs.Operations.{RawOperation, operation}
use Rattle.wasm_operators.specs.Immediates.{Kind, kind_of, SpellsImmediates, immediates}
use Rattle.wasm_operators.specs.Opcodes.{kinds_of, IsOpcode, opcode}
use Rattle.wasm_numbers.specs.Results.{◌>>=◌}

-- The bytes are an encoding of the operator: of its opcode, and then of each of its immediates; the kinds of these are those of
-- the opcode.
pub record Spells (o : RawOperation) (text : List ℕ) : Type 0 where
  pub first : List ℕ
  pub others : List ℕ
  pub parts : text ≡ first ++ others
  pub opcode : IsOpcode o.opcode first
  pub kinds : kinds_of o.opcode ≡ Some (map kind_of o.immediates)
  pub immediates : SpellsImmediates o.immediates others

-- Reading an operator: its opcode, and then each immediate of the opcode's kinds.
abbrev pub operands_of : Opcode → Option (List Kind) → Reader RawOperation
operands_of o None bytes = Err UnknownOperator
operands_of o (Some kinds) bytes = immediates kinds bytes >>= λ is. Ok (operation o is.0, is.1)

abbrev pub operands : Opcode → Reader RawOperation
operands o = operands_of o (kinds_of o)

unfoldable pub read_operation : Reader RawOperation
read_operation bytes = opcode bytes >>= λ o. operands o.0 o.1
