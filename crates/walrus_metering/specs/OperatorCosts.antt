-- What operators cost: a table by their opcodes.
use Rattle.std.specs.Prelude.{ℕ, ◌+◌, ◌*◌, ◌%◌, Option, Some, None, slice_get}
use Rattle.wasm_operators.specs.declared.types.Opcode.{Opcode}
use Rattle.wasm_operators.specs.declared.types.Opcode.TheVariants.{Byte, Prefixed}
use Rattle.walrus_metering.specs.declared.costs.Costs.{Costs}

-- The place of an operator in the table. Prefixes are 0xfb to 0xfe, so no two operators have the same place.
abbrev pub operator_slot : Opcode → ℕ
operator_slot (Byte b) = b
operator_slot (Prefixed prefix n) = 256 + (4 * n + prefix % 4)

-- an operator that isn't in the table costs 1
abbrev pub cost_or_one : Option ℕ → ℕ
cost_or_one (Some n) = n
cost_or_one None = 1

abbrev pub operator_cost : Costs → Opcode → ℕ
operator_cost costs opcode = cost_or_one (slice_get costs.rows.items (operator_slot opcode))
