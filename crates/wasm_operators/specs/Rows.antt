-- Tables of rows, one after the other.
use Rattle.std.specs.Prelude.{Option, Some, None}
use Rattle.wasm_operators.specs.declared.types.Opcode.{Opcode}
use Rattle.wasm_operators.specs.declared.types.Opcode.TheVariants.{Byte}

abbrev pub first_some : {A : Type 0} → Option A → Option A → Option A
first_some (Some x) other = Some x
first_some None other = other

-- The opcode of a row. Every operator has one.
abbrev pub the_row : Option Opcode → Opcode
the_row (Some o) = o
the_row None = Byte 0
