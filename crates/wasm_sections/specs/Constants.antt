-- Constants that are written (WebAssembly core specification 3.0, binary format, global section, value types, expressions): each
-- number in its shortest encoding.
use Rattle.std.specs.Prelude.{ℕ, Bool, true, false, List, [], ◌∷◌, ◌++◌}
use Rattle.walrus_ir.specs.declared.value.Value.{Value}
use Rattle.walrus_ir.specs.declared.value.Value.TheVariants.{I32, I64, F32, F64, V128}
use Rattle.wasm_operators.specs.declared.types.Opcode.TheVariants.{Byte, Prefixed}
use Rattle.wasm_operators.specs.Operations.{RawOperation, operation, i32, i64, f32, f64, v128}
use Rattle.wasm_operators.specs.Shortest.{short}

-- the operator whose result is this value
abbrev pub constant_operation : Value → RawOperation
constant_operation (I32 z) = operation (Byte 0x41) (i32 z ∷ [])
constant_operation (I64 z) = operation (Byte 0x42) (i64 z ∷ [])
constant_operation (F32 bits) = operation (Byte 0x43) (f32 bits ∷ [])
constant_operation (F64 bits) = operation (Byte 0x44) (f64 bits ∷ [])
constant_operation (V128 bits) = operation (Prefixed 0xfd 12) (v128 bits ∷ [])

-- a constant expression with this value: the operator, and the `end`
abbrev pub constant_of : Value → List ℕ
constant_of value = short (constant_operation value) ++ 0x0b ∷ []

-- the byte of the type of a value
abbrev pub type_byte : Value → ℕ
type_byte (I32 z) = 0x7f
type_byte (I64 z) = 0x7e
type_byte (F32 bits) = 0x7d
type_byte (F64 bits) = 0x7c
type_byte (V128 bits) = 0x7b

abbrev pub mutability : (is_mutable : Bool) → ℕ
mutability false = 0
mutability true = 1

-- a global with this initial value
abbrev pub global_of : Value → (is_mutable : Bool) → List ℕ
global_of value is_mutable = type_byte value ∷ mutability is_mutable ∷ constant_of value
