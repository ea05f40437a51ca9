-- Atomic operators that read, modify and write: the opcode of each (the proposal for threads). Each kind has seven opcodes in a
-- row, one for each width.
use Rattle.std.specs.Prelude.{ℕ, ◌+◌, [], ◌∷◌}
use Rattle.wasm_types.specs.declared.memory.AtomicOp.{AtomicOp}
use Rattle.wasm_types.specs.declared.memory.AtomicOp.TheVariants.{Add, Sub, And, Or, Xor, Xchg}
use Rattle.wasm_types.specs.declared.memory.AtomicWidth.{AtomicWidth}
use Rattle.wasm_types.specs.declared.memory.AtomicWidth.TheVariants.{I32, I32_8, I32_16, I64, I64_8, I64_16, I64_32}
use Rattle.wasm_operators.specs.declared.types.AtomicKind.{AtomicKind}
use Rattle.wasm_operators.specs.declared.types.AtomicKind.TheVariants.{Notify, Wait32, Wait64, Rmw, Cmpxchg}
use Rattle.wasm_operators.specs.declared.types.Opcode.{Opcode}
use Rattle.wasm_operators.specs.declared.types.Opcode.TheVariants.{Prefixed}
use Rattle.wasm_operators.specs.Operations.{Access, access, Operation, operation}

-- the position of a width in the order of the seven opcodes
abbrev pub width_number : AtomicWidth → ℕ
width_number I32 = 0
width_number I64 = 1
width_number I32_8 = 2
width_number I32_16 = 3
width_number I64_8 = 4
width_number I64_16 = 5
width_number I64_32 = 6

-- the number of the first of the seven opcodes
abbrev pub first_atomic : AtomicOp → ℕ
first_atomic Add = 0x1e
first_atomic Sub = 0x25
first_atomic And = 0x2c
first_atomic Or = 0x33
first_atomic Xor = 0x3a
first_atomic Xchg = 0x41

abbrev pub rmw_opcode : AtomicOp → AtomicWidth → Opcode
rmw_opcode op width = Prefixed 0xfe (first_atomic op + width_number width)

abbrev pub cmpxchg_opcode : AtomicWidth → Opcode
cmpxchg_opcode width = Prefixed 0xfe (0x48 + width_number width)

abbrev pub atomic_opcode : AtomicKind → Opcode
atomic_opcode Notify = Prefixed 0xfe 0
atomic_opcode Wait32 = Prefixed 0xfe 1
atomic_opcode Wait64 = Prefixed 0xfe 2
atomic_opcode (Rmw op width) = rmw_opcode op width
atomic_opcode (Cmpxchg width) = cmpxchg_opcode width

abbrev pub atomic_operation : {L B : Type 0} → AtomicKind → Access → Operation L B
atomic_operation kind a = operation (atomic_opcode kind) (access a ∷ [])
