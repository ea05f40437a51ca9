-- Loads and stores: the opcode of each, one row for each operator (WebAssembly core specification 3.0, binary format, memory
-- instructions; the proposal for threads).
use Rattle.std.specs.Prelude.{true, false, [], ◌∷◌}
use Rattle.wasm_types.specs.declared.memory.LoadKind.{LoadKind}
use Rattle.wasm_types.specs.declared.memory.LoadKind.TheVariants as load
use Rattle.wasm_types.specs.declared.memory.ExtendedLoad.TheVariants.{SignExtend, ZeroExtend, ZeroExtendAtomic}
use Rattle.wasm_types.specs.declared.memory.StoreKind.{StoreKind}
use Rattle.wasm_types.specs.declared.memory.StoreKind.TheVariants as store
use Rattle.wasm_operators.specs.declared.types.Opcode.{Opcode}
use Rattle.wasm_operators.specs.declared.types.Opcode.TheVariants.{Byte, Prefixed}
use Rattle.wasm_operators.specs.declared.types.RawMemArg.{RawMemArg}
use Rattle.wasm_operators.specs.Operations.{Access, access, Operation, operation}

abbrev pub load_opcode : LoadKind → Opcode
load_opcode (load.I32 false) = Byte 0x28
load_opcode (load.I64 false) = Byte 0x29
load_opcode load.F32 = Byte 0x2a
load_opcode load.F64 = Byte 0x2b
load_opcode (load.I32_8 SignExtend) = Byte 0x2c
load_opcode (load.I32_8 ZeroExtend) = Byte 0x2d
load_opcode (load.I32_16 SignExtend) = Byte 0x2e
load_opcode (load.I32_16 ZeroExtend) = Byte 0x2f
load_opcode (load.I64_8 SignExtend) = Byte 0x30
load_opcode (load.I64_8 ZeroExtend) = Byte 0x31
load_opcode (load.I64_16 SignExtend) = Byte 0x32
load_opcode (load.I64_16 ZeroExtend) = Byte 0x33
load_opcode (load.I64_32 SignExtend) = Byte 0x34
load_opcode (load.I64_32 ZeroExtend) = Byte 0x35
load_opcode load.V128 = Prefixed 0xfd 0
load_opcode (load.I32 true) = Prefixed 0xfe 0x10
load_opcode (load.I64 true) = Prefixed 0xfe 0x11
load_opcode (load.I32_8 ZeroExtendAtomic) = Prefixed 0xfe 0x12
load_opcode (load.I32_16 ZeroExtendAtomic) = Prefixed 0xfe 0x13
load_opcode (load.I64_8 ZeroExtendAtomic) = Prefixed 0xfe 0x14
load_opcode (load.I64_16 ZeroExtendAtomic) = Prefixed 0xfe 0x15
load_opcode (load.I64_32 ZeroExtendAtomic) = Prefixed 0xfe 0x16

abbrev pub store_opcode : StoreKind → Opcode
store_opcode (store.I32 false) = Byte 0x36
store_opcode (store.I64 false) = Byte 0x37
store_opcode store.F32 = Byte 0x38
store_opcode store.F64 = Byte 0x39
store_opcode (store.I32_8 false) = Byte 0x3a
store_opcode (store.I32_16 false) = Byte 0x3b
store_opcode (store.I64_8 false) = Byte 0x3c
store_opcode (store.I64_16 false) = Byte 0x3d
store_opcode (store.I64_32 false) = Byte 0x3e
store_opcode store.V128 = Prefixed 0xfd 11
store_opcode (store.I32 true) = Prefixed 0xfe 0x17
store_opcode (store.I64 true) = Prefixed 0xfe 0x18
store_opcode (store.I32_8 true) = Prefixed 0xfe 0x19
store_opcode (store.I32_16 true) = Prefixed 0xfe 0x1a
store_opcode (store.I64_8 true) = Prefixed 0xfe 0x1b
store_opcode (store.I64_16 true) = Prefixed 0xfe 0x1c
store_opcode (store.I64_32 true) = Prefixed 0xfe 0x1d

-- the access that a raw memory argument describes
abbrev pub access_of : RawMemArg → Access
access_of memarg = record { alignment = memarg.exponent; memory = memarg.memory; offset = memarg.offset }

abbrev pub memarg_of : Access → RawMemArg
memarg_of a = record { exponent = a.alignment; memory = a.memory; offset = a.offset }

abbrev pub load_operation : {L B : Type 0} → LoadKind → Access → Operation L B
load_operation kind a = operation (load_opcode kind) (access a ∷ [])

abbrev pub store_operation : {L B : Type 0} → StoreKind → Access → Operation L B
store_operation kind a = operation (store_opcode kind) (access a ∷ [])
