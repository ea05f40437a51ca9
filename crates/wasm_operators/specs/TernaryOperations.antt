-- Operators of three operands: the opcode of each, one row for each operator (WebAssembly core specification 3.0, binary
-- format, vector instructions).
use Rattle.std.specs.Prelude.{[]}
use Rattle.wasm_types.specs.declared.ternary.TernaryOp.{TernaryOp}
use Rattle.wasm_types.specs.declared.ternary.TernaryOp.TheVariants as ternary
use Rattle.wasm_operators.specs.declared.types.Opcode.{Opcode}
use Rattle.wasm_operators.specs.declared.types.Opcode.TheVariants.{Prefixed}
use Rattle.wasm_operators.specs.Operations.{Operation, operation}

abbrev pub ternary_opcode : TernaryOp → Opcode
ternary_opcode ternary.F32x4RelaxedMadd = Prefixed 0xfd 261
ternary_opcode ternary.F32x4RelaxedNmadd = Prefixed 0xfd 262
ternary_opcode ternary.F64x2RelaxedMadd = Prefixed 0xfd 263
ternary_opcode ternary.F64x2RelaxedNmadd = Prefixed 0xfd 264
ternary_opcode ternary.I8x16RelaxedLaneselect = Prefixed 0xfd 265
ternary_opcode ternary.I16x8RelaxedLaneselect = Prefixed 0xfd 266
ternary_opcode ternary.I32x4RelaxedLaneselect = Prefixed 0xfd 267
ternary_opcode ternary.I64x2RelaxedLaneselect = Prefixed 0xfd 268
ternary_opcode ternary.I32x4RelaxedDotI8x16I7x16AddS = Prefixed 0xfd 275

abbrev pub ternary_operation : {L B : Type 0} → TernaryOp → Operation L B
ternary_operation op = operation (ternary_opcode op) []
