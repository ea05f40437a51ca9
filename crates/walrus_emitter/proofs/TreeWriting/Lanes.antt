-- Operators of one or two operands whose opcode is one byte have no lane.
use Rattle.std.specs.Prelude.{◌≡◌, ℕ, []}
use Rattle.wasm_types.specs.declared.unary.UnaryOp.{UnaryOp}
use Rattle.wasm_types.specs.declared.unary.UnaryOp.TheVariants as unary
use Rattle.wasm_types.specs.declared.binary.BinaryOp.{BinaryOp}
use Rattle.wasm_types.specs.declared.binary.BinaryOp.TheVariants as binary
use Rattle.wasm_operators.specs.declared.types.Opcode.TheVariants.{Byte}
use Rattle.wasm_operators.specs.UnaryOperations.{unary_opcode, unary_operation}
use Rattle.wasm_operators.specs.BinaryOperations.{binary_opcode, binary_operation}
use Rattle.wasm_operators.specs.Operations.{operation}
use Rattle.wasm_body.specs.InstructionTable.{PlacedOperation}

abbrev IsByte : PlacedOperation → ℕ → Type 0
IsByte o byte = o ≡ operation (Byte byte) []

pub unary_byte : (op : UnaryOp) (byte : ℕ) → unary_opcode op ≡ Byte byte → IsByte (unary_operation op) byte
unary_byte (unary.I8x16ExtractLaneS idx) byte e = absurd cc
unary_byte (unary.I8x16ExtractLaneU idx) byte e = absurd cc
unary_byte (unary.I16x8ExtractLaneS idx) byte e = absurd cc
unary_byte (unary.I16x8ExtractLaneU idx) byte e = absurd cc
unary_byte (unary.I32x4ExtractLane idx) byte e = absurd cc
unary_byte (unary.I64x2ExtractLane idx) byte e = absurd cc
unary_byte (unary.F32x4ExtractLane idx) byte e = absurd cc
unary_byte (unary.F64x2ExtractLane idx) byte e = absurd cc
unary_byte _ byte e = λ i. operation (e i) []

pub binary_byte : (op : BinaryOp) (byte : ℕ) → binary_opcode op ≡ Byte byte → IsByte (binary_operation op) byte
binary_byte (binary.I8x16ReplaceLane idx) byte e = absurd cc
binary_byte (binary.I16x8ReplaceLane idx) byte e = absurd cc
binary_byte (binary.I32x4ReplaceLane idx) byte e = absurd cc
binary_byte (binary.I64x2ReplaceLane idx) byte e = absurd cc
binary_byte (binary.F32x4ReplaceLane idx) byte e = absurd cc
binary_byte (binary.F64x2ReplaceLane idx) byte e = absurd cc
binary_byte _ byte e = λ i. operation (e i) []
