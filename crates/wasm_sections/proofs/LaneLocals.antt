-- A numeric operator names no local: its only immediate is a lane.
use Rattle.std.proofs.Common.{◌≡◌, ℕ, Ok, refl}
use Rattle.wasm_types.specs.declared.unary.UnaryOp.{UnaryOp}
use Rattle.wasm_types.specs.declared.unary.UnaryOp.TheVariants as unary
use Rattle.wasm_types.specs.declared.binary.BinaryOp.{BinaryOp}
use Rattle.wasm_types.specs.declared.binary.BinaryOp.TheVariants as binary
use Rattle.wasm_operators.specs.UnaryOperations.{extract_lane}
use Rattle.wasm_operators.specs.BinaryOperations.{replace_lane}
use Rattle.wasm_sections.specs.LocalsBelow.{locals_within}

pub no_unary_local : (count : ℕ) (op : UnaryOp) → locals_within count (extract_lane op) ≡ Ok count
no_unary_local count (unary.I8x16ExtractLaneS idx) = refl
no_unary_local count (unary.I8x16ExtractLaneU idx) = refl
no_unary_local count (unary.I16x8ExtractLaneS idx) = refl
no_unary_local count (unary.I16x8ExtractLaneU idx) = refl
no_unary_local count (unary.I32x4ExtractLane idx) = refl
no_unary_local count (unary.I64x2ExtractLane idx) = refl
no_unary_local count (unary.F32x4ExtractLane idx) = refl
no_unary_local count (unary.F64x2ExtractLane idx) = refl
no_unary_local count _ = refl

pub no_binary_local : (count : ℕ) (op : BinaryOp) → locals_within count (replace_lane op) ≡ Ok count
no_binary_local count (binary.I8x16ReplaceLane idx) = refl
no_binary_local count (binary.I16x8ReplaceLane idx) = refl
no_binary_local count (binary.I32x4ReplaceLane idx) = refl
no_binary_local count (binary.I64x2ReplaceLane idx) = refl
no_binary_local count (binary.F32x4ReplaceLane idx) = refl
no_binary_local count (binary.F64x2ReplaceLane idx) = refl
no_binary_local count _ = refl
