-- Operators of one operand: the opcode of each, one row for each operator, and its lane if it has one (WebAssembly core
-- specification 3.0, binary format, numeric and vector instructions). Each operator is in one of these tables.
use Rattle.std.specs.Prelude.{List, [], ◌∷◌, Option, Some, None}
use Rattle.wasm_types.specs.declared.unary.UnaryOp.{UnaryOp}
use Rattle.wasm_types.specs.declared.unary.UnaryOp.TheVariants as unary
use Rattle.wasm_operators.specs.declared.types.Opcode.{Opcode}
use Rattle.wasm_operators.specs.declared.types.Opcode.TheVariants.{Byte, Prefixed}
use Rattle.wasm_operators.specs.Rows.{first_some, the_row}
use Rattle.wasm_operators.specs.Operations.{Immediate, lane, Operation, operation}

-- operators that extract a lane
abbrev pub extract_opcode : UnaryOp → Option Opcode
extract_opcode (unary.I8x16ExtractLaneS idx) = Some (Prefixed 0xfd 21)
extract_opcode (unary.I8x16ExtractLaneU idx) = Some (Prefixed 0xfd 22)
extract_opcode (unary.I16x8ExtractLaneS idx) = Some (Prefixed 0xfd 24)
extract_opcode (unary.I16x8ExtractLaneU idx) = Some (Prefixed 0xfd 25)
extract_opcode (unary.I32x4ExtractLane idx) = Some (Prefixed 0xfd 27)
extract_opcode (unary.I64x2ExtractLane idx) = Some (Prefixed 0xfd 29)
extract_opcode (unary.F32x4ExtractLane idx) = Some (Prefixed 0xfd 31)
extract_opcode (unary.F64x2ExtractLane idx) = Some (Prefixed 0xfd 33)
extract_opcode _ = None

-- 0xfd from 128 on
abbrev pub high_vector_unary_opcode : UnaryOp → Option Opcode
high_vector_unary_opcode unary.I16x8Abs = Some (Prefixed 0xfd 128)
high_vector_unary_opcode unary.I16x8Neg = Some (Prefixed 0xfd 129)
high_vector_unary_opcode unary.I16x8AllTrue = Some (Prefixed 0xfd 131)
high_vector_unary_opcode unary.I16x8Bitmask = Some (Prefixed 0xfd 132)
high_vector_unary_opcode unary.I16x8WidenLowI8x16S = Some (Prefixed 0xfd 135)
high_vector_unary_opcode unary.I16x8WidenHighI8x16S = Some (Prefixed 0xfd 136)
high_vector_unary_opcode unary.I16x8WidenLowI8x16U = Some (Prefixed 0xfd 137)
high_vector_unary_opcode unary.I16x8WidenHighI8x16U = Some (Prefixed 0xfd 138)
high_vector_unary_opcode unary.F64x2Nearest = Some (Prefixed 0xfd 148)
high_vector_unary_opcode unary.I32x4Abs = Some (Prefixed 0xfd 160)
high_vector_unary_opcode unary.I32x4Neg = Some (Prefixed 0xfd 161)
high_vector_unary_opcode unary.I32x4AllTrue = Some (Prefixed 0xfd 163)
high_vector_unary_opcode unary.I32x4Bitmask = Some (Prefixed 0xfd 164)
high_vector_unary_opcode unary.I32x4WidenLowI16x8S = Some (Prefixed 0xfd 167)
high_vector_unary_opcode unary.I32x4WidenHighI16x8S = Some (Prefixed 0xfd 168)
high_vector_unary_opcode unary.I32x4WidenLowI16x8U = Some (Prefixed 0xfd 169)
high_vector_unary_opcode unary.I32x4WidenHighI16x8U = Some (Prefixed 0xfd 170)
high_vector_unary_opcode unary.I64x2Abs = Some (Prefixed 0xfd 192)
high_vector_unary_opcode unary.I64x2Neg = Some (Prefixed 0xfd 193)
high_vector_unary_opcode unary.I64x2AllTrue = Some (Prefixed 0xfd 195)
high_vector_unary_opcode unary.I64x2Bitmask = Some (Prefixed 0xfd 196)
high_vector_unary_opcode unary.I64x2ExtendLowI32x4S = Some (Prefixed 0xfd 199)
high_vector_unary_opcode unary.I64x2ExtendHighI32x4S = Some (Prefixed 0xfd 200)
high_vector_unary_opcode unary.I64x2ExtendLowI32x4U = Some (Prefixed 0xfd 201)
high_vector_unary_opcode unary.I64x2ExtendHighI32x4U = Some (Prefixed 0xfd 202)
high_vector_unary_opcode unary.F32x4Abs = Some (Prefixed 0xfd 224)
high_vector_unary_opcode unary.F32x4Neg = Some (Prefixed 0xfd 225)
high_vector_unary_opcode unary.F32x4Sqrt = Some (Prefixed 0xfd 227)
high_vector_unary_opcode unary.F64x2Abs = Some (Prefixed 0xfd 236)
high_vector_unary_opcode unary.F64x2Neg = Some (Prefixed 0xfd 237)
high_vector_unary_opcode unary.F64x2Sqrt = Some (Prefixed 0xfd 239)
high_vector_unary_opcode unary.I32x4TruncSatF32x4S = Some (Prefixed 0xfd 248)
high_vector_unary_opcode unary.I32x4TruncSatF32x4U = Some (Prefixed 0xfd 249)
high_vector_unary_opcode unary.F32x4ConvertI32x4S = Some (Prefixed 0xfd 250)
high_vector_unary_opcode unary.F32x4ConvertI32x4U = Some (Prefixed 0xfd 251)
high_vector_unary_opcode unary.I32x4TruncSatF64x2SZero = Some (Prefixed 0xfd 252)
high_vector_unary_opcode unary.I32x4TruncSatF64x2UZero = Some (Prefixed 0xfd 253)
high_vector_unary_opcode unary.F64x2ConvertLowI32x4S = Some (Prefixed 0xfd 254)
high_vector_unary_opcode unary.F64x2ConvertLowI32x4U = Some (Prefixed 0xfd 255)
high_vector_unary_opcode unary.I32x4RelaxedTruncF32x4S = Some (Prefixed 0xfd 257)
high_vector_unary_opcode unary.I32x4RelaxedTruncF32x4U = Some (Prefixed 0xfd 258)
high_vector_unary_opcode unary.I32x4RelaxedTruncF64x2SZero = Some (Prefixed 0xfd 259)
high_vector_unary_opcode unary.I32x4RelaxedTruncF64x2UZero = Some (Prefixed 0xfd 260)
high_vector_unary_opcode _ = None

-- 0xfd 15 to 127
abbrev pub low_vector_unary_opcode : UnaryOp → Option Opcode
low_vector_unary_opcode unary.I8x16Splat = Some (Prefixed 0xfd 15)
low_vector_unary_opcode unary.I16x8Splat = Some (Prefixed 0xfd 16)
low_vector_unary_opcode unary.I32x4Splat = Some (Prefixed 0xfd 17)
low_vector_unary_opcode unary.I64x2Splat = Some (Prefixed 0xfd 18)
low_vector_unary_opcode unary.F32x4Splat = Some (Prefixed 0xfd 19)
low_vector_unary_opcode unary.F64x2Splat = Some (Prefixed 0xfd 20)
low_vector_unary_opcode unary.V128Not = Some (Prefixed 0xfd 77)
low_vector_unary_opcode unary.V128AnyTrue = Some (Prefixed 0xfd 83)
low_vector_unary_opcode unary.F32x4DemoteF64x2Zero = Some (Prefixed 0xfd 94)
low_vector_unary_opcode unary.F64x2PromoteLowF32x4 = Some (Prefixed 0xfd 95)
low_vector_unary_opcode unary.I8x16Abs = Some (Prefixed 0xfd 96)
low_vector_unary_opcode unary.I8x16Neg = Some (Prefixed 0xfd 97)
low_vector_unary_opcode unary.I8x16Popcnt = Some (Prefixed 0xfd 98)
low_vector_unary_opcode unary.I8x16AllTrue = Some (Prefixed 0xfd 99)
low_vector_unary_opcode unary.I8x16Bitmask = Some (Prefixed 0xfd 100)
low_vector_unary_opcode unary.F32x4Ceil = Some (Prefixed 0xfd 103)
low_vector_unary_opcode unary.F32x4Floor = Some (Prefixed 0xfd 104)
low_vector_unary_opcode unary.F32x4Trunc = Some (Prefixed 0xfd 105)
low_vector_unary_opcode unary.F32x4Nearest = Some (Prefixed 0xfd 106)
low_vector_unary_opcode unary.F64x2Ceil = Some (Prefixed 0xfd 116)
low_vector_unary_opcode unary.F64x2Floor = Some (Prefixed 0xfd 117)
low_vector_unary_opcode unary.F64x2Trunc = Some (Prefixed 0xfd 122)
low_vector_unary_opcode unary.I16x8ExtAddPairwiseI8x16S = Some (Prefixed 0xfd 124)
low_vector_unary_opcode unary.I16x8ExtAddPairwiseI8x16U = Some (Prefixed 0xfd 125)
low_vector_unary_opcode unary.I32x4ExtAddPairwiseI16x8S = Some (Prefixed 0xfd 126)
low_vector_unary_opcode unary.I32x4ExtAddPairwiseI16x8U = Some (Prefixed 0xfd 127)
low_vector_unary_opcode _ = None

-- opcodes of one byte, and 0xfc 0 to 7
abbrev pub scalar_unary_opcode : UnaryOp → Option Opcode
scalar_unary_opcode unary.I32Eqz = Some (Byte 0x45)
scalar_unary_opcode unary.I64Eqz = Some (Byte 0x50)
scalar_unary_opcode unary.I32Clz = Some (Byte 0x67)
scalar_unary_opcode unary.I32Ctz = Some (Byte 0x68)
scalar_unary_opcode unary.I32Popcnt = Some (Byte 0x69)
scalar_unary_opcode unary.I64Clz = Some (Byte 0x79)
scalar_unary_opcode unary.I64Ctz = Some (Byte 0x7a)
scalar_unary_opcode unary.I64Popcnt = Some (Byte 0x7b)
scalar_unary_opcode unary.F32Abs = Some (Byte 0x8b)
scalar_unary_opcode unary.F32Neg = Some (Byte 0x8c)
scalar_unary_opcode unary.F32Ceil = Some (Byte 0x8d)
scalar_unary_opcode unary.F32Floor = Some (Byte 0x8e)
scalar_unary_opcode unary.F32Trunc = Some (Byte 0x8f)
scalar_unary_opcode unary.F32Nearest = Some (Byte 0x90)
scalar_unary_opcode unary.F32Sqrt = Some (Byte 0x91)
scalar_unary_opcode unary.F64Abs = Some (Byte 0x99)
scalar_unary_opcode unary.F64Neg = Some (Byte 0x9a)
scalar_unary_opcode unary.F64Ceil = Some (Byte 0x9b)
scalar_unary_opcode unary.F64Floor = Some (Byte 0x9c)
scalar_unary_opcode unary.F64Trunc = Some (Byte 0x9d)
scalar_unary_opcode unary.F64Nearest = Some (Byte 0x9e)
scalar_unary_opcode unary.F64Sqrt = Some (Byte 0x9f)
scalar_unary_opcode unary.I32WrapI64 = Some (Byte 0xa7)
scalar_unary_opcode unary.I32TruncSF32 = Some (Byte 0xa8)
scalar_unary_opcode unary.I32TruncUF32 = Some (Byte 0xa9)
scalar_unary_opcode unary.I32TruncSF64 = Some (Byte 0xaa)
scalar_unary_opcode unary.I32TruncUF64 = Some (Byte 0xab)
scalar_unary_opcode unary.I64ExtendSI32 = Some (Byte 0xac)
scalar_unary_opcode unary.I64ExtendUI32 = Some (Byte 0xad)
scalar_unary_opcode unary.I64TruncSF32 = Some (Byte 0xae)
scalar_unary_opcode unary.I64TruncUF32 = Some (Byte 0xaf)
scalar_unary_opcode unary.I64TruncSF64 = Some (Byte 0xb0)
scalar_unary_opcode unary.I64TruncUF64 = Some (Byte 0xb1)
scalar_unary_opcode unary.F32ConvertSI32 = Some (Byte 0xb2)
scalar_unary_opcode unary.F32ConvertUI32 = Some (Byte 0xb3)
scalar_unary_opcode unary.F32ConvertSI64 = Some (Byte 0xb4)
scalar_unary_opcode unary.F32ConvertUI64 = Some (Byte 0xb5)
scalar_unary_opcode unary.F32DemoteF64 = Some (Byte 0xb6)
scalar_unary_opcode unary.F64ConvertSI32 = Some (Byte 0xb7)
scalar_unary_opcode unary.F64ConvertUI32 = Some (Byte 0xb8)
scalar_unary_opcode unary.F64ConvertSI64 = Some (Byte 0xb9)
scalar_unary_opcode unary.F64ConvertUI64 = Some (Byte 0xba)
scalar_unary_opcode unary.F64PromoteF32 = Some (Byte 0xbb)
scalar_unary_opcode unary.I32ReinterpretF32 = Some (Byte 0xbc)
scalar_unary_opcode unary.I64ReinterpretF64 = Some (Byte 0xbd)
scalar_unary_opcode unary.F32ReinterpretI32 = Some (Byte 0xbe)
scalar_unary_opcode unary.F64ReinterpretI64 = Some (Byte 0xbf)
scalar_unary_opcode unary.I32Extend8S = Some (Byte 0xc0)
scalar_unary_opcode unary.I32Extend16S = Some (Byte 0xc1)
scalar_unary_opcode unary.I64Extend8S = Some (Byte 0xc2)
scalar_unary_opcode unary.I64Extend16S = Some (Byte 0xc3)
scalar_unary_opcode unary.I64Extend32S = Some (Byte 0xc4)
scalar_unary_opcode unary.I32TruncSSatF32 = Some (Prefixed 0xfc 0)
scalar_unary_opcode unary.I32TruncUSatF32 = Some (Prefixed 0xfc 1)
scalar_unary_opcode unary.I32TruncSSatF64 = Some (Prefixed 0xfc 2)
scalar_unary_opcode unary.I32TruncUSatF64 = Some (Prefixed 0xfc 3)
scalar_unary_opcode unary.I64TruncSSatF32 = Some (Prefixed 0xfc 4)
scalar_unary_opcode unary.I64TruncUSatF32 = Some (Prefixed 0xfc 5)
scalar_unary_opcode unary.I64TruncSSatF64 = Some (Prefixed 0xfc 6)
scalar_unary_opcode unary.I64TruncUSatF64 = Some (Prefixed 0xfc 7)
scalar_unary_opcode _ = None

-- the row of an operator; each has one
abbrev pub unary_row : UnaryOp → Option Opcode
unary_row op = first_some (scalar_unary_opcode op) (first_some (low_vector_unary_opcode op) (first_some (high_vector_unary_opcode op) (first_some (extract_opcode op) (None))))

abbrev pub unary_opcode : UnaryOp → Opcode
unary_opcode op = the_row (unary_row op)

-- the lane of an operator, if it has one
abbrev pub extract_lane : {L B : Type 0} → UnaryOp → List (Immediate L B)
extract_lane (unary.I8x16ExtractLaneS idx) = lane idx ∷ []
extract_lane (unary.I8x16ExtractLaneU idx) = lane idx ∷ []
extract_lane (unary.I16x8ExtractLaneS idx) = lane idx ∷ []
extract_lane (unary.I16x8ExtractLaneU idx) = lane idx ∷ []
extract_lane (unary.I32x4ExtractLane idx) = lane idx ∷ []
extract_lane (unary.I64x2ExtractLane idx) = lane idx ∷ []
extract_lane (unary.F32x4ExtractLane idx) = lane idx ∷ []
extract_lane (unary.F64x2ExtractLane idx) = lane idx ∷ []
extract_lane _ = []

abbrev pub unary_operation : {L B : Type 0} → UnaryOp → Operation L B
unary_operation op = operation (unary_opcode op) (extract_lane op)
