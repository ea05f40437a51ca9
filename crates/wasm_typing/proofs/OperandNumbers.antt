-- Operators of one, two and three operands, family by family.
use Rattle.std.proofs.Common.{◌≡◌, ℕ, [], ◌∷◌, Bool, true, false, length, refl}
use Rattle.std.specs.Prelude.{nat_lt, Ok}
use Rattle.wasm_types.specs.declared.binary.BinaryOp.TheVariants as binary
use Rattle.wasm_types.specs.declared.ternary.TernaryOp.TheVariants as ternary
use Rattle.wasm_types.specs.declared.unary.UnaryOp.TheVariants as unary
use Rattle.wasm_numbers.specs.Results.{◌>>=◌}
use Rattle.wasm_operators.specs.Operations.{lane}
use Rattle.wasm_body.specs.Validity.{demand}
use Rattle.wasm_typing.specs.Operands.{InstructionType}
use Rattle.wasm_typing.specs.RuleLaws.{TakesNumber, UnaryTakeOne, BinaryTakeTwo, TernaryTakeThree}

-- an operator with a lane, which may be refused
with_lane : (n idx : ℕ) (allowed : Bool) (t : InstructionType) → length t.takes ≡ n → length t.gives ≡ 1
    → TakesNumber n (lane idx ∷ []) (demand allowed >>= λ u. Ok t)
with_lane n idx true t h g = (h, g)
with_lane n idx false t h g = tt

pub unary_take_one : UnaryTakeOne
unary_take_one c (unary.I8x16ExtractLaneS idx) = with_lane 1 idx (nat_lt idx 16) _ refl refl
unary_take_one c (unary.I8x16ExtractLaneU idx) = with_lane 1 idx (nat_lt idx 16) _ refl refl
unary_take_one c (unary.I16x8ExtractLaneS idx) = with_lane 1 idx (nat_lt idx 8) _ refl refl
unary_take_one c (unary.I16x8ExtractLaneU idx) = with_lane 1 idx (nat_lt idx 8) _ refl refl
unary_take_one c (unary.I32x4ExtractLane idx) = with_lane 1 idx (nat_lt idx 4) _ refl refl
unary_take_one c (unary.I64x2ExtractLane idx) = with_lane 1 idx (nat_lt idx 2) _ refl refl
unary_take_one c (unary.F32x4ExtractLane idx) = with_lane 1 idx (nat_lt idx 4) _ refl refl
unary_take_one c (unary.F64x2ExtractLane idx) = with_lane 1 idx (nat_lt idx 2) _ refl refl
unary_take_one c _ = (refl, refl)

pub binary_take_two : BinaryTakeTwo
binary_take_two c (binary.I8x16ReplaceLane idx) = with_lane 2 idx (nat_lt idx 16) _ refl refl
binary_take_two c (binary.I16x8ReplaceLane idx) = with_lane 2 idx (nat_lt idx 8) _ refl refl
binary_take_two c (binary.I32x4ReplaceLane idx) = with_lane 2 idx (nat_lt idx 4) _ refl refl
binary_take_two c (binary.I64x2ReplaceLane idx) = with_lane 2 idx (nat_lt idx 2) _ refl refl
binary_take_two c (binary.F32x4ReplaceLane idx) = with_lane 2 idx (nat_lt idx 4) _ refl refl
binary_take_two c (binary.F64x2ReplaceLane idx) = with_lane 2 idx (nat_lt idx 2) _ refl refl
binary_take_two c _ = (refl, refl)

pub ternary_take_three : TernaryTakeThree
ternary_take_three c ternary.F32x4RelaxedMadd = (refl, refl)
ternary_take_three c _ = (refl, refl)
