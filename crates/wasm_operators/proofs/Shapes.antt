-- The immediates after an opcode can be recovered from their meanings.
use Rattle.std.proofs.Common.{◌≡◌, refl}
use Rattle.wasm_operators.specs.declared.immediates.Immediates.TheVariants as immediates
use Rattle.wasm_operators.specs.Parts.{ListedImmediates, immediates_of, shape_of}

pub shape_again : (i : ListedImmediates) → shape_of (immediates_of i) ≡ i
shape_again immediates.Nothing = refl
shape_again (immediates.Index space n) = refl
shape_again (immediates.Pair first m second n) = refl
shape_again (immediates.IndexNumber space m n) = refl
shape_again (immediates.Local n) = refl
shape_again (immediates.Label depth) = refl
shape_again (immediates.Handler depth) = refl
shape_again (immediates.Outer depth) = refl
shape_again (immediates.Table t) = refl
shape_again (immediates.Access memarg) = refl
shape_again (immediates.LaneAccess memarg n) = refl
shape_again (immediates.Block type) = refl
shape_again (immediates.Clauses type cs) = refl
shape_again (immediates.Heap type) = refl
shape_again (immediates.Value type) = refl
shape_again (immediates.Cast c) = refl
shape_again (immediates.I32 z) = refl
shape_again (immediates.I64 z) = refl
shape_again (immediates.F32 bits) = refl
shape_again (immediates.F64 bits) = refl
shape_again (immediates.V128 bits) = refl
shape_again (immediates.Lane n) = refl
shape_again (immediates.Lanes ns) = refl
shape_again immediates.ZeroByte = refl
