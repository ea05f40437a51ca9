-- Operators without parts that may be missing.
use Rattle.std.proofs.Common.{◌≡◌, ℕ, [], ◌∷◌, Bool, true, Result, Ok, Err, refl, sym, subst}
use Rattle.std.specs.Prelude.{IsOk}
use Rattle.std.specs.Bool.{OnTrue}
use Rattle.wasm_operators.specs.declared.types.BlockType.{BlockType}
use Rattle.wasm_operators.specs.declared.types.Opcode.TheVariants.{Byte}
use Rattle.wasm_operators.specs.declared.operator.Op.TheVariants as op
use Rattle.wasm_operators.specs.Meaning.{Listed, meaning}
use Rattle.wasm_operators.specs.Operations.{block, operation, RawOperation}
use Rattle.wasm_body.specs.Naming.{name_block}
use Rattle.walrus_emitter.proofs.TreeWriting.Spelled.{on_true}
use Rattle.walrus_flat.specs.Checked.{env_of_checker}
use Rattle.walrus_flat.specs.Checkers.{parts_in, HasNoParts, IsOneByte, NamesNoType}

made : {A E : Type 0} (r : Result A E) → IsOk r → (x : A) × (r ≡ Ok x)
made (Ok x) h = (x, refl)
made (Err e) h = absurd cc

-- an opener whose block type names no type
opener_alone : (byte : ℕ) (b : BlockType) → NamesNoType b → HasNoParts (operation (Byte byte) (block b ∷ []))
opener_alone byte b none c =
    let named = made (name_block (env_of_checker c) b) (none (env_of_checker c)) in
    rw named.1 refl

-- one of these operators is such an opener if its block type is of this kind
pub at_opener : (o : Listed) (byte : ℕ) (b : BlockType) → meaning o ≡ operation (Byte byte) (block b ∷ []) → (r : Bool) → OnTrue r (NamesNoType b) → OnTrue r (HasNoParts (meaning o))
at_opener o byte b is r = on_true r (λ none. subst HasNoParts (sym is) (opener_alone byte b none))

-- an operator that is one byte
pub byte_alone : (o : RawOperation) (byte : ℕ) → IsOneByte o byte → HasNoParts o
byte_alone o byte is c = subst (λ x. IsOk (parts_in c x)) (sym is) refl

-- constants of floating point
pub f32_alone : (bits : ℕ) → HasNoParts (meaning (op.F32Const bits))
f32_alone bits c = refl

pub f64_alone : (bits : ℕ) → HasNoParts (meaning (op.F64Const bits))
f64_alone bits c = refl

-- what is so where the result is true
pub on_true_is : {P : Type 0} (b : Bool) → b ≡ true → OnTrue b P → P
on_true_is {P} b is h = subst (λ c. OnTrue c P) is h
