-- Types of sequences that are written as one byte.
use Rattle.std.proofs.Common.{◌≡◌, ℕ, ◌<◌, [], ◌∷◌, Option, Some, None, refl, sym, ap, subst, ◌∙◌, arith}
use Rattle.std.proofs.lemmas.Bool.{lt-ltb}
use Rattle.std.specs.Prelude.{if◌then◌else◌, ◌%◌, ◌/◌, ◌+◌}
use Rattle.walrus_ir.specs.declared.val_type.InstrSeqType.{InstrSeqType}
use Rattle.walrus_ir.specs.declared.val_type.InstrSeqType.TheVariants.{Simple}
use Rattle.wasm_types.specs.declared.val_type.ValType.{ValType}
use Rattle.wasm_types.specs.declared.val_type.ValType.TheVariants as value
use Rattle.wasm_operators.specs.declared.types.BlockType.TheVariants.{Empty, Value}
use Rattle.wasm_operators.specs.Shortest.{short_unsigned, short_number}
use Rattle.walrus_flat.specs.Writers.{IsTypeByte}

-- a number of seven bits is spelt as itself
one_byte : (n : ℕ) → n < 128 → short_number n ≡ n ∷ []
unfolding short_unsigned
one_byte n fits = ap (λ b. if b then n ∷ [] else ((n % 128 + 128) ∷ short_unsigned 8 (n / 128))) (lt-ltb n 128 fits)

module _ (type : InstrSeqType) (inner : Option (ValType ℕ)) (is : type ≡ Simple inner) where
  pub without_result : inner ≡ None → IsTypeByte type 0x40
  without_result none = subst (λ t. IsTypeByte t 0x40) (sym (is ∙ ap Simple none)) (Empty, λ to. refl, sym (one_byte 0x40 (omega arith)))

  module _ (v : ValType ℕ) (some : inner ≡ Some v) where
    -- a result of a type that is spelt as this byte
    of_value : (w : ValType ℕ) (code : ℕ) → v ≡ w → IsTypeByte (Simple (Some w)) code → IsTypeByte type code
    of_value w code same = subst (λ t. IsTypeByte t code) (sym (is ∙ (ap Simple some ∙ ap (λ x. Simple (Some x)) same)))

    pub with_i32 : v ≡ value.I32 → IsTypeByte type 0x7f
    with_i32 same = of_value value.I32 0x7f same (Value value.I32, λ to. refl, sym (one_byte 0x7f (omega arith)))

    pub with_i64 : v ≡ value.I64 → IsTypeByte type 0x7e
    with_i64 same = of_value value.I64 0x7e same (Value value.I64, λ to. refl, sym (one_byte 0x7e (omega arith)))

    pub with_f32 : v ≡ value.F32 → IsTypeByte type 0x7d
    with_f32 same = of_value value.F32 0x7d same (Value value.F32, λ to. refl, sym (one_byte 0x7d (omega arith)))

    pub with_f64 : v ≡ value.F64 → IsTypeByte type 0x7c
    with_f64 same = of_value value.F64 0x7c same (Value value.F64, λ to. refl, sym (one_byte 0x7c (omega arith)))

    pub with_v128 : v ≡ value.V128 → IsTypeByte type 0x7b
    with_v128 same = of_value value.V128 0x7b same (Value value.V128, λ to. refl, sym (one_byte 0x7b (omega arith)))
