-- Lists of types that match have the same length, and fields match no more than there are.
use Rattle.std.proofs.Common.{◌≡◌, ◌≢◌, ◌<◌, ℕ, List, [], ◌∷◌, length, Bool, false, refl, ap, ◌∙◌, suc, true, arith}
use Rattle.std.specs.Prelude.{◌&&◌}
use Rattle.wasm_types.specs.declared.val_type.ValType.{ValType}
use Rattle.wasm_typing.specs.Contexts.{FieldType, OperandContext}
use Rattle.wasm_typing.specs.Matching.{matches_value, matches_values}
use Rattle.wasm_context.specs.ValidTypes.{matches_field, matches_fields}

and_false : (b : Bool) → (b && false) ≡ false
and_false true = refl
and_false false = refl

pub lengths_differ : (c : OperandContext) (ts us : List (ValType ℕ)) → length ts ≢ length us → matches_values c ts us ≡ false
lengths_differ c [] [] d = absurd (d refl)
lengths_differ c [] (u ∷ us) d = refl
lengths_differ c (t ∷ ts) [] d = refl
lengths_differ c (t ∷ ts) (u ∷ us) d =
    ap (λ b. matches_value c t u && b) (lengths_differ c ts us (λ e. d (ap suc e))) ∙ and_false (matches_value c t u)

pub too_few : (c : OperandContext) (fs gs : List FieldType) → length fs < length gs → matches_fields c fs gs ≡ false
too_few c fs [] few = absurd (omega arith)
too_few c [] (g ∷ gs) few = refl
too_few c (f ∷ fs) (g ∷ gs) few = ap (λ b. matches_field c f g && b) (too_few c fs gs (omega arith)) ∙ and_false (matches_field c f g)
