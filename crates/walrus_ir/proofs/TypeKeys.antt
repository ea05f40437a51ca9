-- Lists of value types that the order of value types doesn't distinguish are equal.
use Rattle.std.proofs.Common.{◌≡◌, ℕ, List, Bool, true, false, ◌&&◌, ◌==◌, nat_eq, refl, sym, ap, ◌∙◌}
use Rattle.std.specs.Ordering.{is_eq}
use Rattle.std.specs.declared.cmp.Ordering.{Ordering}
use Rattle.std.specs.Cmp.Lexicographic.{slice_cmp, pointwise, lists_ties, texts_ties}
use Rattle.std.proofs.Math.Bool.{and-true}
use Rattle.wasm_types.specs.declared.val_type.HeapType.{HeapType}
use Rattle.wasm_types.specs.declared.val_type.HeapType.TheVariants.{Abstract, Concrete}
use Rattle.wasm_types.specs.declared.val_type.ValType.{ValType}
use Rattle.wasm_types.specs.declared.val_type.ValType.TheVariants.{I32, I64, F32, F64, V128, Ref}
use Rattle.walrus_ir.specs.Types.{same_heap, same_bool, same_type, same_types}
use Rattle.wasm_types.specs.TypeOrder.{rank_of, nullable_rank, heap_type_key, type_key, type_order}
use Rattle.walrus_ir.proofs.SameTypes.{same_pointwise}

same_heap_key : (a b : HeapType ℕ) → same_heap a b ≡ pointwise nat_eq (heap_type_key a) (heap_type_key b)
same_heap_key (Abstract a) (Abstract b) = sym (and-true (rank_of a == rank_of b))
same_heap_key (Concrete m) (Concrete n) = sym (and-true (m == n))
same_heap_key (Abstract a) (Concrete n) = refl
same_heap_key (Concrete m) (Abstract b) = refl

same_nullable : (a b : Bool) → same_bool a b ≡ (nullable_rank a == nullable_rank b)
same_nullable true true = refl
same_nullable false false = refl
same_nullable true false = refl
same_nullable false true = refl

same_key : (t u : ValType ℕ) → same_type t u ≡ pointwise nat_eq (type_key t) (type_key u)
same_key I32 I32 = refl
same_key I64 I64 = refl
same_key F32 F32 = refl
same_key F64 F64 = refl
same_key V128 V128 = refl
same_key (Ref a) (Ref b) = λ i. same_nullable a.nullable b.nullable i && same_heap_key a.heap_type b.heap_type i
same_key _ _ = refl

-- the same for any comparison that is the order of value types
pub tie-same_types : (C : ValType ℕ → ValType ℕ → Ordering) → ((t u : ValType ℕ) → C t u ≡ type_order t u)
    → (ts us : List (ValType ℕ)) → is_eq (slice_cmp C ts us) ≡ same_types ts us
tie-same_types C law ts us =
    sym (same_pointwise ts us
    ∙ lists_ties C (λ t u. same_key t u ∙ (texts_ties (type_key t) (type_key u) ∙ ap is_eq (sym (law t u)))) ts us)
