-- The type that is picked for a signature has this signature.
use Rattle.std.proofs.Common.{◌≡◌, ℕ, List, [], ◌∷◌, Bool, true, false, get_or, Option, Some, None, refl, sym, ap, ◌∙◌}
use Rattle.std.specs.Prelude.{slice_get, unwrap_or, is_some, option_and_then}
use Rattle.std.specs.Option.{option_map}
use Rattle.std.proofs.lemmas.Bool.{eqb-true, and_parts}
use Rattle.std.proofs.lemmas.Option.{slice_get-get_or}
use Rattle.std.proofs.lemmas.List.Quantifiers.{position-Some}
use Rattle.wasm_types.specs.declared.val_type.AbstractHeapType.{AbstractHeapType}
use Rattle.wasm_types.specs.declared.val_type.AbstractHeapType.TheVariants as abstract
use Rattle.wasm_types.specs.declared.val_type.HeapType.{HeapType}
use Rattle.wasm_types.specs.declared.val_type.HeapType.TheVariants.{Abstract, Concrete}
use Rattle.wasm_types.specs.declared.val_type.ValType.{ValType}
use Rattle.wasm_types.specs.declared.val_type.ValType.TheVariants.{I32, I64, F32, F64, V128, Ref}
use Rattle.walrus_ir.specs.declared.val_type.InstrSeqType.{InstrSeqType}
use Rattle.walrus_ir.specs.declared.val_type.InstrSeqType.TheVariants.{Simple, MultiValue}
use Rattle.walrus_ir.specs.Types.{Signature, signature, ModuleType, Func, Entry, Other, signature_in, signature_of, same_heap, same_bool, same_type, same_types, is_function, find, existing, pick, signature_of_type}
use Rattle.wasm_types.specs.TypeOrder.{rank_of}

-- ---- types that are the same by the tests are equal

abbrev at_rank : ℕ → AbstractHeapType
at_rank n =
    unwrap_or (slice_get
    (abstract.NoExn ∷ abstract.NoFunc ∷ abstract.NoExtern ∷ abstract.None ∷ abstract.Func ∷ abstract.Extern
    ∷ abstract.Any ∷ abstract.Eq ∷ abstract.I31 ∷ abstract.Struct ∷ abstract.Array ∷ abstract.Exn ∷ []) n) abstract.NoExn

at_rank_of : (a : AbstractHeapType) → at_rank (rank_of a) ≡ a
at_rank_of abstract.NoExn = refl
at_rank_of abstract.NoFunc = refl
at_rank_of abstract.NoExtern = refl
at_rank_of abstract.None = refl
at_rank_of abstract.Func = refl
at_rank_of abstract.Extern = refl
at_rank_of abstract.Any = refl
at_rank_of abstract.Eq = refl
at_rank_of abstract.I31 = refl
at_rank_of abstract.Struct = refl
at_rank_of abstract.Array = refl
at_rank_of abstract.Exn = refl

equal_heaps : (h g : HeapType ℕ) → same_heap h g ≡ true → h ≡ g
equal_heaps (Abstract a) (Abstract b) e = ap Abstract (sym (at_rank_of a) ∙ (ap at_rank (eqb-true (rank_of a) (rank_of b) e) ∙ at_rank_of b))
equal_heaps (Concrete m) (Concrete n) e = ap Concrete (eqb-true m n e)
equal_heaps (Abstract a) (Concrete n) e = absurd cc
equal_heaps (Concrete m) (Abstract b) e = absurd cc

equal_bools : (a b : Bool) → same_bool a b ≡ true → a ≡ b
equal_bools true true e = refl
equal_bools false false e = refl
equal_bools true false e = absurd cc
equal_bools false true e = absurd cc

equal_types : (t u : ValType ℕ) → same_type t u ≡ true → t ≡ u
equal_types I32 I32 e = refl
equal_types I64 I64 e = refl
equal_types F32 F32 e = refl
equal_types F64 F64 e = refl
equal_types V128 V128 e = refl
equal_types (Ref a) (Ref b) e =
    let both = and_parts (same_bool a.nullable b.nullable) (same_heap a.heap_type b.heap_type) e in
    ap (λ n. Ref (record { nullable = n; heap_type = a.heap_type })) (equal_bools a.nullable b.nullable both.0)
    ∙ ap (λ h. Ref (record { nullable = b.nullable; heap_type = h })) (equal_heaps a.heap_type b.heap_type both.1)
equal_types _ _ e = absurd cc

equal_lists : (ts us : List (ValType ℕ)) → same_types ts us ≡ true → ts ≡ us
equal_lists [] [] e = refl
equal_lists [] (u ∷ us) e = absurd cc
equal_lists (t ∷ ts) [] e = absurd cc
equal_lists (t ∷ ts) (u ∷ us) e =
    let both = and_parts (same_type t u) (same_types ts us) e in
    ap (λ x. x ∷ ts) (equal_types t u both.0) ∙ ap (λ xs. u ∷ xs) (equal_lists ts us both.1)

-- ---- the pick

function_signature : (ps rs : List (ValType ℕ)) (type : ModuleType) → is_function ps rs type ≡ true
    → signature_in type ≡ Some (signature ps rs)
function_signature ps rs (Func qs ss) e =
    let both = and_parts (same_types qs ps) (same_types ss rs) e in
    ap (λ q. Some (signature q ss)) (equal_lists qs ps both.0) ∙ ap (λ s. Some (signature ps s)) (equal_lists ss rs both.1)
function_signature ps rs (Entry ss) e = absurd cc
function_signature ps rs Other e = absurd cc

found_signature : (types : List ModuleType) (ps rs : List (ValType ℕ)) (id : ℕ) → find types ps rs ≡ Some id
    → signature_of types id ≡ Some (signature ps rs)
found_signature types ps rs id e =
    let found = position-Some (is_function ps rs) types id Other e in
    ap (option_and_then signature_in) (slice_get-get_or types id Other found.0) ∙ function_signature ps rs (get_or types id Other) found.1

-- a type that was found, as the type of a sequence
found_has_signature : (types : List ModuleType) (ps rs : List (ValType ℕ)) (t : InstrSeqType) (found : Option ℕ) → find types ps rs ≡ found
    → option_map MultiValue found ≡ Some t → signature_of_type types t ≡ Some (signature ps rs)
found_has_signature types ps rs t None f e = absurd cc
found_has_signature types ps rs t (Some id) f e = let k : MultiValue id ≡ t = cc in ap (signature_of_type types) (sym k) ∙ found_signature types ps rs id f

existing_has_signature : (types : List ModuleType) (ps rs : List (ValType ℕ)) (t : InstrSeqType) → existing types ps rs ≡ Some t
    → signature_of_type types t ≡ Some (signature ps rs)
existing_has_signature types [] [] t e = let k : Simple None ≡ t = cc in ap (signature_of_type types) (sym k)
existing_has_signature types [] (r ∷ []) t e = let k : Simple (Some r) ≡ t = cc in ap (signature_of_type types) (sym k)
existing_has_signature types [] (r ∷ s ∷ rs) t e = found_has_signature types [] (r ∷ s ∷ rs) t (find types [] (r ∷ s ∷ rs)) refl e
existing_has_signature types (p ∷ ps) rs t e = found_has_signature types (p ∷ ps) rs t (find types (p ∷ ps) rs) refl e

-- if a type is picked, it has the signature, whatever the default is
pub pick_has_signature : (types : List ModuleType) (s : Signature) (other : InstrSeqType) → is_some (pick types s) ≡ true
    → signature_of_type types (unwrap_or (pick types s) other) ≡ Some s
pick_has_signature types s other e = by_pick (pick types s) refl e
  where
    by_pick : (p : Option InstrSeqType) → pick types s ≡ p → is_some p ≡ true → signature_of_type types (unwrap_or p other) ≡ Some s
    by_pick None h k = absurd cc
    by_pick (Some t) h k = existing_has_signature types s.parameters s.results t h
