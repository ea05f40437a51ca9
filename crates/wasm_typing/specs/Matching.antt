-- Which types match: "t1 <= t2" (WebAssembly core specification 3.0, section 3.3, matching, and the appendix, validation algorithm).
use Rattle.std.specs.Prelude.{ℕ, zero, suc, List, [], ◌∷◌, length, Bool, true, false, not, ◌&&◌, ◌||◌, ◌==◌, Option, Some, None, option_map, option_and_then, unwrap_or, slice_get}
use Rattle.std.specs.List.{list_any}
use Rattle.wasm_types.specs.declared.val_type.AbstractHeapType.{AbstractHeapType}
use Rattle.wasm_types.specs.declared.val_type.AbstractHeapType.TheVariants as abstract
use Rattle.wasm_types.specs.declared.val_type.HeapType.{HeapType}
use Rattle.wasm_types.specs.declared.val_type.HeapType.TheVariants.{Abstract, Concrete}
use Rattle.wasm_types.specs.declared.val_type.RefType.{RefType}
use Rattle.wasm_types.specs.declared.val_type.ValType.{ValType}
use Rattle.wasm_types.specs.declared.val_type.ValType.TheVariants.{I32, I64, F32, F64, V128, Ref}
use Rattle.wasm_types.specs.TypeOrder.{rank_of}
use Rattle.wasm_body.specs.ValidityLaws.{KnownOperand, of_type, of_reference}
use Rattle.wasm_typing.specs.Contexts.{StorageType, I8, I16, Unpacked, CompositeType, Function, Struct, Array, OperandContext, composite_of}

-- ---- heap types

-- The abstract heap types that one matches: "eq <= any", "i31 <= eq", "struct <= eq", "array <= eq", and the bottom of each hierarchy.
abbrev pub abstract_supertypes : AbstractHeapType → List AbstractHeapType
abstract_supertypes abstract.Any = abstract.Any ∷ []
abstract_supertypes abstract.Eq = abstract.Eq ∷ abstract.Any ∷ []
abstract_supertypes abstract.I31 = abstract.I31 ∷ abstract.Eq ∷ abstract.Any ∷ []
abstract_supertypes abstract.Struct = abstract.Struct ∷ abstract.Eq ∷ abstract.Any ∷ []
abstract_supertypes abstract.Array = abstract.Array ∷ abstract.Eq ∷ abstract.Any ∷ []
abstract_supertypes abstract.None = abstract.None ∷ abstract.I31 ∷ abstract.Struct ∷ abstract.Array ∷ abstract.Eq ∷ abstract.Any ∷ []
abstract_supertypes abstract.Func = abstract.Func ∷ []
abstract_supertypes abstract.NoFunc = abstract.NoFunc ∷ abstract.Func ∷ []
abstract_supertypes abstract.Extern = abstract.Extern ∷ []
abstract_supertypes abstract.NoExtern = abstract.NoExtern ∷ abstract.Extern ∷ []
abstract_supertypes abstract.Exn = abstract.Exn ∷ []
abstract_supertypes abstract.NoExn = abstract.NoExn ∷ abstract.Exn ∷ []

abbrev pub matches_abstract : AbstractHeapType → AbstractHeapType → Bool
matches_abstract a b = list_any (λ u. rank_of u == rank_of b) (abstract_supertypes a)

-- the abstract heap type of a type of the module, by its kind
abbrev pub heap_kind_of : CompositeType → AbstractHeapType
heap_kind_of (Function s) = abstract.Func
heap_kind_of (Struct fs) = abstract.Struct
heap_kind_of (Array f) = abstract.Array

abbrev pub heap_kind_at : OperandContext → ℕ → Option AbstractHeapType
heap_kind_at c id = option_map heap_kind_of (composite_of c id)

-- the least heap type of a hierarchy, and the greatest ("top_heap_type")
abbrev pub bottom_of : AbstractHeapType → AbstractHeapType
bottom_of abstract.Func = abstract.NoFunc
bottom_of abstract.NoFunc = abstract.NoFunc
bottom_of abstract.Extern = abstract.NoExtern
bottom_of abstract.NoExtern = abstract.NoExtern
bottom_of abstract.Exn = abstract.NoExn
bottom_of abstract.NoExn = abstract.NoExn
bottom_of _ = abstract.None

abbrev pub top_of : AbstractHeapType → AbstractHeapType
top_of abstract.Func = abstract.Func
top_of abstract.NoFunc = abstract.Func
top_of abstract.Extern = abstract.Extern
top_of abstract.NoExtern = abstract.Extern
top_of abstract.Exn = abstract.Exn
top_of abstract.NoExn = abstract.Exn
top_of _ = abstract.Any

-- the first id of the same type
abbrev pub first_of : OperandContext → ℕ → ℕ
first_of c id = unwrap_or (option_map (λ t. t.first) (slice_get c.types id)) id

abbrev pub supertype_of : OperandContext → ℕ → Option ℕ
supertype_of c id = option_and_then (λ t. t.supertype) (slice_get c.types id)

-- A type and its declared supertypes, up to a number of steps. Each type is declared after its supertype: so no more steps are needed
-- than there are types.
abbrev pub supertypes : OperandContext → (steps : ℕ) → Option ℕ → List ℕ
supertypes c zero id = []
supertypes c (suc steps) None = []
supertypes c (suc steps) (Some id) = id ∷ supertypes c steps (supertype_of c id)

abbrev pub matches_defined : OperandContext → ℕ → ℕ → Bool
matches_defined c m n = list_any (λ id. first_of c id == first_of c n) (supertypes c (suc (length c.types)) (Some m))

abbrev pub holds_of : {X : Type 0} → (X → Bool) → Option X → Bool
holds_of test o = unwrap_or (option_map test o) false

abbrev pub matches_heap : OperandContext → HeapType ℕ → HeapType ℕ → Bool
matches_heap c (Abstract a) (Abstract b) = matches_abstract a b
matches_heap c (Concrete m) (Abstract b) = holds_of (λ k. matches_abstract k b) (heap_kind_at c m)
matches_heap c (Abstract a) (Concrete n) = holds_of (λ k. matches_abstract a (bottom_of k)) (heap_kind_at c n)
matches_heap c (Concrete m) (Concrete n) = matches_defined c m n

-- ---- other types

-- "null? <= null?"
abbrev pub matches_null : Bool → Bool → Bool
matches_null a b = not a || b

abbrev pub matches_reference : OperandContext → RefType ℕ → RefType ℕ → Bool
matches_reference c a b = matches_null a.nullable b.nullable && matches_heap c a.heap_type b.heap_type

abbrev pub matches_value : OperandContext → ValType ℕ → ValType ℕ → Bool
matches_value c I32 I32 = true
matches_value c I64 I64 = true
matches_value c F32 F32 = true
matches_value c F64 F64 = true
matches_value c V128 V128 = true
matches_value c (Ref a) (Ref b) = matches_reference c a b
matches_value c _ _ = false

-- result types
abbrev pub matches_values : OperandContext → List (ValType ℕ) → List (ValType ℕ) → Bool
matches_values c [] [] = true
matches_values c (t ∷ ts) (u ∷ us) = matches_value c t u && matches_values c ts us
matches_values c _ _ = false

abbrev pub matches_storage : OperandContext → StorageType → StorageType → Bool
matches_storage c I8 I8 = true
matches_storage c I16 I16 = true
matches_storage c (Unpacked t) (Unpacked u) = matches_value c t u
matches_storage c _ _ = false

-- "matches_val" of an operand that is known: a reference to an unknown heap type matches each reference that may be null, if it may
abbrev pub matches_known : OperandContext → KnownOperand → ValType ℕ → Bool
matches_known c (of_type t) u = matches_value c t u
matches_known c (of_reference nullable) (Ref r) = matches_null nullable r.nullable
matches_known c (of_reference nullable) _ = false

-- ---- parts of types that operators name

-- A heap type is valid if it is abstract or a type of the module.
abbrev pub is_valid_heap : OperandContext → HeapType ℕ → Bool
is_valid_heap c (Abstract a) = true
is_valid_heap c (Concrete id) = holds_of (λ t. true) (slice_get c.types id)

abbrev pub is_valid_value : OperandContext → ValType ℕ → Bool
is_valid_value c (Ref r) = is_valid_heap c r.heap_type
is_valid_value c _ = true

-- the top of the hierarchy of a heap type
abbrev pub top_heap : OperandContext → HeapType ℕ → Option AbstractHeapType
top_heap c (Abstract a) = Some (top_of a)
top_heap c (Concrete id) = option_map top_of (heap_kind_at c id)

-- "diff_ref_type": the type of a reference of the first type on which a cast to the second fails
abbrev pub difference : RefType ℕ → RefType ℕ → RefType ℕ
difference a b = record { nullable = a.nullable && not b.nullable; heap_type = a.heap_type }
