-- The parts of the test for equal groups, which lemmas name: each is that of `RecursiveTypes`, where they are private.
use Rattle.std.proofs.Common.{◌≡◌, refl}
use Rattle.std.specs.Prelude.{ℕ, ◌+◌, ◌-◌, List, [], ◌∷◌, Bool, true, false, ◌&&◌, ◌||◌, ◌==◌, nat_le, nat_lt, if◌then◌else◌, Option, Some, None, unwrap_or, slice_get}
use Rattle.wasm_types.specs.declared.val_type.HeapType.{HeapType}
use Rattle.wasm_types.specs.declared.val_type.HeapType.TheVariants.{Abstract, Concrete}
use Rattle.wasm_types.specs.declared.val_type.ValType.{ValType}
use Rattle.wasm_types.specs.declared.val_type.ValType.TheVariants.{I32, I64, F32, F64, V128, Ref}
use Rattle.walrus_ir.specs.Types.{same_bool}
use Rattle.wasm_types.specs.TypeOrder.{rank_of}
use Rattle.wasm_typing.specs.Contexts.{StorageType, I8, I16, Unpacked, FieldType, CompositeType, Function, Struct, Array}
use Rattle.wasm_typing.specs.RecursiveTypes.{DeclaredType, Group, same_group}

abbrev pub same_each : {X : Type 0} → (X → X → Bool) → List X → List X → Bool
same_each same [] [] = true
same_each same (x ∷ xs) (y ∷ ys) = same x y && same_each same xs ys
same_each same _ _ = false

module _ (firsts : List ℕ) (a b n : ℕ) where
  abbrev pub is_inside : ℕ → ℕ → Bool
  is_inside start id = nat_le start id && nat_lt id (start + n)

  abbrev pub same_id : ℕ → ℕ → Bool
  same_id x y =
      if is_inside a x || is_inside b y then is_inside a x && is_inside b y && (x - a) == (y - b)
      else unwrap_or (slice_get firsts x) x == unwrap_or (slice_get firsts y) y

  abbrev pub same_heap_type : HeapType ℕ → HeapType ℕ → Bool
  same_heap_type (Abstract s) (Abstract t) = rank_of s == rank_of t
  same_heap_type (Concrete x) (Concrete y) = same_id x y
  same_heap_type _ _ = false

  abbrev pub same_value : ValType ℕ → ValType ℕ → Bool
  same_value I32 I32 = true
  same_value I64 I64 = true
  same_value F32 F32 = true
  same_value F64 F64 = true
  same_value V128 V128 = true
  same_value (Ref s) (Ref t) = same_bool s.nullable t.nullable && same_heap_type s.heap_type t.heap_type
  same_value _ _ = false

  abbrev pub same_storage : StorageType → StorageType → Bool
  same_storage I8 I8 = true
  same_storage I16 I16 = true
  same_storage (Unpacked s) (Unpacked t) = same_value s t
  same_storage _ _ = false

  abbrev pub same_field : FieldType → FieldType → Bool
  same_field f g = same_bool f.mutable g.mutable && same_storage f.storage g.storage

  abbrev pub same_composite : CompositeType → CompositeType → Bool
  same_composite (Function s) (Function t) = same_each same_value s.parameters t.parameters && same_each same_value s.results t.results
  same_composite (Struct fs) (Struct gs) = same_each same_field fs gs
  same_composite (Array f) (Array g) = same_field f g
  same_composite _ _ = false

  abbrev pub same_supertype : Option ℕ → Option ℕ → Bool
  same_supertype None None = true
  same_supertype (Some x) (Some y) = same_id x y
  same_supertype _ _ = false

  abbrev pub same_declared : DeclaredType → DeclaredType → Bool
  same_declared s t = same_bool s.final t.final && same_supertype s.supertype t.supertype && same_composite s.composite t.composite

  pub same_group-parts : (g h : Group) → same_group firsts a b n g h ≡ same_each same_declared g h
  same_group-parts g h = refl
