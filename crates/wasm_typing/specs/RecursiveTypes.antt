-- The types of a module from its declarations, which are in groups (WebAssembly core specification 3.0, section 3.1, recursive types). Types
-- are equal if their groups are, and if they have the same position in them. Groups are equal if their types are, where a reference to a type
-- of the own group counts by its position ("roll") and any other by the type that it names.
use Rattle.std.specs.Prelude.{ℕ, ◌+◌, ◌-◌, List, [], ◌∷◌, ◌++◌, map, zip, length, Bool, true, false, ◌&&◌, ◌||◌, ◌==◌, nat_le, nat_lt, if◌then◌else◌, Option, Some, None, find, option_map, unwrap_or, slice_get}
use Rattle.std.specs.List.{range_with_len, flat_map}
use Rattle.wasm_types.specs.declared.val_type.HeapType.{HeapType}
use Rattle.wasm_types.specs.declared.val_type.HeapType.TheVariants.{Abstract, Concrete}
use Rattle.wasm_types.specs.declared.val_type.ValType.{ValType}
use Rattle.wasm_types.specs.declared.val_type.ValType.TheVariants.{I32, I64, F32, F64, V128, Ref}
use Rattle.walrus_ir.specs.Types.{same_bool}
use Rattle.wasm_types.specs.TypeOrder.{rank_of}
use Rattle.wasm_typing.specs.Contexts.{StorageType, I8, I16, Unpacked, FieldType, CompositeType, Function, Struct, Array, DefinedType}

-- "subtype": a type as it is declared
pub record DeclaredType : Type 0 where
  pub final : Bool
  pub supertype : Option ℕ
  pub composite : CompositeType

-- "rectype": types that are declared together. Their ids are those from some number on.
abbrev pub Group : Type 0
Group = List DeclaredType

-- ---- equal groups of n types, from the ids a and b on, where the first ids of the types before the second one are known

module _ (firsts : List ℕ) (a b n : ℕ) where
  abbrev is_inside : ℕ → ℕ → Bool
  is_inside start id = nat_le start id && nat_lt id (start + n)

  abbrev same_id : ℕ → ℕ → Bool
  same_id x y =
      if is_inside a x || is_inside b y then is_inside a x && is_inside b y && (x - a) == (y - b)
      else unwrap_or (slice_get firsts x) x == unwrap_or (slice_get firsts y) y

  abbrev same_heap_type : HeapType ℕ → HeapType ℕ → Bool
  same_heap_type (Abstract s) (Abstract t) = rank_of s == rank_of t
  same_heap_type (Concrete x) (Concrete y) = same_id x y
  same_heap_type _ _ = false

  abbrev same_value : ValType ℕ → ValType ℕ → Bool
  same_value I32 I32 = true
  same_value I64 I64 = true
  same_value F32 F32 = true
  same_value F64 F64 = true
  same_value V128 V128 = true
  same_value (Ref s) (Ref t) = same_bool s.nullable t.nullable && same_heap_type s.heap_type t.heap_type
  same_value _ _ = false

  abbrev same_storage : StorageType → StorageType → Bool
  same_storage I8 I8 = true
  same_storage I16 I16 = true
  same_storage (Unpacked s) (Unpacked t) = same_value s t
  same_storage _ _ = false

  abbrev same_field : FieldType → FieldType → Bool
  same_field f g = same_bool f.mutable g.mutable && same_storage f.storage g.storage

  abbrev same_each : {X : Type 0} → (X → X → Bool) → List X → List X → Bool
  same_each same [] [] = true
  same_each same (x ∷ xs) (y ∷ ys) = same x y && same_each same xs ys
  same_each same _ _ = false

  abbrev same_composite : CompositeType → CompositeType → Bool
  same_composite (Function s) (Function t) = same_each same_value s.parameters t.parameters && same_each same_value s.results t.results
  same_composite (Struct fs) (Struct gs) = same_each same_field fs gs
  same_composite (Array f) (Array g) = same_field f g
  same_composite _ _ = false

  abbrev same_supertype : Option ℕ → Option ℕ → Bool
  same_supertype None None = true
  same_supertype (Some x) (Some y) = same_id x y
  same_supertype _ _ = false

  abbrev same_declared : DeclaredType → DeclaredType → Bool
  same_declared s t = same_bool s.final t.final && same_supertype s.supertype t.supertype && same_composite s.composite t.composite

  abbrev pub same_group : Group → Group → Bool
  same_group g h = same_each same_declared g h

-- ---- first ids

-- a group that was declared, with the id of its first type
abbrev pub PlacedGroup : Type 0
PlacedGroup = ℕ × Group

-- where the first group is that is equal to the group g from the id b on, which is there itself if none before it is
abbrev pub first_place : List PlacedGroup → (firsts : List ℕ) → (b : ℕ) → Group → ℕ
first_place before firsts b g = unwrap_or (option_map (λ p. p.0) (find (λ p. same_group firsts p.0 b (length g) p.1 g) before)) b

-- the first ids of all types, group by group
abbrev pub first_ids : List PlacedGroup → (firsts : List ℕ) → (b : ℕ) → List Group → List ℕ
first_ids before firsts b [] = firsts
first_ids before firsts b (g ∷ gs) =
    first_ids (before ++ (b, g) ∷ []) (firsts ++ range_with_len (first_place before firsts b g) (length g)) (b + length g) gs

abbrev pub defined : DeclaredType × ℕ → DefinedType
defined p = record { composite = p.0.composite; supertype = p.0.supertype; first = p.1 }

-- the types of a module that declares these groups
abbrev pub defined_types : List Group → List DefinedType
defined_types gs = map defined (zip (flat_map (λ g. g) gs) (first_ids [] [] 0 gs))
