-- The types of a module from its declarations, as the code has them.
use Rattle.std.specs.Prelude.{◌≡◌, ℕ, ◌+◌, ◌-◌, List, [], ◌∷◌, ◌++◌, map, take, length, Bool, true, ◌&&◌, nat_eq, nat_lt, cond, Option, Some, None, slice_get}
use Rattle.std.specs.List.{list_all}
use Rattle.std.specs.Map.{lookup}
use Rattle.std.specs.Option.{option_or}
use Rattle.std.specs.Cmp.Lexicographic.{pointwise}
use Rattle.std.specs.declared.vec.Vec.{Vec}
use Rattle.wasm_types.specs.declared.val_type.HeapType.{HeapType}
use Rattle.wasm_types.specs.declared.val_type.HeapType.TheVariants.{Abstract, Concrete}
use Rattle.wasm_types.specs.declared.val_type.ValType.{ValType}
use Rattle.wasm_types.specs.declared.val_type.ValType.TheVariants.{I32, I64, F32, F64, V128, Ref}
use Rattle.wasm_types.specs.TypeOrder.{rank_of, nullable_rank}
use Rattle.wasm_typing.specs.Contexts.{StorageType, I8, I16, Unpacked, FieldType, CompositeType, Function, Struct, Array}
use Rattle.wasm_typing.specs.RecursiveTypes as standard
use Rattle.wasm_typing.specs.RecursiveTypes.{Group, PlacedGroup, first_ids, defined_types}
use Rattle.wasm_context.specs.declared.declared_type.DeclaredType.{DeclaredType}
use Rattle.wasm_context.specs.declared.types.DefinedType.{DefinedType}
use Rattle.wasm_context.specs.Contexts.{composite_in}
use Rattle.wasm_context.specs.ValidTypes.{composite_within}

abbrev pub declared_of : DeclaredType → standard.DeclaredType
declared_of t = record { final = t.is_final; supertype = t.supertype; composite = composite_in t.composite }

-- ---- whether all type indices that a declaration names are below a bound

abbrev pub supertype_within : ℕ → Option ℕ → Bool
supertype_within end None = true
supertype_within end (Some id) = nat_lt id end

abbrev pub declared_within : ℕ → standard.DeclaredType → Bool
declared_within end t = supertype_within end t.supertype && composite_within end t.composite

-- ---- keys of groups: numbers that two groups share if and only if they are equal. Each part tells by its first numbers where it ends.

-- the first ids of types
abbrev pub firsts_in : List DefinedType → List ℕ
firsts_in ts = map (λ (t : DefinedType). t.first) ts

-- an id of an earlier type by the first id of the type, another one by its position after these
abbrev pub known_key : (position : ℕ) → (first : Option ℕ) → List ℕ
known_key position (Some first) = 1 ∷ first ∷ []
known_key position None = 0 ∷ position ∷ []

-- an id, where these are the first ids of the types before the group
abbrev pub id_key : (firsts : List ℕ) → ℕ → List ℕ
id_key firsts id = known_key (id - length firsts) (slice_get firsts id)

abbrev pub heap_key : (firsts : List ℕ) → HeapType ℕ → List ℕ
heap_key firsts (Abstract a) = 2 ∷ rank_of a ∷ []
heap_key firsts (Concrete id) = id_key firsts id

abbrev pub value_key : (firsts : List ℕ) → ValType ℕ → List ℕ
value_key firsts I32 = 0 ∷ []
value_key firsts I64 = 1 ∷ []
value_key firsts F32 = 2 ∷ []
value_key firsts F64 = 3 ∷ []
value_key firsts V128 = 4 ∷ []
value_key firsts (Ref r) = 5 ∷ nullable_rank r.nullable ∷ heap_key firsts r.heap_type

abbrev pub storage_key : (firsts : List ℕ) → StorageType → List ℕ
storage_key firsts I8 = 0 ∷ []
storage_key firsts I16 = 1 ∷ []
storage_key firsts (Unpacked t) = 2 ∷ value_key firsts t

abbrev pub field_key : (firsts : List ℕ) → FieldType → List ℕ
field_key firsts f = nullable_rank f.mutable ∷ storage_key firsts f.storage

abbrev pub each_key : {X : Type 0} → (X → List ℕ) → List X → List ℕ
each_key key [] = 0 ∷ []
each_key key (x ∷ xs) = 1 ∷ key x ++ each_key key xs

abbrev pub composite_key : (firsts : List ℕ) → CompositeType → List ℕ
composite_key firsts (Function s) = 0 ∷ each_key (value_key firsts) s.parameters ++ each_key (value_key firsts) s.results
composite_key firsts (Struct fs) = 1 ∷ each_key (field_key firsts) fs
composite_key firsts (Array f) = 2 ∷ field_key firsts f

abbrev pub supertype_key : (firsts : List ℕ) → Option ℕ → List ℕ
supertype_key firsts None = 2 ∷ []
supertype_key firsts (Some id) = id_key firsts id

abbrev pub declared_key : (firsts : List ℕ) → standard.DeclaredType → List ℕ
declared_key firsts t = nullable_rank t.final ∷ supertype_key firsts t.supertype ++ composite_key firsts t.composite

abbrev pub group_key : (firsts : List ℕ) → Group → List ℕ
group_key firsts g = length g ∷ each_key (declared_key firsts) g

-- ---- groups, found by their keys

-- keys, each with the place of the first group that has it
abbrev pub ByKey : Type 0
ByKey = List (List ℕ × ℕ)

abbrev pub at_key : ByKey → List ℕ → Option ℕ
at_key m key = lookup (pointwise nat_eq key) m

-- the entries of a map, with each key as the list that it contains
abbrev pub listed_keys : {Z : Type 0} → List (Vec ℕ Z × ℕ) → ByKey
listed_keys [] = []
listed_keys (e ∷ es) = (e.0.items, e.1) ∷ listed_keys es

-- a key gets this place, unless it has one
abbrev pub TakesPlace : (key : List ℕ) → (place : ℕ) → (old new : ByKey) → Type 0
TakesPlace key place old new = (other : List ℕ) → at_key new other ≡ option_or (at_key old other) (cond (pointwise nat_eq other key) (Some place) None)

-- each group with the id of its first type
abbrev pub group_places_from : ℕ → List Group → List PlacedGroup
group_places_from b [] = []
group_places_from b (g ∷ gs) = (b, g) ∷ group_places_from (b + length g) gs

-- no group names a type after its last
abbrev pub closed_from : ℕ → List Group → Bool
closed_from b [] = true
closed_from b (g ∷ gs) = list_all (declared_within (b + length g)) g && closed_from (b + length g) gs

abbrev pub firsts_of : List Group → List ℕ
firsts_of gs = first_ids [] [] 0 gs

-- the key of a group among others
abbrev pub placed_key : List Group → PlacedGroup → List ℕ
placed_key gs p = group_key (take p.0 (firsts_of gs)) p.1
