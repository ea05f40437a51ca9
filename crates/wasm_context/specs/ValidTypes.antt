-- Valid definitions of types (WebAssembly core specification 3.0, sections 3.2 and 3.3, recursive types and subtypes): a type names types
-- below the end of its own group, and where it declares a supertype, that was declared before it, isn't final, and is matched.
use Rattle.std.specs.Prelude.{ℕ, ◌+◌, List, [], ◌∷◌, length, Bool, true, false, not, ◌&&◌, ◌||◌, nat_lt, Option, Some, None, slice_get}
use Rattle.std.specs.List.{list_all, flat_map}
use Rattle.wasm_types.specs.declared.val_type.HeapType.{HeapType}
use Rattle.wasm_types.specs.declared.val_type.HeapType.TheVariants.{Abstract, Concrete}
use Rattle.wasm_types.specs.declared.val_type.ValType.{ValType}
use Rattle.wasm_types.specs.declared.val_type.ValType.TheVariants.{Ref}
use Rattle.walrus_ir.specs.Types.{same_bool}
use Rattle.wasm_typing.specs.Contexts.{StorageType, Unpacked, FieldType, CompositeType, Function, Struct, Array, OperandContext}
use Rattle.wasm_typing.specs.Matching.{matches_values, matches_storage, holds_of}
use Rattle.wasm_typing.specs.RecursiveTypes.{DeclaredType, Group, defined_types}

-- ---- matching composite types ("comptype" and "fieldtype")

-- Both are constant or both variable, and what one holds matches the other; of variables, also the other way round.
abbrev pub matches_field : OperandContext → FieldType → FieldType → Bool
matches_field c f g =
    same_bool f.mutable g.mutable && matches_storage c f.storage g.storage && (not f.mutable || matches_storage c g.storage f.storage)

-- A struct matches one with fewer fields.
abbrev pub matches_fields : OperandContext → List FieldType → List FieldType → Bool
matches_fields c fs [] = true
matches_fields c [] (g ∷ gs) = false
matches_fields c (f ∷ fs) (g ∷ gs) = matches_field c f g && matches_fields c fs gs

-- Functions match the other way round in their parameters.
abbrev pub matches_composite : OperandContext → CompositeType → CompositeType → Bool
matches_composite c (Function s) (Function t) = matches_values c t.parameters s.parameters && matches_values c s.results t.results
matches_composite c (Struct fs) (Struct gs) = matches_fields c fs gs
matches_composite c (Array f) (Array g) = matches_field c f g
matches_composite c _ _ = false

-- ---- types that a definition names, below a number

abbrev pub heap_within : ℕ → HeapType ℕ → Bool
heap_within end (Abstract a) = true
heap_within end (Concrete n) = nat_lt n end

abbrev pub value_within : ℕ → ValType ℕ → Bool
value_within end (Ref r) = heap_within end r.heap_type
value_within end _ = true

abbrev pub storage_within : ℕ → StorageType → Bool
storage_within end (Unpacked t) = value_within end t
storage_within end _ = true

abbrev pub field_within : ℕ → FieldType → Bool
field_within end f = storage_within end f.storage

abbrev pub composite_within : ℕ → CompositeType → Bool
composite_within end (Function s) = list_all (value_within end) s.parameters && list_all (value_within end) s.results
composite_within end (Struct fs) = list_all (field_within end) fs
composite_within end (Array f) = field_within end f

-- ---- definitions, each with its index, in a group that ends before the type `end`

module _ (c : OperandContext) (declared : List DeclaredType) where
  abbrev pub is_valid_supertype : (own : ℕ) → CompositeType → Option ℕ → Bool
  is_valid_supertype own t None = true
  is_valid_supertype own t (Some n) = nat_lt n own && holds_of (λ s. not s.final && matches_composite c t s.composite) (slice_get declared n)

  abbrev pub is_valid_definition : (end own : ℕ) → DeclaredType → Bool
  is_valid_definition end own t = composite_within end t.composite && is_valid_supertype own t.composite t.supertype

  abbrev pub are_valid_definitions : (end own : ℕ) → Group → Bool
  are_valid_definitions end own [] = true
  are_valid_definitions end own (t ∷ ts) = is_valid_definition end own t && are_valid_definitions end (own + 1) ts

  abbrev pub are_valid_groups : (start : ℕ) → List Group → Bool
  are_valid_groups start [] = true
  are_valid_groups start (g ∷ gs) = are_valid_definitions (start + length g) start g && are_valid_groups (start + length g) gs

-- a context that has these types, and nothing else
abbrev pub types_alone : List Group → OperandContext
types_alone gs = record {
  types = defined_types gs;
  functions = [];
  referenced = [];
  tables = [];
  memories = [];
  globals = [];
  elements = [];
  data_segments = 0;
  locals = [];
}

-- the groups of a module are valid
abbrev pub are_valid_types : List Group → Bool
are_valid_types gs = are_valid_groups (types_alone gs) (flat_map (λ g. g) gs) 0 gs
