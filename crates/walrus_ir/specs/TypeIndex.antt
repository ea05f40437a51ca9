-- The index of a module's types: the first id of a digest, and the id that a list of value types has, or two lists.
use Rattle.std.specs.Prelude.{◌≡◌, ◌<◌, ◌⊎◌, ℕ, List, [], ◌∷◌, Bool, false, ◌&&◌, cond, length, Option, Some, None, slice_get, option_and_then}
use Rattle.std.specs.Option.{option_or}
use Rattle.std.specs.Ordering.{nat_cmp}
use Rattle.std.specs.BTreeMap.{is_at}
use Rattle.std.specs.declared.vec.Vec.{Vec}
use Rattle.std.specs.Map.{lookup}
use Rattle.wasm_types.specs.declared.val_type.ValType.{ValType}
use Rattle.walrus_ir.specs.Types.{ModuleType, same_types, is_function, is_entry, find, find_entry}
use Rattle.walrus_ir.specs.TypeDigest.{func_digest, entry_digest}

-- lists of value types, each with a value
abbrev pub ByList : Type 0 → Type 0
ByList X = List (List (ValType ℕ) × X)

-- the value of this list, if it has one
abbrev pub at_list : {X : Type 0} → ByList X → List (ValType ℕ) → Option X
at_list m list = lookup (same_types list) m

-- the id of these two lists, if they have one
abbrev pub at_lists : ByList (ByList ℕ) → (parameters results : List (ValType ℕ)) → Option ℕ
at_lists m parameters results = option_and_then (λ by_results. at_list by_results results) (at_list m parameters)

-- the entries of a map, with each key as the list that it contains
abbrev pub by_list : {X Z : Type 0} → List (Vec (ValType ℕ) Z × X) → ByList X
by_list [] = []
by_list (e ∷ es) = (e.0.items, e.1) ∷ by_list es

-- ids, each with its digest
abbrev pub ByDigest : Type 0
ByDigest = List (ℕ × ℕ)

-- the id of this digest, if it has one
abbrev pub at_digest : ByDigest → (digest : ℕ) → Option ℕ
at_digest m digest = lookup (is_at (nat_cmp digest)) m

-- ---- additions

-- a digest that had no id gets this one
abbrev pub TakesDigest : (digest id : ℕ) → (old new : ByDigest) → Type 0
TakesDigest digest id old new = (at_digest old digest ≡ None) × ((other : ℕ) → at_digest new other ≡ cond (is_at (nat_cmp digest) other) (Some id) (at_digest old other))

-- a list gets this id, unless it has one
abbrev pub TakesList : (list : List (ValType ℕ)) → (id : ℕ) → (old new : ByList ℕ) → Type 0
TakesList list id old new = (other : List (ValType ℕ)) → at_list new other ≡ option_or (at_list old other) (cond (same_types list other) (Some id) None)

-- two lists get this id, unless they have one
abbrev pub TakesLists : (parameters results : List (ValType ℕ)) → (id : ℕ) → (old new : ByList (ByList ℕ)) → Type 0
TakesLists parameters results id old new =
    (takes gives : List (ValType ℕ)) → at_lists new takes gives ≡ option_or (at_lists old takes gives) (cond (same_types parameters takes && same_types results gives) (Some id) None)

-- a function type gets this id, by its lists or by its digest
abbrev pub AddsFunc : (parameters results : List (ValType ℕ)) → (id : ℕ) → (old new : ByDigest) → (old_lists new_lists : ByList (ByList ℕ)) → Type 0
AddsFunc parameters results id old new old_lists new_lists =
    ((new ≡ old) × TakesLists parameters results id old_lists new_lists) ⊎ (TakesDigest (func_digest parameters results) id old new × (new_lists ≡ old_lists))

-- an entry type gets this id, by its results or by its digest
abbrev pub AddsEntry : (results : List (ValType ℕ)) → (id : ℕ) → (old new : ByDigest) → (old_list new_list : ByList ℕ) → Type 0
AddsEntry results id old new old_list new_list = ((new ≡ old) × TakesList results id old_list new_list) ⊎ (TakesDigest (entry_digest results) id old new × (new_list ≡ old_list))

-- ---- look-ups

-- whether a type is there and passes
abbrev pub passes : (test : ModuleType → Bool) → Option ModuleType → Bool
passes test None = false
passes test (Some type) = test type

-- the first id, if its type passes; else the other one
abbrev pub first_or : (test : ModuleType → Bool) → List ModuleType → (first other : Option ℕ) → Option ℕ
first_or test types None other = other
first_or test types (Some id) other = cond (passes test (slice_get types id)) (Some id) other

-- If the first id of the digest isn't that of such a type, two lists have the id of the first function type with these lists,
-- and a list has that of the first entry type with these results.
pub record IsIndexOf (types : List ModuleType) (firsts : ByDigest) (functions : ByList (ByList ℕ)) (entries : ByList ℕ) : Type 0 where
  pub functions_are : (parameters results : List (ValType ℕ))
      → first_or (is_function parameters results) types (at_digest firsts (func_digest parameters results)) (at_lists functions parameters results) ≡ find types parameters results
  pub entries_are : (results : List (ValType ℕ)) → first_or (is_entry results) types (at_digest firsts (entry_digest results)) (at_list entries results) ≡ find_entry types results
  pub firsts_are_types : (digest id : ℕ) → at_digest firsts digest ≡ Some id → id < length types
