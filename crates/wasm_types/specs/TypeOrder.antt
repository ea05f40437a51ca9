-- The order of value types in which locals are grouped. No standard defines one; this is the project's own.
use Rattle.std.specs.Prelude.{ℕ, List, [], ◌∷◌, Bool, true, false}
use Rattle.std.specs.declared.cmp.Ordering.{Ordering}
use Rattle.std.specs.Ordering.{nat_cmp}
use Rattle.std.specs.Cmp.Lexicographic.{slice_cmp}
use Rattle.wasm_types.specs.declared.val_type.AbstractHeapType.{AbstractHeapType}
use Rattle.wasm_types.specs.declared.val_type.AbstractHeapType.TheVariants as abstract
use Rattle.wasm_types.specs.declared.val_type.HeapType.{HeapType}
use Rattle.wasm_types.specs.declared.val_type.HeapType.TheVariants.{Abstract, Concrete}
use Rattle.wasm_types.specs.declared.val_type.ValType.{ValType}
use Rattle.wasm_types.specs.declared.val_type.ValType.TheVariants.{I32, I64, F32, F64, V128, Ref}

-- the rank of an abstract heap type in their order
abbrev pub rank_of : AbstractHeapType → ℕ
rank_of abstract.NoExn = 0
rank_of abstract.NoFunc = 1
rank_of abstract.NoExtern = 2
rank_of abstract.None = 3
rank_of abstract.Func = 4
rank_of abstract.Extern = 5
rank_of abstract.Any = 6
rank_of abstract.Eq = 7
rank_of abstract.I31 = 8
rank_of abstract.Struct = 9
rank_of abstract.Array = 10
rank_of abstract.Exn = 11

-- references that aren't nullable come before those that are
abbrev pub nullable_rank : Bool → ℕ
nullable_rank false = 0
nullable_rank true = 1

-- abstract heap types come first, in their order; then the types of the module, by id
abbrev pub heap_type_key : HeapType ℕ → List ℕ
heap_type_key (Abstract a) = 0 ∷ rank_of a ∷ []
heap_type_key (Concrete id) = 1 ∷ id ∷ []

-- the numbers by which a value type is compared, the most significant first: references come last
abbrev pub type_key : ValType ℕ → List ℕ
type_key I32 = 0 ∷ []
type_key I64 = 1 ∷ []
type_key F32 = 2 ∷ []
type_key F64 = 3 ∷ []
type_key V128 = 4 ∷ []
type_key (Ref r) = 5 ∷ nullable_rank r.nullable ∷ heap_type_key r.heap_type

-- The order of value types: the first number in which their keys differ decides.
abbrev pub type_order : ValType ℕ → ValType ℕ → Ordering
type_order t u = slice_cmp nat_cmp (type_key t) (type_key u)
