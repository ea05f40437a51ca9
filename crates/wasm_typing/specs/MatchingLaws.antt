-- The rules of matching, one by one (WebAssembly core specification 3.0, section 3.3), and the laws that the test of `Matching.antt` is
-- these rules.
use Rattle.std.specs.Prelude.{◌≡◌, ℕ, zero, suc, ◌<◌, length, Bool, true, false, ◌&&◌, ◌==◌, nat_lt, Option, Some, None, option_map}
use Rattle.wasm_types.specs.declared.val_type.AbstractHeapType.{AbstractHeapType}
use Rattle.wasm_types.specs.declared.val_type.AbstractHeapType.TheVariants as abstract
use Rattle.wasm_types.specs.declared.val_type.HeapType.{HeapType}
use Rattle.wasm_types.specs.declared.val_type.HeapType.TheVariants.{Abstract, Concrete}
use Rattle.wasm_types.specs.declared.val_type.RefType.{RefType}
use Rattle.wasm_types.specs.declared.val_type.ValType.{ValType}
use Rattle.wasm_types.specs.declared.val_type.ValType.TheVariants.{Ref}
use Rattle.wasm_types.specs.TypeOrder.{rank_of}
use Rattle.wasm_typing.specs.Contexts.{OperandContext}
use Rattle.wasm_typing.specs.Matching.{heap_kind_at, first_of, supertype_of, matches_value}

-- ---- the rules

-- "ht1 <= ht2"
pub data HeapMatches (c : OperandContext) : HeapType ℕ → HeapType ℕ → Type 0 where
  itself : (a : HeapType ℕ) → HeapMatches c a a
  through : (a b d : HeapType ℕ) → HeapMatches c a b → HeapMatches c b d → HeapMatches c a d
  eq_any : HeapMatches c (Abstract abstract.Eq) (Abstract abstract.Any)
  i31_eq : HeapMatches c (Abstract abstract.I31) (Abstract abstract.Eq)
  struct_eq : HeapMatches c (Abstract abstract.Struct) (Abstract abstract.Eq)
  array_eq : HeapMatches c (Abstract abstract.Array) (Abstract abstract.Eq)
  none_below : (a : HeapType ℕ) → HeapMatches c a (Abstract abstract.Any) → HeapMatches c (Abstract abstract.None) a
  nofunc_below : (a : HeapType ℕ) → HeapMatches c a (Abstract abstract.Func) → HeapMatches c (Abstract abstract.NoFunc) a
  noextern_below : (a : HeapType ℕ) → HeapMatches c a (Abstract abstract.Extern) → HeapMatches c (Abstract abstract.NoExtern) a
  noexn_below : (a : HeapType ℕ) → HeapMatches c a (Abstract abstract.Exn) → HeapMatches c (Abstract abstract.NoExn) a
  of_kind : (m : ℕ) (k : AbstractHeapType) → heap_kind_at c m ≡ Some k → HeapMatches c (Concrete m) (Abstract k)  -- what a type expands to
  same_type : (m n : ℕ) → first_of c m ≡ first_of c n → HeapMatches c (Concrete m) (Concrete n)
  declared : (m s : ℕ) → supertype_of c m ≡ Some s → HeapMatches c (Concrete m) (Concrete s)  -- a declared supertype

-- "(ref null1? ht1) <= (ref null2? ht2)"
abbrev pub ReferenceMatches : OperandContext → RefType ℕ → RefType ℕ → Type 0
ReferenceMatches c a b = (a.nullable ≡ true → b.nullable ≡ true) × HeapMatches c a.heap_type b.heap_type

-- "t1 <= t2": number types and vector types match themselves
abbrev pub ValueMatches : OperandContext → ValType ℕ → ValType ℕ → Type 0
ValueMatches c (Ref a) (Ref b) = ReferenceMatches c a b
ValueMatches c t u = t ≡ u

-- ---- the laws

-- What holds of the types of a module: a supertype is declared before its type, and is of the same kind (section 3.2); and types that are
-- the same are of one kind, and their supertypes are the same.
pub record AreTypes (c : OperandContext) : Type 0 where
  pub before : (m s : ℕ) → supertype_of c m ≡ Some s → s < m
  pub of_one_kind : (m s : ℕ) → supertype_of c m ≡ Some s → heap_kind_at c m ≡ heap_kind_at c s
  pub same_kind : (m n : ℕ) → first_of c m ≡ first_of c n → heap_kind_at c m ≡ heap_kind_at c n
  pub same_supertype : (m n : ℕ) → first_of c m ≡ first_of c n → option_map (first_of c) (supertype_of c m) ≡ option_map (first_of c) (supertype_of c n)

-- A test for it: of each type of the list.
abbrev pub all_below : ℕ → (ℕ → Bool) → Bool
all_below zero test = true
all_below (suc n) test = test n && all_below n test

abbrev pub same_option : {X : Type 0} → (X → ℕ) → Option X → Option X → Bool
same_option number None None = true
same_option number (Some x) (Some y) = number x == number y
same_option number _ _ = false

abbrev pub same_kinds : OperandContext → ℕ → ℕ → Bool
same_kinds c m n = same_option rank_of (heap_kind_at c m) (heap_kind_at c n)

abbrev pub is_supertype : OperandContext → ℕ → Option ℕ → Bool
is_supertype c m None = true
is_supertype c m (Some s) = nat_lt s m && same_kinds c m s

abbrev pub is_type : OperandContext → ℕ → Bool
is_type c m =
    is_supertype c m (supertype_of c m) && same_kinds c m (first_of c m)
    && same_option (first_of c) (supertype_of c m) (supertype_of c (first_of c m))

abbrev pub are_types : OperandContext → Bool
are_types c = all_below (length c.types) (is_type c)

abbrev pub TypesAreTested : Type 0
TypesAreTested = (c : OperandContext) → are_types c ≡ true → AreTypes c

-- what the test accepts matches by the rules
abbrev pub MatchingIsSound : Type 0
MatchingIsSound = (c : OperandContext) (t u : ValType ℕ) → matches_value c t u ≡ true → ValueMatches c t u

-- what matches by the rules is accepted
abbrev pub MatchingIsComplete : Type 0
MatchingIsComplete = (c : OperandContext) → AreTypes c → (t u : ValType ℕ) → ValueMatches c t u → matches_value c t u ≡ true
