-- The shortest encodings of types.
use Rattle.std.proofs.Common.{◌≡◌, ℕ, ◌+◌, ◌%◌, ◌<◌, ◌≤◌, Bool, true, false, eqb, ◌||◌, List, [], ◌∷◌, length, Option, Some, None, Ok, refl, sym, ap, subst, ◌∙◌, arith, rules, inl, inr, ◌⊎◌, ℤ, pos, negsuc}
use Rattle.std.proofs.lemmas.Bool.{eqb-true, lt-ltb, le-ltb, cases_lt}
use Rattle.wasm_types.specs.declared.val_type.AbstractHeapType.{AbstractHeapType}
use Rattle.wasm_types.specs.declared.val_type.AbstractHeapType.TheVariants as abstract
use Rattle.wasm_types.specs.declared.val_type.HeapType.{HeapType}
use Rattle.wasm_types.specs.declared.val_type.HeapType.TheVariants.{Abstract, Concrete}
use Rattle.wasm_types.specs.declared.val_type.ValType.{ValType}
use Rattle.wasm_types.specs.declared.val_type.ValType.TheVariants.{Ref}
use Rattle.wasm_operators.specs.declared.types.BlockType.{BlockType}
use Rattle.wasm_operators.specs.declared.types.BlockType.TheVariants.{Empty, Value, FuncType}
use Rattle.std.specs.Prelude.{option_map}
use Rattle.wasm_operators.specs.Rows.{first_some}
use Rattle.wasm_numbers.specs.Reading.{starts, Then, Made}
use Rattle.wasm_numbers.specs.Numbers.{IsByte, IsS33}
use Rattle.wasm_operators.specs.Types.{row_at, is_listed, listed, type_index, heap_rows, heap_at, IsHeapType, number_rows, nullable_to, value_at, nullable_rows, nullable_at, IsValueType, starts_value_type, IsBlockType}
use Rattle.wasm_operators.specs.Shortest.{IsLeast, short_signed, short_integer, heap_byte, short_heap, short_reference, short_value, short_block}
use Rattle.wasm_numbers.proofs.Agreement.{chosen}
use Rattle.wasm_operators.proofs.Shortness.{Least, least_only, least_then, least_same, least_s33}
use Rattle.wasm_numbers.proofs.ResultLemmas.{bind_ok}

-- ---- tables

abbrev pub EachRow : {V : Type 0} → (ℕ → V → Type 0) → List (ℕ × V) → Type 0
EachRow P [] = Unit {0}
EachRow P (row ∷ rows) = P row.0 row.1 × EachRow P rows

-- a property of each row is a property of the value of the table at a number
pub row_holds : {V : Type 0} (P : ℕ → V → Type 0) (rows : List (ℕ × V)) → EachRow P rows → (n : ℕ) (v : V) → row_at rows n ≡ Some v → P n v
row_holds P [] each n v e = absurd cc
row_holds {V} P (row ∷ rows) each n v e =
    elim (chosen (eqb n row.0) (Some row.1) (row_at rows n) (Some v) e) [
      | inl p ↦
          let value : row.1 ≡ v = let q = p.1 in cc in
          rw (eqb-true n row.0 p.0) (subst (λ (w : V). P row.0 w) value each.0)
      | inr p ↦ row_holds P rows each.1 n v p.1
    ]

pub listed_ok : {V : Type 0} (o : Option V) (v : V) → listed o ≡ Ok v → o ≡ Some v
listed_ok None v e = absurd cc
listed_ok (Some w) v e = cc

listed_some : {V : Type 0} (o : Option V) → is_listed o ≡ true → (v : V) × (o ≡ Some v)
listed_some None e = absurd cc
listed_some (Some v) e = (v, refl)

some_listed : {V : Type 0} (o : Option V) (v : V) → o ≡ Some v → is_listed o ≡ true
some_listed {V} o v e = ap (λ (p : Option V). is_listed p) e

-- ---- the first byte of a type index: below 64, or from 128 on

abbrev IsBetween : ℕ → Type 0
IsBetween b = (64 ≤ b) × (b < 128)

not_true : (b : Bool) → (b ≡ true → ⊥) → b ≡ false
not_true true h = absurd (h refl)
not_true false h = refl

pub index_starts : (test : ℕ → Bool) → ((b : ℕ) → test b ≡ true → IsBetween b) → (n : ℕ) → starts test (short_integer (pos n)) ≡ false
unfolding short_signed
index_starts test between n =
    elim (cases_lt n 64) [
      | inl lt ↦ rw (lt-ltb n 64 lt) (not_true (test (n % 128)) (λ t. let q = between (n % 128) t in omega arith))
      | inr le ↦ rw (le-ltb n 64 le) (not_true (test (n % 128 + 128)) (λ t. let q = between (n % 128 + 128) t in omega arith))
    ]

-- ---- heap types

heap_is : (b : ℕ) (a : AbstractHeapType) → heap_at b ≡ Some a → heap_byte a ≡ b
unfolding heap_at
heap_is = row_holds (λ n a. heap_byte a ≡ n) heap_rows (search rules)

pub heap_between : (b : ℕ) → is_listed (heap_at b) ≡ true → IsBetween b
unfolding heap_at
heap_between b e = let some = listed_some (heap_at b) e in row_holds (λ n a. IsBetween n) heap_rows (search rules) b some.0 some.1

abstract_only : (a : AbstractHeapType) (text : List ℕ) → IsHeapType (Abstract a) text → text ≡ short_heap (Abstract a)
abstract_only a text (inl h) =
    let x = bind_ok (listed (heap_at h.1.0)) (λ a. Ok (Abstract a)) (Abstract a) h.1.1 in
    let same : x.0 ≡ a = let e = x.2 in cc in
    let is = heap_is h.1.0 x.0 (listed_ok (heap_at h.1.0) x.0 x.1) in
    h.1.2.1 ∙ ap (λ (b : ℕ). b ∷ []) (sym is ∙ ap heap_byte same)
abstract_only a text (inr h) = let x = bind_ok (type_index h.1.0) (λ n. Ok (Concrete n)) (Abstract a) h.1.1 in absurd (let e = x.2 in cc)

index_is : (z : ℤ) (n : ℕ) → type_index z ≡ Ok n → z ≡ pos n
index_is (pos m) n e = let same : m ≡ n = cc in ap (λ (k : ℕ). pos k) same
index_is (negsuc m) n e = absurd cc

concrete_is : (n : ℕ) (text : List ℕ) → IsHeapType (Concrete n) text → IsS33 (pos n) text
concrete_is n text (inl h) = let x = bind_ok (listed (heap_at h.1.0)) (λ a. Ok (Abstract a)) (Concrete n) h.1.1 in absurd (let e = x.2 in cc)
concrete_is n text (inr h) =
    let x = bind_ok (type_index h.1.0) (λ n. Ok (Concrete n)) (Concrete n) h.1.1 in
    let same : x.0 ≡ n = let e = x.2 in cc in
    subst (λ (z : ℤ). IsS33 z text) (index_is h.1.0 x.0 x.1 ∙ ap (λ (k : ℕ). pos k) same) h.1.2

concrete_least : (n : ℕ) (text : List ℕ) → IsHeapType (Concrete n) text → IsHeapType (Concrete n) (short_heap (Concrete n)) × IsLeast (short_heap (Concrete n)) text
concrete_least n text h =
    let s = (least_s33 (pos n)).is text (concrete_is n text h) in
    (inr (index_starts (λ b. is_listed (heap_at b)) heap_between n, (pos n, refl, s.0)), s.1)

pub least_heap : (h : HeapType ℕ) → Least (IsHeapType h) (short_heap h)
least_heap (Abstract a) = least_only (IsHeapType (Abstract a)) (short_heap (Abstract a)) (abstract_only a)
least_heap (Concrete n) = record { is = concrete_least n }

-- ---- value types

-- a value type of one byte is a number or vector type, or the reference type that the byte of an abstract heap type means
value_cases : (b : ℕ) (t : ValType ℕ) → value_at b ≡ Some t
    → (row_at number_rows b ≡ Some t) ⊎ ((a : AbstractHeapType) × (heap_at b ≡ Some a) × (nullable_to a ≡ t))
unfolding value_at
value_cases b t e = go (row_at number_rows b) (heap_at b) e
  where
    go : (n : Option (ValType ℕ)) (h : Option AbstractHeapType) → first_some n (option_map nullable_to h) ≡ Some t
        → (n ≡ Some t) ⊎ ((a : AbstractHeapType) × (h ≡ Some a) × (nullable_to a ≡ t))
    go (Some u) h e = inl e
    go None (Some a) e = inr (a, refl, cc)
    go None None e = absurd cc

value_is : (b : ℕ) (t : ValType ℕ) → value_at b ≡ Some t → short_value t ≡ b ∷ []
value_is b t e =
    elim (value_cases b t e) [
      | inl n ↦ row_holds (λ n t. short_value t ≡ n ∷ []) number_rows (search rules) b t n
      | inr h ↦ ap short_value (sym h.2) ∙ ap (λ (n : ℕ). n ∷ []) (heap_is b h.0 h.1)
    ]

-- the byte that says whether a reference is nullable
reference_byte : Bool → ℕ
reference_byte true = 0x63
reference_byte false = 0x64

nullable_is : (b : ℕ) (nullable : Bool) → nullable_at b ≡ Some nullable → b ≡ reference_byte nullable
unfolding nullable_at reference_byte
nullable_is = row_holds (λ b nullable. b ≡ reference_byte nullable) nullable_rows (search rules)

abbrev reference_to : Bool → HeapType ℕ → ValType ℕ
reference_to nullable heap = Ref (record { nullable = nullable; heap_type = heap })

-- A nullable reference to an abstract heap type can also be encoded with one byte.
pub abstract_byte : (a : AbstractHeapType) → (value_at (heap_byte a) ≡ Some (nullable_to a)) × (is_listed (nullable_at (heap_byte a)) ≡ false)
unfolding nullable_at value_at heap_at
abstract_byte abstract.NoExn = (refl, refl)
abstract_byte _ = (refl, refl)

pub heap_below : (a : AbstractHeapType) → heap_byte a < 256
heap_below abstract.NoExn = omega arith
heap_below _ = omega arith

-- a text that is shorter than a least one is least too
least_below : (short long text : List ℕ) → length short < length long → IsLeast long text → IsLeast short text
least_below short long text lt (inl e) = inr (omega (arith, ap length e))
least_below short long text lt (inr h) = inr (omega arith)

-- a byte for whether it is nullable, and then the heap type
IsLong : Bool → HeapType ℕ → List ℕ → Type 0
IsLong nullable heap text = Then (Made IsByte (λ b. listed (nullable_at b))) (λ nullable. IsHeapType) (nullable, heap) text

abbrev long_reference : Bool → HeapType ℕ → List ℕ
long_reference nullable heap = reference_byte nullable ∷ short_heap heap

least_long : (nullable : Bool) (heap : HeapType ℕ) → Least (IsLong nullable heap) (long_reference nullable heap)
unfolding IsLong
least_long nullable heap =
    let first = least_only (Made IsByte (λ b. listed (nullable_at b)) nullable) (reference_byte nullable ∷ [])
    (λ text h. h.2.1 ∙ ap (λ (b : ℕ). b ∷ []) (nullable_is h.0 nullable (listed_ok (nullable_at h.0) nullable h.1))) in
    least_then (Made IsByte (λ b. listed (nullable_at b))) (λ nullable. IsHeapType) nullable heap (reference_byte nullable ∷ []) (short_heap heap) first (least_heap heap)

-- the first byte of such an encoding says whether it is nullable
nullable_byte : (nullable : Bool) (heap : HeapType ℕ) (text : List ℕ) → IsLong nullable heap text → nullable_at (reference_byte nullable) ≡ Some nullable
unfolding IsLong
nullable_byte nullable heap text h =
    let some = listed_ok (nullable_at h.3.0) nullable h.3.1 in
    ap nullable_at (sym (nullable_is h.3.0 nullable some)) ∙ some

as_reference : (nullable : Bool) (heap : HeapType ℕ) (text : List ℕ) → nullable_at (reference_byte nullable) ≡ Some nullable → IsLong nullable heap (long_reference nullable heap) → IsValueType (reference_to nullable heap) (long_reference nullable heap)
unfolding IsLong
as_reference nullable heap text known h = inl (some_listed (nullable_at (reference_byte nullable)) nullable known, ((nullable, heap), refl, h))

reference_least : (nullable : Bool) (heap : HeapType ℕ) (text : List ℕ) → IsLong nullable heap text
    → IsValueType (reference_to nullable heap) (short_reference nullable heap) × IsLeast (short_reference nullable heap) text
unfolding reference_byte
reference_least nullable heap text h = go nullable heap (nullable_byte nullable heap text h) ((least_long nullable heap).is text h)
  where
    go : (nullable : Bool) (heap : HeapType ℕ) → nullable_at (reference_byte nullable) ≡ Some nullable → IsLong nullable heap (long_reference nullable heap) × IsLeast (long_reference nullable heap) text
        → IsValueType (reference_to nullable heap) (short_reference nullable heap) × IsLeast (short_reference nullable heap) text
    go false heap known s = (as_reference false heap text known s.0, s.1)
    go true (Concrete n) known s = (as_reference true (Concrete n) text known s.0, s.1)
    go true (Abstract a) known s =
        let one = abstract_byte a in
        (inr (one.1, (heap_byte a, rw one.0 refl, (heap_below a, refl))), least_below (heap_byte a ∷ []) (long_reference true (Abstract a)) text (omega arith) s.1)

value_least : (t : ValType ℕ) (text : List ℕ) → IsValueType t text → IsValueType t (short_value t) × IsLeast (short_value t) text
unfolding IsLong
value_least t text (inl h) =
    let is : reference_to h.1.0.0 h.1.0.1 ≡ t = let e = h.1.1 in cc in
    let whole : IsLong h.1.0.0 h.1.0.1 text = h.1.2 in
    subst (λ (u : ValType ℕ). IsValueType u (short_value u) × IsLeast (short_value u) text) is (reference_least h.1.0.0 h.1.0.1 text whole)
value_least t text (inr h) =
    let is : text ≡ short_value t = h.1.2.1 ∙ sym (value_is h.1.0 t (listed_ok (value_at h.1.0) t h.1.1)) in
    (subst (IsValueType t) is (inr h), inl (sym is))

pub least_value : (t : ValType ℕ) → Least (IsValueType t) (short_value t)
least_value t = record { is = value_least t }

-- ---- block types

either_true : (a b : Bool) → (a || b) ≡ true → (a ≡ true) ⊎ (b ≡ true)
either_true true b e = inl refl
either_true false b e = inr e

or_true : (a b : Bool) → b ≡ true → (a || b) ≡ true
or_true true b e = refl
or_true false b e = e

-- the first byte of a value type
value_byte : (b : ℕ) → starts_value_type b ≡ true → (64 < b) × (b < 128)
unfolding nullable_at heap_at
value_byte b e =
    elim (either_true (is_listed (value_at b)) (is_listed (nullable_at b)) e) [
      | inl p ↦ let some = listed_some (value_at b) p in elim (value_cases b some.0 some.1) [
        | inl n ↦ row_holds (λ n t. (64 < n) × (n < 128)) number_rows (search rules) b some.0 n
        | inr h ↦ row_holds (λ n t. (64 < n) × (n < 128)) heap_rows (search rules) b h.0 h.1
      ]
      | inr p ↦ let some = listed_some (nullable_at b) p in row_holds (λ n t. (64 < n) × (n < 128)) nullable_rows (search rules) b some.0 some.1
    ]

pub value_between : (b : ℕ) → starts_value_type b ≡ true → IsBetween b
value_between b e = let q = value_byte b e in (omega arith, q.1)

pub empty_between : (b : ℕ) → eqb b 0x40 ≡ true → IsBetween b
empty_between b e = let q = eqb-true b 0x40 e in (omega arith, omega arith)

not_empty : (b : ℕ) → starts_value_type b ≡ true → eqb b 0x40 ≡ false
not_empty b e = not_true (eqb b 0x40) (λ t. let q = eqb-true b 0x40 t in let p = value_byte b e in omega arith)

starts_so : (test other : ℕ → Bool) → ((b : ℕ) → test b ≡ true → other b ≡ true) → (text : List ℕ) → starts test text ≡ true → starts other text ≡ true
starts_so test other so [] e = absurd cc
starts_so test other so (b ∷ text) e = so b e

starts_not : (test other : ℕ → Bool) → ((b : ℕ) → test b ≡ true → other b ≡ false) → (text : List ℕ) → starts test text ≡ true → starts other text ≡ false
starts_not test other so [] e = absurd cc
starts_not test other so (b ∷ text) e = so b e

value_starts : (t : ValType ℕ) (text : List ℕ) → IsValueType t text → starts starts_value_type text ≡ true
value_starts t text (inl h) = starts_so (λ b. is_listed (nullable_at b)) starts_value_type (λ b e. or_true (is_listed (value_at b)) (is_listed (nullable_at b)) e) text h.0
value_starts t text (inr h) =
    let known : is_listed (value_at h.1.0) ≡ true = some_listed (value_at h.1.0) t (listed_ok (value_at h.1.0) t h.1.1) in
    ap (starts starts_value_type) h.1.2.1 ∙ rw known refl

empty_only : (text : List ℕ) → IsBlockType Empty text → text ≡ short_block Empty
empty_only text (inl h) =
    let first : eqb h.1.0 0x40 ≡ true = sym (ap (starts (λ b. eqb b 0x40)) h.1.2.1) ∙ h.0 in
    h.1.2.1 ∙ ap (λ (b : ℕ). b ∷ []) (eqb-true h.1.0 0x40 first)
empty_only text (inr (p, inl h)) = absurd (let e = h.1.1 in cc)
empty_only text (inr (p, inr h)) = let x = bind_ok (type_index h.1.0) (λ n. Ok (FuncType n)) Empty h.1.1 in absurd (let e = x.2 in cc)

pub block_value_is : (t : ValType ℕ) (text : List ℕ) → IsBlockType (Value t) text → IsValueType t text
block_value_is t text (inl h) = absurd (let e = h.1.1 in cc)
block_value_is t text (inr (p, inl h)) = let same : h.1.0 ≡ t = let e = h.1.1 in cc in subst (λ (u : ValType ℕ). IsValueType u text) same h.1.2
block_value_is t text (inr (p, inr h)) = let x = bind_ok (type_index h.1.0) (λ n. Ok (FuncType n)) (Value t) h.1.1 in absurd (let e = x.2 in cc)

pub as_block_value : (t : ValType ℕ) (text : List ℕ) → IsValueType t text → IsBlockType (Value t) text
as_block_value t text h =
    let first = value_starts t text h in
    inr (starts_not starts_value_type (λ b. eqb b 0x40) not_empty text first, inl (first, (t, refl, h)))

block_index_is : (n : ℕ) (text : List ℕ) → IsBlockType (FuncType n) text → IsS33 (pos n) text
block_index_is n text (inl h) = absurd (let e = h.1.1 in cc)
block_index_is n text (inr (p, inl h)) = absurd (let e = h.1.1 in cc)
block_index_is n text (inr (p, inr h)) =
    let x = bind_ok (type_index h.1.0) (λ n. Ok (FuncType n)) (FuncType n) h.1.1 in
    let same : x.0 ≡ n = let e = x.2 in cc in
    subst (λ (z : ℤ). IsS33 z text) (index_is h.1.0 x.0 x.1 ∙ ap (λ (k : ℕ). pos k) same) h.1.2

block_index_least : (n : ℕ) (text : List ℕ) → IsBlockType (FuncType n) text → IsBlockType (FuncType n) (short_block (FuncType n)) × IsLeast (short_block (FuncType n)) text
block_index_least n text h =
    let s = (least_s33 (pos n)).is text (block_index_is n text h) in
    (inr (index_starts (λ b. eqb b 0x40) empty_between n, inr (index_starts starts_value_type value_between n, (pos n, refl, s.0))), s.1)

pub least_block : (b : BlockType) → Least (IsBlockType b) (short_block b)
least_block Empty = least_only (IsBlockType Empty) (short_block Empty) empty_only
least_block (Value t) = least_same (IsValueType t) (IsBlockType (Value t)) (short_value t) (block_value_is t) (as_block_value t) (least_value t)
least_block (FuncType n) = record { is = block_index_least n }
