-- If an operator's numbers fit, its shortest encoding is one of its encodings.
use Rattle.std.proofs.Common.{◌≡◌, ℕ, zero, suc, ◌+◌, ◌*◌, ◌/◌, ◌%◌, ◌^◌, ◌<◌, Bool, true, false, eqb, List, [], ◌∷◌, ◌++◌, map, length, append_assoc, Option, Some, None, Ok, refl, sym, ap, subst, ◌∙◌, arith, rules, inl, inr, ◌⊎◌, leb, ℤ, pos, negsuc}
use Rattle.std.proofs.lemmas.Bool.{eqb-true, leb-true, lt-leb, cases_lt}
use Rattle.std.proofs.lemmas.Nat.{pow-add}
use Rattle.std.specs.List.{AllByRecursion, flat_map}
use Rattle.wasm_types.specs.declared.val_type.AbstractHeapType.{AbstractHeapType}
use Rattle.wasm_types.specs.declared.val_type.AbstractHeapType.TheVariants as abstract
use Rattle.wasm_types.specs.declared.val_type.HeapType.{HeapType}
use Rattle.wasm_types.specs.declared.val_type.HeapType.TheVariants.{Abstract, Concrete}
use Rattle.wasm_types.specs.declared.val_type.ValType.{ValType}
use Rattle.wasm_types.specs.declared.val_type.ValType.TheVariants.{I32, I64, F32, F64, V128, Ref}
use Rattle.wasm_operators.specs.declared.types.BlockType.{BlockType}
use Rattle.wasm_operators.specs.declared.types.BlockType.TheVariants.{Empty, Value, FuncType}
use Rattle.wasm_operators.specs.declared.types.Opcode.{Opcode}
use Rattle.wasm_operators.specs.declared.types.Opcode.TheVariants.{Byte, Prefixed}
use Rattle.wasm_types.specs.declared.unary.UnaryOp.{UnaryOp}
use Rattle.wasm_types.specs.declared.unary.UnaryOp.TheVariants as unary
use Rattle.wasm_types.specs.declared.binary.BinaryOp.{BinaryOp}
use Rattle.wasm_types.specs.declared.binary.BinaryOp.TheVariants as binary
use Rattle.wasm_types.specs.declared.ternary.TernaryOp.{TernaryOp}
use Rattle.wasm_types.specs.declared.ternary.TernaryOp.TheVariants as ternary
use Rattle.wasm_types.specs.declared.memory.ExtendedLoad.TheVariants.{SignExtend}
use Rattle.wasm_types.specs.declared.memory.LoadKind.{LoadKind}
use Rattle.wasm_types.specs.declared.memory.LoadKind.TheVariants as load
use Rattle.wasm_types.specs.declared.memory.StoreKind.{StoreKind}
use Rattle.wasm_types.specs.declared.memory.StoreKind.TheVariants as store
use Rattle.wasm_types.specs.declared.memory.LoadSimdKind.{LoadSimdKind}
use Rattle.wasm_types.specs.declared.memory.LoadSimdKind.TheVariants as vector_access
use Rattle.wasm_types.specs.declared.memory.AtomicOp.{AtomicOp}
use Rattle.wasm_types.specs.declared.memory.AtomicOp.TheVariants as atomic_op
use Rattle.wasm_types.specs.declared.memory.AtomicWidth.{AtomicWidth}
use Rattle.wasm_types.specs.declared.memory.AtomicWidth.TheVariants as width
use Rattle.wasm_operators.specs.declared.types.AtomicKind.{AtomicKind}
use Rattle.wasm_operators.specs.declared.types.AtomicKind.TheVariants as atomic
use Rattle.wasm_operators.specs.declared.reference_operator.ReferenceOp.{ReferenceOp}
use Rattle.wasm_operators.specs.declared.reference_operator.ReferenceOp.TheVariants as reference
use Rattle.wasm_operators.specs.declared.operator.Op.TheVariants as operator
use Rattle.wasm_operators.specs.Meaning.{Listed, meaning}
use Rattle.wasm_operators.specs.UnaryOperations.{unary_opcode, extract_lane}
use Rattle.wasm_operators.specs.BinaryOperations.{binary_opcode, replace_lane}
use Rattle.wasm_operators.specs.TernaryOperations.{ternary_opcode}
use Rattle.wasm_operators.specs.AccessOperations.{access_of, load_opcode, store_opcode}
use Rattle.wasm_operators.specs.VectorAccessOpcodes.{vector_access_opcode, access_lane}
use Rattle.wasm_operators.specs.AtomicOpcodes.{rmw_opcode, cmpxchg_opcode, atomic_opcode}
use Rattle.wasm_operators.specs.ReferenceOperations.{by_null, reference_opcode, reference_immediates}
use Rattle.wasm_numbers.specs.Reading.{Many}
use Rattle.wasm_numbers.specs.Numbers.{IsU32, IsU64, IsS32, IsS33, IsS64, IsByte, joined, AreBits}
use Rattle.wasm_operators.specs.Types.{row_at, is_listed, listed, heap_at, IsHeapType, value_at, nullable_at, IsValueType, IsBlockType}
use Rattle.wasm_operators.specs.Operations.{Access, CatchClause, Cast, RawImmediate, index, local, label, handler, outer, number, access, branch_table, clauses, block, heap, value, cast, i32, i64, f32, f64, v128, lane, lanes, zero_byte, RawOperation}
use Rattle.wasm_operators.specs.Immediates.{Kind, an_access, kind_of, IsAccess, IsTable, IsClause, AreClauses, cast_flags, IsCast, IsSelected, SpellsImmediate, SpellsImmediates}
use Rattle.wasm_operators.specs.Opcodes.{reference_ranges, bulk_rows, range_at, aggregate_ranges, vector_ranges, atomic_ranges, is_prefix, kinds_of_byte, kinds_after, kinds_of, IsOpcode}
use Rattle.wasm_operators.specs.Spelling.{Spells}
use Rattle.wasm_operators.specs.Shortest.{short_number, short_integer, short_bits, short_vector, heap_byte, short_heap, short_reference, short_value, short_block, short_access, short_table, short_tag, short_clause, short_clauses, short_flags, short_cast, short_immediate, short_immediates, short_opcode, short}
use Rattle.wasm_operators.specs.Fitting.{IsWithin, FitsHeap, FitsValue, FitsBlock, FitsTag, FitsLabel, FitsClause, FitsLane, Fits, AllFit}
use Rattle.wasm_numbers.proofs.Agreement.{chosen}
use Rattle.wasm_operators.proofs.ShortestNumbers.{unsigned_spelt, signed_spelt}
use Rattle.wasm_operators.proofs.ShortestTypes.{row_holds, index_starts, heap_between, heap_below, abstract_byte, empty_between, value_between, as_block_value}
use Rattle.wasm_operators.proofs.ShortestImmediates.{either_way, plain_access, indexed_access, short_plain, short_indexed}

-- ---- numbers

u32_spelt : (n : ℕ) → n < 2 ^ 32 → IsU32 n (short_number n)
u32_spelt n h = unsigned_spelt 9 32 n (omega arith) h

u64_spelt : (n : ℕ) → n < 2 ^ 64 → IsU64 n (short_number n)
u64_spelt n h = unsigned_spelt 9 64 n (omega arith) h

s32_spelt : (z : ℤ) → IsWithin (2 ^ 31) z → IsS32 z (short_integer z)
s32_spelt (pos n) h = signed_spelt 9 32 (pos n) (omega arith) h
s32_spelt (negsuc n) h = signed_spelt 9 32 (negsuc n) (omega arith) h

s33_spelt : (n : ℕ) → n < 2 ^ 32 → IsS33 (pos n) (short_integer (pos n))
s33_spelt n h = signed_spelt 9 33 (pos n) (omega arith) h

s64_spelt : (z : ℤ) → IsWithin (2 ^ 63) z → IsS64 z (short_integer z)
s64_spelt (pos n) h = signed_spelt 9 64 (pos n) (omega arith) h
s64_spelt (negsuc n) h = signed_spelt 9 64 (negsuc n) (omega arith) h

bytes_spelt : (count bits : ℕ) → Many IsByte count (short_bits count bits) (short_bits count bits)
bytes_spelt zero bits = refl
bytes_spelt (suc count) bits = (bits % 256 ∷ [], short_bits count (bits / 256), refl, (omega arith, refl {a = bits % 256 ∷ []}), bytes_spelt count (bits / 256))

bits_joined : (count bits : ℕ) → bits < 2 ^ (8 * count) → joined (short_bits count bits) ≡ bits
bits_joined zero bits h = omega arith
bits_joined (suc count) bits h =
    let k : 8 * suc count ≡ 8 + 8 * count = omega arith in
    let p : 2 ^ (8 * suc count) ≡ 256 * 2 ^ (8 * count) = ap (λ (n : ℕ). 2 ^ n) k ∙ pow-add 2 8 (8 * count) in
    let high : joined (short_bits count (bits / 256)) ≡ bits / 256 = bits_joined count (bits / 256) (omega arith) in
    rw high (omega arith)

bits_spelt : (count bits : ℕ) → bits < 2 ^ (8 * count) → AreBits count bits (short_bits count bits)
bits_spelt count bits h = (short_bits count bits, ap (λ (n : ℕ). Ok n) (bits_joined count bits h), bytes_spelt count bits)

vector_spelt : (bits : ℕ) → bits < 2 ^ 128 → AreBits 16 bits (short_vector bits)
unfolding short_vector
vector_spelt bits h = bits_spelt 16 bits h

-- ---- types

abstract_spelt : (a : AbstractHeapType) → IsHeapType (Abstract a) (heap_byte a ∷ [])
unfolding heap_at
abstract_spelt abstract.NoExn = inl (refl, (0x74, refl, (omega arith, refl)))
abstract_spelt abstract.NoFunc = inl (refl, (0x73, refl, (omega arith, refl)))
abstract_spelt abstract.NoExtern = inl (refl, (0x72, refl, (omega arith, refl)))
abstract_spelt abstract.None = inl (refl, (0x71, refl, (omega arith, refl)))
abstract_spelt abstract.Func = inl (refl, (0x70, refl, (omega arith, refl)))
abstract_spelt abstract.Extern = inl (refl, (0x6f, refl, (omega arith, refl)))
abstract_spelt abstract.Any = inl (refl, (0x6e, refl, (omega arith, refl)))
abstract_spelt abstract.Eq = inl (refl, (0x6d, refl, (omega arith, refl)))
abstract_spelt abstract.I31 = inl (refl, (0x6c, refl, (omega arith, refl)))
abstract_spelt abstract.Struct = inl (refl, (0x6b, refl, (omega arith, refl)))
abstract_spelt abstract.Array = inl (refl, (0x6a, refl, (omega arith, refl)))
abstract_spelt abstract.Exn = inl (refl, (0x69, refl, (omega arith, refl)))

pub heap_spelt : (h : HeapType ℕ) → FitsHeap h → IsHeapType h (short_heap h)
heap_spelt (Abstract a) h = abstract_spelt a
heap_spelt (Concrete n) h = inr (index_starts (λ b. is_listed (heap_at b)) heap_between n, (pos n, refl, s33_spelt n h))

-- a byte for whether it is nullable, and then the heap type
long_spelt : (nullable : Bool) (byte : ℕ) (h : HeapType ℕ) → nullable_at byte ≡ Some nullable → byte < 256 → FitsHeap h
    → IsValueType (Ref (record { nullable = nullable; heap_type = h })) (byte ∷ short_heap h)
long_spelt nullable byte h is below fits =
    inl (ap is_listed is, ((nullable, h), refl, (byte ∷ [], short_heap h, refl, (byte, ap listed is, (below, refl)), heap_spelt h fits)))

reference_spelt : (nullable : Bool) (h : HeapType ℕ) → FitsHeap h
    → IsValueType (Ref (record { nullable = nullable; heap_type = h })) (short_reference nullable h)
unfolding nullable_at
reference_spelt true (Abstract a) h = let one = abstract_byte a in inr (one.1, (heap_byte a, ap listed one.0, (heap_below a, refl)))
reference_spelt true (Concrete n) h = long_spelt true 0x63 (Concrete n) refl (omega arith) h
reference_spelt false t h = long_spelt false 0x64 t refl (omega arith) h

pub value_spelt : (t : ValType ℕ) → FitsValue t → IsValueType t (short_value t)
unfolding value_at nullable_at
value_spelt I32 h = inr (refl, (0x7f, refl, (omega arith, refl)))
value_spelt I64 h = inr (refl, (0x7e, refl, (omega arith, refl)))
value_spelt F32 h = inr (refl, (0x7d, refl, (omega arith, refl)))
value_spelt F64 h = inr (refl, (0x7c, refl, (omega arith, refl)))
value_spelt V128 h = inr (refl, (0x7b, refl, (omega arith, refl)))
value_spelt (Ref r) h = reference_spelt r.nullable r.heap_type h

block_spelt : (b : BlockType) → FitsBlock b → IsBlockType b (short_block b)
block_spelt Empty h = inl (refl, (0x40, refl, (omega arith, refl)))
block_spelt (Value t) h = as_block_value t (short_value t) (value_spelt t h)
block_spelt (FuncType n) h = inr (index_starts (λ b. eqb b 0x40) empty_between n, inr (index_starts _ value_between n, (pos n, refl, s33_spelt n h)))

selected_spelt : (t : ValType ℕ) → FitsValue t → IsSelected t (1 ∷ short_value t)
selected_spelt t h = ((1, t), refl, (1 ∷ [], short_value t, refl, (1, refl, (omega arith, refl)), value_spelt t h))

access_spelt : (a : Access) → Fits (access a) → IsAccess a (short_access a)
access_spelt a h =
    let small = h.0 in
    elim (either_way (eqb a.memory 0)) [
      | inl e ↦ subst (IsAccess a) (sym (short_plain a e)) (plain_access a _ _ small (eqb-true a.memory 0 e) (u32_spelt a.alignment (omega arith)) (u64_spelt a.offset h.2))
      | inr e ↦ subst (IsAccess a) (sym (short_indexed a e)) (indexed_access a _ _ _ small (u32_spelt (a.alignment + 64) (omega arith)) (u32_spelt a.memory h.1) (u64_spelt a.offset h.2))
    ]

-- ---- lists after their length

many_spelt : {A : Type 0} (One : A → List ℕ → Type 0) (short : A → List ℕ) (P : A → Type 0) → ((v : A) → P v → One v (short v))
    → (vs : List A) → AllByRecursion P vs → Many One (length vs) vs (flat_map short vs)
many_spelt One short P one [] h = refl
many_spelt One short P one (v ∷ vs) h = (short v, flat_map short vs, refl, one v h.0, many_spelt One short P one vs h.1)

table_spelt : (targets : List ℕ) (default : ℕ) → Fits (branch_table targets default) → IsTable (targets, default) (short_table targets default)
unfolding short_table
table_spelt targets default h =
    let count = short_number (length targets) in
    let labels = flat_map short_number targets in
    let last = short_number default in
    let spelt = many_spelt IsU32 short_number FitsLabel u32_spelt targets h.1 in (
      (length targets, (targets, default)),
      refl,
      (count, labels ++ last, append_assoc count labels last, u32_spelt (length targets) h.0, (labels, last, refl, spelt, u32_spelt default h.2)),
    )

clause_spelt : (c : CatchClause ℕ) → FitsClause c → IsClause c (short_clause c)
clause_spelt c h = by_kind c.by_reference c.tag c.label h.0 h.1
  where
    by_kind : (by_reference : Bool) (tag : Option ℕ) (l : ℕ) → FitsTag tag → FitsLabel l
        → IsClause (record { by_reference = by_reference; tag = tag; label = l }) (short_tag by_reference tag ++ short_number l)
    by_kind false (Some n) l t h = (
      ((true, false), (Some n, l)),
      refl,
      (0 ∷ [], short_number n ++ short_number l, refl, (0, refl, (omega arith, refl)), (short_number n, short_number l, refl, (n, refl, u32_spelt n t), u32_spelt l h)),
    )
    by_kind true (Some n) l t h = (
      ((true, true), (Some n, l)),
      refl,
      (1 ∷ [], short_number n ++ short_number l, refl, (1, refl, (omega arith, refl)), (short_number n, short_number l, refl, (n, refl, u32_spelt n t), u32_spelt l h)),
    )
    by_kind false None l t h = (
      ((false, false), (None, l)),
      refl,
      (2 ∷ [], short_number l, refl, (2, refl, (omega arith, refl)), ([], short_number l, refl, (refl, refl), u32_spelt l h)),
    )
    by_kind true None l t h = (
      ((false, true), (None, l)),
      refl,
      (3 ∷ [], short_number l, refl, (3, refl, (omega arith, refl)), ([], short_number l, refl, (refl, refl), u32_spelt l h)),
    )

clauses_spelt : (cs : List (CatchClause ℕ)) → Fits (clauses cs) → AreClauses cs (short_clauses cs)
unfolding short_clauses
clauses_spelt cs h = (
  (length cs, cs),
  refl,
  (short_number (length cs), flat_map short_clause cs, refl, u32_spelt (length cs) h.0, many_spelt IsClause short_clause FitsClause clause_spelt cs h.1),
)

-- ---- casts, and lanes

module _ (l : ℕ) (s g : HeapType ℕ) (h : l < 2 ^ 32) (p : FitsHeap s) (q : FitsHeap g) where
  with_flags : (b : ℕ) (from to : Bool) → cast_flags b ≡ Ok (from, to) → b < 256
      → IsCast (record { from_nullable = from; to_nullable = to; label = l; source = s; target = g }) (b ∷ (short_number l ++ short_heap s ++ short_heap g))
  with_flags b from to e below =
      let target = short_number l in
      let types = short_heap s ++ short_heap g in (
        ((from, to), (l, (s, g))),
        refl,
        (b ∷ [], target ++ types, ap (λ (t : List ℕ). b ∷ t) (append_assoc target (short_heap s) (short_heap g)), (b, e, (below, refl)), (target, types, refl, u32_spelt l h, (short_heap s, short_heap g, refl, heap_spelt s p, heap_spelt g q))),
      )

  by_flags : (from to : Bool)
      → IsCast (record { from_nullable = from; to_nullable = to; label = l; source = s; target = g }) (short_flags from to ∷ (short_number l ++ short_heap s ++ short_heap g))
  by_flags false false = with_flags 0 false false refl (omega arith)
  by_flags true false = with_flags 1 true false refl (omega arith)
  by_flags false true = with_flags 2 false true refl (omega arith)
  by_flags true true = with_flags 3 true true refl (omega arith)

cast_spelt : (c : Cast ℕ) → Fits (cast c) → IsCast c (short_cast c)
unfolding short_cast
cast_spelt c h = by_flags c.label c.source c.target h.0 h.1 h.2 c.from_nullable c.to_nullable

each_lane : (ns : List ℕ) → AllByRecursion FitsLane ns → Many IsByte (length ns) ns ns
each_lane [] h = refl
each_lane (n ∷ ns) h = (n ∷ [], ns, refl, (h.0, refl), each_lane ns h.1)

lanes_spelt : (ns : List ℕ) → Fits (lanes ns) → Many IsByte 16 ns ns
lanes_spelt ns h = subst (λ (count : ℕ). Many IsByte count ns ns) h.0 (each_lane ns h.1)

-- ---- immediates

immediate_spelt : (i : RawImmediate) → Fits i → SpellsImmediate i (short_immediate i)
immediate_spelt (index space n) h = u32_spelt n h
immediate_spelt (local n) h = u32_spelt n h
immediate_spelt (label l) h = u32_spelt l h
immediate_spelt (handler depth) h = u32_spelt depth h
immediate_spelt (outer depth) h = u32_spelt depth h
immediate_spelt (number n) h = u32_spelt n h
immediate_spelt (access a) h = access_spelt a h
immediate_spelt (branch_table targets default) h = table_spelt targets default h
immediate_spelt (clauses cs) h = clauses_spelt cs h
immediate_spelt (block type) h = block_spelt type h
immediate_spelt (heap type) h = heap_spelt type h
immediate_spelt (value type) h = selected_spelt type h
immediate_spelt (cast c) h = cast_spelt c h
immediate_spelt (i32 z) h = s32_spelt z h
immediate_spelt (i64 z) h = s64_spelt z h
immediate_spelt (f32 bits) h = bits_spelt 4 bits h
immediate_spelt (f64 bits) h = bits_spelt 8 bits h
immediate_spelt (v128 bits) h = vector_spelt bits h
immediate_spelt (lane n) h = (h, refl)
immediate_spelt (lanes ns) h = lanes_spelt ns h
immediate_spelt zero_byte h = refl

immediates_spelt : (is : List RawImmediate) → AllFit is → SpellsImmediates is (short_immediates is)
immediates_spelt [] h = refl
immediates_spelt (i ∷ is) h = (short_immediate i, short_immediates is, refl, immediate_spelt i h.0, immediates_spelt is h.1)

-- ---- opcodes that have a row

none_some : {A : Type 0} (x : A) → None ≡ Some x → ⊥
none_some x e = cc

-- no byte below a prefix is the prefix
no_equal : (b c : ℕ) → b < c → eqb b c ≡ false
no_equal b c h = elim (either_way (eqb b c)) [ inl e ↦ absurd (let is = eqb-true b c e in omega arith) | inr e ↦ e ]

no_prefix : (b : ℕ) → b < 0xd7 → is_prefix b ≡ false
no_prefix b h = rw (no_equal b 0xfb (omega arith), no_equal b 0xfc (omega arith), no_equal b 0xfd (omega arith), no_equal b 0xfe (omega arith)) refl

bulk_below : (n : ℕ) (ks : List Kind) → row_at bulk_rows n ≡ Some ks → n < 2 ^ 32
bulk_below = row_holds (λ n ks. n < 2 ^ 32) bulk_rows (search rules)

-- the last number of each range is within the limit
abbrev EachWithin : {V : Type 0} → ℕ → List (ℕ × Option V) → Type 0
EachWithin limit [] = Unit {0}
EachWithin limit (row ∷ rows) = (row.0 < limit) × EachWithin limit rows

range_within : {V : Type 0} (limit : ℕ) (rows : List (ℕ × Option V)) → EachWithin limit rows → (n : ℕ) (v : V) → range_at rows n ≡ Some v → n < limit
range_within limit [] each n v e = absurd (none_some v e)
range_within limit (row ∷ rows) each n v e =
    elim (chosen (leb n row.0) row.1 (range_at rows n) (Some v) e) [
      | inl p ↦ let le = leb-true n row.0 p.0 in let lt = each.0 in omega arith
      | inr p ↦ range_within limit rows each.1 n v p.1
    ]

byte_past : (b : ℕ) → 0xc4 < b → kinds_of_byte b ≡ range_at reference_ranges b
unfolding kinds_of_byte
byte_past b h =
    let p : 0x1f < b = omega arith in
    let q : 0x27 < b = omega arith in
    let r : 0x3e < b = omega arith in
    let s : 0x44 < b = omega arith in
    rw (lt-leb b 0x1f p, lt-leb b 0x27 q, lt-leb b 0x3e r, lt-leb b 0x44 s, lt-leb b 0xc4 h) refl

byte_below : (b : ℕ) (ks : List Kind) → kinds_of_byte b ≡ Some ks → b < 0xd7
byte_below b ks e =
    elim (cases_lt 0xc4 b) [
      | inl lt ↦ range_within 0xd7 reference_ranges (search rules) b ks (sym (byte_past b lt) ∙ e)
      | inr le ↦ omega arith
    ]

after_fc : (n : ℕ) (ks : List Kind) → kinds_after 0xfc n ≡ Some ks → n < 2 ^ 32
unfolding kinds_after
after_fc n ks e =
    elim (cases_lt n 8) [
      | inl lt ↦ omega arith
      | inr le ↦ bulk_below n ks (let q = e in rw (lt-leb n 7 (omega arith)) at q)
    ]

after_fd : (n : ℕ) (ks : List Kind) → kinds_after 0xfd n ≡ Some ks → n < 2 ^ 32
unfolding kinds_after
after_fd n ks e = range_within (2 ^ 32) vector_ranges (search rules) n ks e

after_fe : (n : ℕ) (ks : List Kind) → kinds_after 0xfe n ≡ Some ks → n < 2 ^ 32
unfolding kinds_after
after_fe n ks e = range_within (2 ^ 32) atomic_ranges (search rules) n ks e

after_fb : (n : ℕ) (ks : List Kind) → kinds_after 0xfb n ≡ Some ks → n < 2 ^ 32
unfolding kinds_after
after_fb n ks e = range_within (2 ^ 32) aggregate_ranges (search rules) n ks e

-- a prefix that an operator can follow
prefixes : (prefix n : ℕ) (ks : List Kind) → kinds_after prefix n ≡ Some ks → (prefix ≡ 0xfc) ⊎ ((prefix ≡ 0xfd) ⊎ ((prefix ≡ 0xfe) ⊎ (prefix ≡ 0xfb)))
unfolding kinds_after
prefixes prefix n ks e =
    elim (chosen (eqb prefix 0xfc) _ _ (Some ks) e) [
      | inl p ↦ inl (eqb-true prefix 0xfc p.0)
      | inr p ↦
          elim (chosen (eqb prefix 0xfd) _ _ (Some ks) p.1) [
            | inl q ↦ inr (inl (eqb-true prefix 0xfd q.0))
            | inr q ↦
                elim (chosen (eqb prefix 0xfe) _ _ (Some ks) q.1) [
                  | inl r ↦ inr (inr (inl (eqb-true prefix 0xfe r.0)))
                  | inr r ↦
                      elim (chosen (eqb prefix 0xfb) _ None (Some ks) r.1) [
                        | inl s ↦ inr (inr (inr (eqb-true prefix 0xfb s.0)))
                        | inr s ↦ absurd (none_some ks s.1)
                      ]
                ]
          ]
    ]

prefixed_fits : (prefix n : ℕ) (ks : List Kind) → kinds_after prefix n ≡ Some ks → (is_prefix prefix ≡ true) × (prefix < 256) × (n < 2 ^ 32)
prefixed_fits prefix n ks e =
    elim (prefixes prefix n ks e) [
      | inl is ↦ let q = e in rw is (refl, omega arith, after_fc n ks (rw is at q))
      | inr others ↦
          elim others [
            | inl is ↦ let q = e in rw is (refl, omega arith, after_fd n ks (rw is at q))
            | inr more ↦
                elim more [
                  | inl is ↦ let q = e in rw is (refl, omega arith, after_fe n ks (rw is at q))
                  | inr is ↦ let q = e in rw is (refl, omega arith, after_fb n ks (rw is at q))
                ]
          ]
    ]

opcode_spelt : (o : Opcode) (ks : List Kind) → kinds_of o ≡ Some ks → IsOpcode o (short_opcode o)
opcode_spelt (Byte b) ks e = let le = byte_below b ks e in (no_prefix b le, omega arith, refl)
opcode_spelt (Prefixed prefix n) ks e = let h = prefixed_fits prefix n ks e in (h.0, h.1, short_number n, refl, u32_spelt n h.2)

-- ---- operators

spelt : (o : RawOperation) → kinds_of o.opcode ≡ Some (map kind_of o.immediates) → AllFit o.immediates → Spells o (short o)
spelt o kinds fits = record {
  first = short_opcode o.opcode;
  others = short_immediates o.immediates;
  parts = refl;
  opcode = opcode_spelt o.opcode _ kinds;
  kinds = kinds;
  immediates = immediates_spelt o.immediates fits;
}

-- ---- operators of the code

pub kinds_of_unary : (op : UnaryOp) → kinds_of (unary_opcode op) ≡ Some (map kind_of (extract_lane op))
unfolding kinds_of_byte kinds_after
kinds_of_unary unary.I32Eqz = refl
kinds_of_unary _ = refl

pub kinds_of_binary : (op : BinaryOp) → kinds_of (binary_opcode op) ≡ Some (map kind_of (replace_lane op))
unfolding kinds_of_byte kinds_after
kinds_of_binary binary.I32Add = refl
kinds_of_binary _ = refl

pub kinds_of_ternary : (op : TernaryOp) → kinds_of (ternary_opcode op) ≡ Some []
unfolding kinds_of_byte kinds_after
kinds_of_ternary ternary.F32x4RelaxedMadd = refl
kinds_of_ternary _ = refl

pub kinds_of_load : (kind : LoadKind) → kinds_of (load_opcode kind) ≡ Some (an_access ∷ [])
unfolding kinds_of_byte kinds_after
kinds_of_load (load.I32 true) = refl
kinds_of_load (load.I32 false) = refl
kinds_of_load (load.I64 true) = refl
kinds_of_load (load.I64 false) = refl
kinds_of_load load.F32 = refl
kinds_of_load load.F64 = refl
kinds_of_load load.V128 = refl
kinds_of_load (load.I32_8 SignExtend) = refl
kinds_of_load (load.I32_8 _) = refl
kinds_of_load (load.I32_16 SignExtend) = refl
kinds_of_load (load.I32_16 _) = refl
kinds_of_load (load.I64_8 SignExtend) = refl
kinds_of_load (load.I64_8 _) = refl
kinds_of_load (load.I64_16 SignExtend) = refl
kinds_of_load (load.I64_16 _) = refl
kinds_of_load (load.I64_32 SignExtend) = refl
kinds_of_load (load.I64_32 _) = refl

pub kinds_of_store : (kind : StoreKind) → kinds_of (store_opcode kind) ≡ Some (an_access ∷ [])
unfolding kinds_of_byte kinds_after
kinds_of_store store.F32 = refl
kinds_of_store store.F64 = refl
kinds_of_store store.V128 = refl
kinds_of_store (store.I32 true) = refl
kinds_of_store (store.I32 false) = refl
kinds_of_store (store.I64 true) = refl
kinds_of_store (store.I64 false) = refl
kinds_of_store (store.I32_8 true) = refl
kinds_of_store (store.I32_8 false) = refl
kinds_of_store (store.I32_16 true) = refl
kinds_of_store (store.I32_16 false) = refl
kinds_of_store (store.I64_8 true) = refl
kinds_of_store (store.I64_8 false) = refl
kinds_of_store (store.I64_16 true) = refl
kinds_of_store (store.I64_16 false) = refl
kinds_of_store (store.I64_32 true) = refl
kinds_of_store (store.I64_32 false) = refl

pub kinds_of_vector_access : (kind : LoadSimdKind) (a : Access) → kinds_of (vector_access_opcode kind) ≡ Some (map kind_of (access a ∷ access_lane kind))
unfolding kinds_after
kinds_of_vector_access vector_access.Splat8 a = refl
kinds_of_vector_access _ a = refl

pub kinds_of_rmw : (op : AtomicOp) (width : AtomicWidth) → kinds_of (rmw_opcode op width) ≡ Some (an_access ∷ [])
unfolding kinds_after
kinds_of_rmw atomic_op.Add width.I32 = refl
kinds_of_rmw atomic_op.Sub width.I32 = refl
kinds_of_rmw atomic_op.And width.I32 = refl
kinds_of_rmw atomic_op.Or width.I32 = refl
kinds_of_rmw atomic_op.Xor width.I32 = refl
kinds_of_rmw atomic_op.Xchg width.I32 = refl
kinds_of_rmw _ _ = refl

pub kinds_of_cmpxchg : (width : AtomicWidth) → kinds_of (cmpxchg_opcode width) ≡ Some (an_access ∷ [])
unfolding kinds_after
kinds_of_cmpxchg width.I32 = refl
kinds_of_cmpxchg _ = refl

pub kinds_of_atomic : (kind : AtomicKind) → kinds_of (atomic_opcode kind) ≡ Some (an_access ∷ [])
unfolding kinds_after
kinds_of_atomic (atomic.Rmw op width) = kinds_of_rmw op width
kinds_of_atomic (atomic.Cmpxchg width) = kinds_of_cmpxchg width
kinds_of_atomic _ = refl

-- an opcode with a second number, if null passes
kinds_by_null : (nullable : Bool) (m n : ℕ) (ks : Option (List Kind)) → kinds_of (Prefixed 0xfb m) ≡ ks → kinds_of (Prefixed 0xfb n) ≡ ks → kinds_of (by_null nullable m n) ≡ ks
kinds_by_null false m n ks without with_null = without
kinds_by_null true m n ks without with_null = with_null

kinds_of_reference : (op : ReferenceOp) → kinds_of (reference_opcode op) ≡ Some (map kind_of (reference_immediates op))
unfolding kinds_of_byte kinds_after
kinds_of_reference reference.RefEq = refl
kinds_of_reference _ = search kinds_by_null

-- the immediates after an opcode are those of its row
kinds_right : (op : Listed) → kinds_of (meaning op).opcode ≡ Some (map kind_of (meaning op).immediates)
unfolding kinds_of_byte kinds_after
kinds_right (operator.Unop op) = kinds_of_unary op
kinds_right (operator.Binop op) = kinds_of_binary op
kinds_right (operator.TernOp op) = kinds_of_ternary op
kinds_right (operator.Load kind memarg) = kinds_of_load kind
kinds_right (operator.Store kind memarg) = kinds_of_store kind
kinds_right (operator.LoadSimd kind memarg) = kinds_of_vector_access kind (access_of memarg)
kinds_right (operator.Atomic kind memarg) = kinds_of_atomic kind
kinds_right (operator.Reference op) = kinds_of_reference op
kinds_right _ = refl

-- so if the numbers of an operator fit, its shortest encoding is one of its encodings
pub written : (op : Listed) → AllFit (meaning op).immediates → Spells (meaning op) (short (meaning op))
written op fits = spelt (meaning op) (kinds_right op) fits
