-- Encodings: numbers that fit have one, and so do types whose indices fit, and immediates of both.
use Rattle.std.proofs.Common.{◌≡◌, ℕ, ◌+◌, ◌<◌, ◌++◌, List, [], ◌∷◌, length, Bool, true, false, eqb, Option, Some, None, Ok, refl, arith, pos, inl, inr}
use Rattle.std.specs.Prelude.{◌^◌}
use Rattle.std.specs.List.{AllByRecursion}
use Rattle.wasm_types.specs.declared.val_type.HeapType.{HeapType}
use Rattle.wasm_types.specs.declared.val_type.ValType.{ValType}
use Rattle.wasm_operators.specs.declared.types.BlockType.TheVariants.{Empty, Value, FuncType}
use Rattle.wasm_numbers.specs.Reading.{Spelling, Many}
use Rattle.wasm_numbers.specs.Numbers.{IsU32, IsU64, IsS33}
use Rattle.wasm_operators.specs.Types.{IsHeapType, IsValueType, starts_value_type, IsBlockType}
use Rattle.wasm_operators.specs.Immediates.{cast_flags, IsAccess, IsTable, IsClause, AreClauses, IsCast, IsSelected}
use Rattle.wasm_operators.specs.Operations.{Access, CatchClause}
use Rattle.wasm_operators.specs.Shortest.{short_unsigned, short_number, short_integer, short_heap, short_value}
use Rattle.wasm_operators.proofs.ShortestNumbers.{unsigned_spelt, signed_spelt}
use Rattle.wasm_operators.proofs.ShortestTypes.{index_starts, value_between, empty_between, as_block_value}
use Rattle.wasm_operators.proofs.ShortestImmediates.{indexed_access}
use Rattle.wasm_operators.specs.Fitting.{FitsHeap, FitsValue, FitsTag}
use Rattle.wasm_operators.proofs.Written.{heap_spelt as short_heap_spelt, value_spelt as short_value_spelt}

-- it has an encoding
abbrev pub IsSpellable : {V : Type 0} → Spelling V → V → Type 0
IsSpellable Spells v = (text : List ℕ) × Spells v text

-- ---- numbers

pub u32_spelt : (n : ℕ) → n < 2 ^ 32 → IsSpellable IsU32 n
u32_spelt n h = (short_number n, unsigned_spelt 9 32 n (omega arith) h)

index_spelt : (n : ℕ) → n < 2 ^ 32 → IsS33 (pos n) (short_integer (pos n))
index_spelt n h = signed_spelt 9 33 (pos n) (omega arith) h

pub many_spelt : {V : Type 0} (One : Spelling V) (vs : List V) → AllByRecursion (IsSpellable One) vs → (text : List ℕ) × Many One (length vs) vs text
many_spelt One [] h = ([], refl)
many_spelt One (v ∷ vs) h = let others = many_spelt One vs h.1 in (h.0.0 ++ others.0, (h.0.0, others.0, refl, h.0.1, others.1))

-- ---- types

pub heap_spelt : (h : HeapType ℕ) → FitsHeap h → IsSpellable IsHeapType h
heap_spelt h fits = (short_heap h, short_heap_spelt h fits)

pub value_spelt : (v : ValType ℕ) → FitsValue v → IsSpellable IsValueType v
value_spelt v fits = (short_value v, short_value_spelt v fits)

pub empty_block_spelt : IsSpellable IsBlockType Empty
empty_block_spelt = (0x40 ∷ [], inl (refl, (0x40, refl, (omega arith, refl))))

pub value_block_spelt : (v : ValType ℕ) → FitsValue v → IsSpellable IsBlockType (Value v)
value_block_spelt v h = let s = value_spelt v h in (s.0, as_block_value v s.0 s.1)

pub index_block_spelt : (n : ℕ) → n < 2 ^ 32 → IsSpellable IsBlockType (FuncType n)
index_block_spelt n h =
    (short_integer (pos n), inr (index_starts (λ b. eqb b 0x40) empty_between n, inr (index_starts starts_value_type value_between n, (pos n, refl, index_spelt n h))))

-- ---- immediates of several parts

pub access_spelt : (a : Access) → a.alignment < 32 → a.memory < 2 ^ 32 → IsSpellable IsU64 a.offset → IsSpellable IsAccess a
access_spelt a small memory offset =
    let flags = u32_spelt (a.alignment + 64) (omega arith) in
    let index = u32_spelt a.memory memory in
    (flags.0 ++ (index.0 ++ offset.0), indexed_access a flags.0 index.0 offset.0 small flags.1 index.1 offset.1)

pub table_spelt : (ts : List ℕ) (d : ℕ) → length ts < 2 ^ 32 → AllByRecursion (IsSpellable IsU32) ts → d < 2 ^ 32 → IsSpellable IsTable (ts, d)
table_spelt ts d count targets default =
    let c = u32_spelt (length ts) count in
    let many = many_spelt IsU32 ts targets in
    let last = u32_spelt d default in
    (c.0 ++ (many.0 ++ last.0), ((length ts, (ts, d)), refl, (c.0, many.0 ++ last.0, refl, c.1, (many.0, last.0, refl, many.1, last.1))))

pub clause_spelt : (by_reference : Bool) (tag : Option ℕ) (l : ℕ) → FitsTag tag → l < 2 ^ 32 → IsSpellable IsClause (record { by_reference = by_reference; tag = tag; label = l })
clause_spelt false (Some n) l t h =
    let tag = u32_spelt n t in
    let target = u32_spelt l h in
    (0 ∷ (tag.0 ++ target.0), (((true, false), (Some n, l)), refl, (0 ∷ [], tag.0 ++ target.0, refl, (0, refl, (omega arith, refl)), (tag.0, target.0, refl, (n, refl, tag.1), target.1))))
clause_spelt true (Some n) l t h =
    let tag = u32_spelt n t in
    let target = u32_spelt l h in
    (1 ∷ (tag.0 ++ target.0), (((true, true), (Some n, l)), refl, (1 ∷ [], tag.0 ++ target.0, refl, (1, refl, (omega arith, refl)), (tag.0, target.0, refl, (n, refl, tag.1), target.1))))
clause_spelt false None l t h =
    let target = u32_spelt l h in
    (2 ∷ target.0, (((false, false), (None, l)), refl, (2 ∷ [], target.0, refl, (2, refl, (omega arith, refl)), ([], target.0, refl, (refl, refl), target.1))))
clause_spelt true None l t h =
    let target = u32_spelt l h in
    (3 ∷ target.0, (((false, true), (None, l)), refl, (3 ∷ [], target.0, refl, (3, refl, (omega arith, refl)), ([], target.0, refl, (refl, refl), target.1))))

pub clauses_spelt : (cs : List (CatchClause ℕ)) → length cs < 2 ^ 32 → AllByRecursion (IsSpellable IsClause) cs → IsSpellable AreClauses cs
clauses_spelt cs count all =
    let c = u32_spelt (length cs) count in
    let many = many_spelt IsClause cs all in
    (c.0 ++ many.0, ((length cs, cs), refl, (c.0, many.0, refl, c.1, many.1)))

module _ (l : ℕ) (s g : HeapType ℕ) (h : l < 2 ^ 32) (p : FitsHeap s) (q : FitsHeap g) where
  with_byte : (b : ℕ) (from to : Bool) → cast_flags b ≡ Ok (from, to) → b < 256 → IsSpellable IsCast (record { from_nullable = from; to_nullable = to; label = l; source = s; target = g })
  with_byte b from to e below =
      let target = u32_spelt l h in
      let source = heap_spelt s p in
      let goal = heap_spelt g q in (
        b ∷ (target.0 ++ (source.0 ++ goal.0)),
        (((from, to), (l, (s, g))), refl, (b ∷ [], target.0 ++ (source.0 ++ goal.0), refl, (b, e, (below, refl)), (target.0, source.0 ++ goal.0, refl, target.1, (source.0, goal.0, refl, source.1, goal.1)))),
      )

  pub cast_spelt : (from to : Bool) → IsSpellable IsCast (record { from_nullable = from; to_nullable = to; label = l; source = s; target = g })
  cast_spelt false false = with_byte 0 false false refl (omega arith)
  cast_spelt true false = with_byte 1 true false refl (omega arith)
  cast_spelt false true = with_byte 2 false true refl (omega arith)
  cast_spelt true true = with_byte 3 true true refl (omega arith)

pub selected_spelt : (v : ValType ℕ) → FitsValue v → IsSpellable IsSelected v
unfolding short_unsigned
selected_spelt v h = let s = value_spelt v h in let one = u32_spelt 1 (omega arith) in (one.0 ++ s.0, ((1, v), refl, (one.0, s.0, refl, (1, refl, one.1), s.1)))
