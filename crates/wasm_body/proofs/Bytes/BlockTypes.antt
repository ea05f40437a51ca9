-- The block types among the immediates of an operator: as many as its kinds say, and as many as in its translation.
use Rattle.std.proofs.Common.{◌≡◌, ℕ, suc, length, List, [], ◌∷◌, map, Bool, true, false, cond, Result, Ok, refl, sym, ap, subst, ◌∙◌}
use Rattle.std.specs.List.{AllByRecursion}
use Rattle.wasm_operators.specs.Operations.{Immediate, index, local, label, handler, outer, number, access, branch_table, clauses, block, heap, value, cast, i32, i64, f32, f64, v128, lane, lanes, zero_byte, RawImmediate}
use Rattle.wasm_operators.specs.Immediates.{kind_of}
use Rattle.wasm_numbers.specs.Results.{◌>>=◌, each}
use Rattle.wasm_body.specs.Translation.{Translation, translate_heap, translate_value, translate_clause, translate_cast, translate_access, translate_immediate, translate_immediates}
use Rattle.wasm_body.specs.Naming.{block_types}
use Rattle.wasm_body.proofs.Translation.Steps.{bound}
use Rattle.wasm_body.proofs.Bytes.Openers.{is_block_kind, block_count}

abbrev pub is_block : {L B : Type 0} → Immediate L B → Bool
is_block (block b) = true
is_block _ = false

block_types_cons : {L B : Type 0} → (i : Immediate L B) (is : List (Immediate L B))
    → length (block_types (i ∷ is)) ≡ cond (is_block i) (suc (length (block_types is))) (length (block_types is))
block_types_cons (block b) is = refl
block_types_cons _ is = refl

is_block_kind_of : (i : RawImmediate) → is_block_kind (kind_of i) ≡ is_block i
is_block_kind_of (block b) = refl
is_block_kind_of _ = refl

counts_same : (a b : Bool) (m n : ℕ) → a ≡ b → m ≡ n → cond a (suc m) m ≡ cond b (suc n) n
counts_same a b m n e d = ap (λ x. cond x (suc m) m) e ∙ ap (λ x. cond b (suc x) x) d

pub length-block_types : (is : List RawImmediate) → length (block_types is) ≡ block_count (map kind_of is)
length-block_types [] = refl
length-block_types (i ∷ is) =
    block_types_cons i is
    ∙ counts_same (is_block i) (is_block_kind (kind_of i)) _ _ (sym (is_block_kind_of i)) (length-block_types is)

cons_same : {L B M C : Type 0} → (j : Immediate M C) (js : List (Immediate M C)) (i : Immediate L B) (is : List (Immediate L B))
    → is_block j ≡ is_block i → length (block_types js) ≡ length (block_types is) → length (block_types (j ∷ js)) ≡ length (block_types (i ∷ is))
cons_same j js i is e d = block_types_cons j js ∙ (counts_same (is_block j) (is_block i) _ _ e d ∙ sym (block_types_cons i is))

module _ {L B M C E : Type 0} (t : Translation L B M C E) where
  -- an immediate that is made in steps, of which the last determines whether it is a block type
  part_kept : {Y : Type 0} → (r : Result Y E) (from : Y → Immediate M C) (b : Bool) → ((y : Y) → is_block (from y) ≡ b)
      → (j : Immediate M C) → (r >>= λ y. Ok (from y)) ≡ Ok j → is_block j ≡ b
  part_kept r from b h j e =
      let y = bound r (λ y. Ok (from y)) j e in
      let made : from y.0 ≡ j = cc y.2 in ap is_block (sym made) ∙ h y.0

  stays : (i j : Immediate M C) → (let r : Result (Immediate M C) E = Ok i in r) ≡ Ok j → is_block j ≡ is_block i
  stays i j e = let same : i ≡ j = cc in ap is_block (sym same)

  pub block_kept : (i : Immediate L B) (j : Immediate M C) → translate_immediate t i ≡ Ok j → is_block j ≡ is_block i
  block_kept (block b) j e = part_kept (t.block b) block true (λ y. refl) j e
  block_kept (index space n) j e = part_kept (t.index space n) (index space) false (λ y. refl) j e
  block_kept (local n) j e = part_kept (t.local n) local false (λ y. refl) j e
  block_kept (label l) j e = part_kept (t.label l) label false (λ y. refl) j e
  block_kept (handler n) j e = part_kept (t.handler n) handler false (λ y. refl) j e
  block_kept (outer n) j e = part_kept (t.outer n) outer false (λ y. refl) j e
  block_kept (access a) j e = part_kept (translate_access t a) access false (λ y. refl) j e
  block_kept (branch_table ts d) j e =
      let u = bound (t.count (length ts)) (λ u. each t.label ts >>= λ us. t.label d >>= λ c. Ok (branch_table us c)) j e in
      let us = bound (each t.label ts) (λ us. t.label d >>= λ c. Ok (branch_table us c)) j u.2 in
      part_kept (t.label d) (λ c. branch_table us.0 c) false (λ y. refl) j us.2
  block_kept (clauses cs) j e =
      let u = bound (t.count (length cs)) (λ u. each (translate_clause t) cs >>= λ ds. Ok (clauses ds)) j e in
      part_kept (each (translate_clause t) cs) clauses false (λ y. refl) j u.2
  block_kept (heap h) j e = part_kept (translate_heap t.index h) heap false (λ y. refl) j e
  block_kept (value v) j e = part_kept (translate_value t.index v) value false (λ y. refl) j e
  block_kept (cast c) j e = part_kept (translate_cast t c) cast false (λ y. refl) j e
  block_kept (number n) j e = part_kept (t.number n) number false (λ y. refl) j e
  block_kept (i32 z) j e = stays (i32 z) j e
  block_kept (i64 z) j e = stays (i64 z) j e
  block_kept (f32 bits) j e = stays (f32 bits) j e
  block_kept (f64 bits) j e = stays (f64 bits) j e
  block_kept (v128 bits) j e = stays (v128 bits) j e
  block_kept (lane n) j e = stays (lane n) j e
  block_kept (lanes ns) j e = stays (lanes ns) j e
  block_kept zero_byte j e = stays zero_byte j e

  pub block_types-translate : (is : List (Immediate L B)) (js : List (Immediate M C)) → translate_immediates t is ≡ Ok js
      → length (block_types js) ≡ length (block_types is)
  block_types-translate [] js e = let made : [] ≡ js = cc e in ap (λ ks. length (block_types ks)) (sym made)
  block_types-translate (i ∷ is) js e =
      let first = bound (translate_immediate t i) (λ k. each (translate_immediate t) is >>= λ ks. Ok (k ∷ ks)) js e in
      let others = bound (each (translate_immediate t) is) (λ ks. Ok (first.0 ∷ ks)) js first.2 in
      let made : first.0 ∷ others.0 ≡ js = cc others.2 in
      ap (λ ks. length (block_types ks)) (sym made)
      ∙ cons_same first.0 others.0 i is (block_kept i first.0 first.1) (block_types-translate is others.0 others.1)

  -- each block type comes from a block type
  abbrev pub FromBlock : C → Type 0
  FromBlock c = (b : B) × (t.block b ≡ Ok c)

  after_others : (j : Immediate M C) (js : List (Immediate M C)) → is_block j ≡ false → AllByRecursion FromBlock (block_types js) → AllByRecursion FromBlock (block_types (j ∷ js))
  after_others (block c) js e h = absurd cc
  after_others _ js e h = h

  after_block : (b : B) (j : Immediate M C) (js : List (Immediate M C)) → translate_immediate t (block b) ≡ Ok j → AllByRecursion FromBlock (block_types js) → AllByRecursion FromBlock (block_types (j ∷ js))
  after_block b j js e h =
      let c = bound (t.block b) (λ c. Ok (block c)) j e in
      let made : block c.0 ≡ j = cc c.2 in
      subst (λ i. AllByRecursion FromBlock (block_types (i ∷ js))) made ((b, c.1), h)

  after_first : (i : Immediate L B) (j : Immediate M C) (js : List (Immediate M C)) → translate_immediate t i ≡ Ok j → AllByRecursion FromBlock (block_types js) → AllByRecursion FromBlock (block_types (j ∷ js))
  after_first (block b) j js e h = after_block b j js e h
  after_first (branch_table ts d) j js e h = after_others j js (block_kept (branch_table ts d) j e) h
  after_first (clauses cs) j js e h = after_others j js (block_kept (clauses cs) j e) h
  after_first i j js e h = after_others j js (block_kept i j e) h

  pub blocks_from : (is : List (Immediate L B)) (js : List (Immediate M C)) → translate_immediates t is ≡ Ok js → AllByRecursion FromBlock (block_types js)
  blocks_from [] js e = let made : [] ≡ js = cc e in subst (λ ks. AllByRecursion FromBlock (block_types ks)) made tt
  blocks_from (i ∷ is) js e =
      let first = bound (translate_immediate t i) (λ k. each (translate_immediate t) is >>= λ ks. Ok (k ∷ ks)) js e in
      let others = bound (each (translate_immediate t) is) (λ ks. Ok (first.0 ∷ ks)) js first.2 in
      let made : first.0 ∷ others.0 ≡ js = cc others.2 in
      subst (λ ks. AllByRecursion FromBlock (block_types ks)) made (after_first i first.0 others.0 first.1 (blocks_from is others.0 others.1))
