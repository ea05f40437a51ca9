-- Translations that fail alike: their results for an operator may differ, but not whether there is a result, nor which fault is
-- the first.
use Rattle.std.specs.Prelude.{◌≡◌, ℕ, length, List, [], ◌∷◌, Option, Some, None, Result, Ok, Err}
use Rattle.std.proofs.Common.{refl}
use Rattle.wasm_types.specs.declared.val_type.HeapType.{HeapType}
use Rattle.wasm_types.specs.declared.val_type.HeapType.TheVariants.{Abstract, Concrete}
use Rattle.wasm_types.specs.declared.val_type.ValType.{ValType}
use Rattle.wasm_types.specs.declared.val_type.ValType.TheVariants.{I32, I64, F32, F64, V128, Ref}
use Rattle.wasm_operators.specs.declared.types.Space.{Space}
use Rattle.wasm_operators.specs.declared.types.Space.TheVariants.{Types, Memories, Tags}
use Rattle.wasm_operators.specs.Operations.{Access, CatchClause, Cast, Immediate, index, local, label, handler, outer, number, access, branch_table, clauses, block, heap, value, cast, i32, i64, f32, f64, v128, lane, lanes, zero_byte}
use Rattle.wasm_numbers.specs.Results.{◌>>=◌, each}
use Rattle.wasm_body.specs.Translation.{Translation, translate_heap, translate_value, translate_tag, translate_clause, translate_cast, translate_access, translate_immediate, translate_immediates}

-- ---- outcomes

-- whether there is a result, or which fault
abbrev pub outcome : {A E : Type 0} → Result A E → Result (Unit {0}) E
outcome (Ok x) = Ok tt
outcome (Err e) = Err e

abbrev pub Alike : {A B E : Type 0} → Result A E → Result B E → Type 0
Alike r s = outcome r ≡ outcome s

pub alike_then : {A B C D E : Type 0} → (r : Result A E) (s : Result B E) (k : A → Result C E) (l : B → Result D E) →
    Alike r s → ((x : A) (y : B) → Alike (k x) (l y)) → Alike (r >>= k) (s >>= l)
alike_then (Ok x) (Ok y) k l e f = f x y
alike_then (Ok x) (Err d) k l e f = absurd cc
alike_then (Err c) (Ok y) k l e f = absurd cc
alike_then (Err c) (Err d) k l e f = e

-- the last step never fails
pub alike_last : {A B C D E : Type 0} → (r : Result A E) (s : Result B E) (k : A → C) (l : B → D) → Alike r s → Alike (r >>= λ x. Ok (k x)) (s >>= λ y. Ok (l y))
alike_last r s k l e = alike_then r s (λ x. Ok (k x)) (λ y. Ok (l y)) e (λ x y. refl)

pub each_alike : {A B C E : Type 0} → (f : A → Result B E) (g : A → Result C E) → ((x : A) → Alike (f x) (g x)) → (xs : List A) → Alike (each f xs) (each g xs)
each_alike f g a [] = refl
each_alike f g a (x ∷ xs) =
    alike_then (f x) (g x) (λ y. each f xs >>= λ ys. Ok (y ∷ ys)) (λ z. each g xs >>= λ zs. Ok (z ∷ zs)) (a x)
    (λ y z. alike_last (each f xs) (each g xs) (λ ys. y ∷ ys) (λ zs. z ∷ zs) (each_alike f g a xs))

-- ---- translations

module _ {L B M C N D E : Type 0} (f : Translation L B M C E) (g : Translation L B N D E) where
  pub record AreAlike : Type 0 where
    pub indices : (space : Space) (n : ℕ) → Alike (f.index space n) (g.index space n)
    pub locals : (n : ℕ) → Alike (f.local n) (g.local n)
    pub labels : (l : L) → Alike (f.label l) (g.label l)
    pub handlers : (n : ℕ) → Alike (f.handler n) (g.handler n)
    pub outers : (n : ℕ) → Alike (f.outer n) (g.outer n)
    pub numbers : (n : ℕ) → Alike (f.number n) (g.number n)
    pub blocks : (b : B) → Alike (f.block b) (g.block b)
    pub counts : (n : ℕ) → Alike (f.count n) (g.count n)

  heap_alike : AreAlike → (t : HeapType ℕ) → Alike (translate_heap f.index t) (translate_heap g.index t)
  heap_alike a (Abstract h) = refl
  heap_alike a (Concrete n) = alike_last (f.index Types n) (g.index Types n) Concrete Concrete (a.indices Types n)

  value_alike : AreAlike → (t : ValType ℕ) → Alike (translate_value f.index t) (translate_value g.index t)
  value_alike a (Ref r) =
      let made : HeapType ℕ → ValType ℕ = λ h. Ref (record { nullable = r.nullable; heap_type = h }) in
      alike_last (translate_heap f.index r.heap_type) (translate_heap g.index r.heap_type) made made (heap_alike a r.heap_type)
  value_alike a I32 = refl
  value_alike a I64 = refl
  value_alike a F32 = refl
  value_alike a F64 = refl
  value_alike a V128 = refl

  tag_alike : AreAlike → (t : Option ℕ) → Alike (translate_tag f.index t) (translate_tag g.index t)
  tag_alike a None = refl
  tag_alike a (Some n) = let made : ℕ → Option ℕ = Some in alike_last (f.index Tags n) (g.index Tags n) made made (a.indices Tags n)

  clause_alike : AreAlike → (c : CatchClause L) → Alike (translate_clause f c) (translate_clause g c)
  clause_alike a c =
      alike_then (translate_tag f.index c.tag) (translate_tag g.index c.tag)
      (λ t. f.label c.label >>= λ l. Ok (record { by_reference = c.by_reference; tag = t; label = l }))
      (λ t. g.label c.label >>= λ l. Ok (record { by_reference = c.by_reference; tag = t; label = l }))
      (tag_alike a c.tag)
      (λ t u. alike_last (f.label c.label) (g.label c.label) (λ l. record { by_reference = c.by_reference; tag = t; label = l }) (λ l. record { by_reference = c.by_reference; tag = u; label = l }) (a.labels c.label))

  cast_alike : AreAlike → (c : Cast L) → Alike (translate_cast f c) (translate_cast g c)
  cast_alike a c =
      let to : (X : Type 0) → X → HeapType ℕ → HeapType ℕ → Cast X = λ X l s t. record { from_nullable = c.from_nullable; to_nullable = c.to_nullable; label = l; source = s; target = t } in
      alike_then (f.label c.label) (g.label c.label)
      (λ l. translate_heap f.index c.source >>= λ s. translate_heap f.index c.target >>= λ t. Ok (to M l s t))
      (λ l. translate_heap g.index c.source >>= λ s. translate_heap g.index c.target >>= λ t. Ok (to N l s t))
      (a.labels c.label)
      (λ l k. alike_then (translate_heap f.index c.source) (translate_heap g.index c.source)
      (λ s. translate_heap f.index c.target >>= λ t. Ok (to M l s t)) (λ s. translate_heap g.index c.target >>= λ t. Ok (to N k s t))
      (heap_alike a c.source)
      (λ s r. alike_last (translate_heap f.index c.target) (translate_heap g.index c.target) (λ t. to M l s t) (λ t. to N k r t) (heap_alike a c.target)))

  access_alike : AreAlike → (x : Access) → Alike (translate_access f x) (translate_access g x)
  access_alike a x =
      alike_last (f.index Memories x.memory) (g.index Memories x.memory)
      (λ m. record { alignment = f.alignment x.alignment; memory = m; offset = x.offset }) (λ m. record { alignment = g.alignment x.alignment; memory = m; offset = x.offset })
      (a.indices Memories x.memory)

  immediate_alike : AreAlike → (i : Immediate L B) → Alike (translate_immediate f i) (translate_immediate g i)
  immediate_alike a (index space n) = alike_last (f.index space n) (g.index space n) (index space) (index space) (a.indices space n)
  immediate_alike a (local n) = alike_last (f.local n) (g.local n) local local (a.locals n)
  immediate_alike a (label l) = alike_last (f.label l) (g.label l) label label (a.labels l)
  immediate_alike a (handler n) = alike_last (f.handler n) (g.handler n) handler handler (a.handlers n)
  immediate_alike a (outer n) = alike_last (f.outer n) (g.outer n) outer outer (a.outers n)
  immediate_alike a (number n) = alike_last (f.number n) (g.number n) number number (a.numbers n)
  immediate_alike a (access x) = alike_last (translate_access f x) (translate_access g x) access access (access_alike a x)
  immediate_alike a (branch_table ts d) =
      alike_then (f.count (length ts)) (g.count (length ts))
      (λ u. each f.label ts >>= λ us. f.label d >>= λ e. Ok (branch_table us e)) (λ u. each g.label ts >>= λ us. g.label d >>= λ e. Ok (branch_table us e))
      (a.counts (length ts))
      (λ u v. alike_then (each f.label ts) (each g.label ts) (λ us. f.label d >>= λ e. Ok (branch_table us e)) (λ us. g.label d >>= λ e. Ok (branch_table us e))
      (each_alike f.label g.label a.labels ts)
      (λ us vs. alike_last (f.label d) (g.label d) (λ e. branch_table us e) (λ e. branch_table vs e) (a.labels d)))
  immediate_alike a (clauses cs) =
      alike_then (f.count (length cs)) (g.count (length cs))
      (λ u. each (translate_clause f) cs >>= λ ds. Ok (clauses ds)) (λ u. each (translate_clause g) cs >>= λ ds. Ok (clauses ds))
      (a.counts (length cs))
      (λ u v. alike_last (each (translate_clause f) cs) (each (translate_clause g) cs) clauses clauses (each_alike (translate_clause f) (translate_clause g) (clause_alike a) cs))
  immediate_alike a (block b) = alike_last (f.block b) (g.block b) block block (a.blocks b)
  immediate_alike a (heap t) = alike_last (translate_heap f.index t) (translate_heap g.index t) heap heap (heap_alike a t)
  immediate_alike a (value v) = alike_last (translate_value f.index v) (translate_value g.index v) value value (value_alike a v)
  immediate_alike a (cast c) = alike_last (translate_cast f c) (translate_cast g c) cast cast (cast_alike a c)
  immediate_alike a (i32 z) = refl
  immediate_alike a (i64 z) = refl
  immediate_alike a (f32 bits) = refl
  immediate_alike a (f64 bits) = refl
  immediate_alike a (v128 bits) = refl
  immediate_alike a (lane n) = refl
  immediate_alike a (lanes ns) = refl
  immediate_alike a zero_byte = refl

  pub translate_alike : AreAlike → (is : List (Immediate L B)) → Alike (translate_immediates f is) (translate_immediates g is)
  translate_alike a is = each_alike (translate_immediate f) (translate_immediate g) (immediate_alike a) is
