-- A translation that has a result wherever another has one, or a fault of these, apart from labels, numbers and counts.
use Rattle.std.specs.Prelude.{ℕ, List, [], ◌∷◌, length, Option, Some, None, IsOk, IfErr, Result, Ok, Err}
use Rattle.std.specs.List.{AllByRecursion}
use Rattle.std.proofs.Common.{refl}
use Rattle.wasm_types.specs.declared.val_type.HeapType.{HeapType}
use Rattle.wasm_types.specs.declared.val_type.HeapType.TheVariants.{Abstract, Concrete}
use Rattle.wasm_types.specs.declared.val_type.ValType.{ValType}
use Rattle.wasm_types.specs.declared.val_type.ValType.TheVariants.{I32, I64, F32, F64, V128, Ref}
use Rattle.wasm_operators.specs.declared.types.Space.{Space}
use Rattle.wasm_operators.specs.declared.types.Space.TheVariants.{Types, Memories, Tags}
use Rattle.wasm_operators.specs.Operations.{Access, CatchClause, Cast, Immediate, index, local, label, handler, outer, number, access, branch_table, clauses, block, heap, value, cast, i32, i64, f32, f64, v128, lane, lanes, zero_byte}
use Rattle.wasm_numbers.specs.Results.{◌>>=◌, each}
use Rattle.wasm_body.specs.Translation.{Translation, translate_heap, translate_value, translate_tag, translate_clause, translate_cast, translate_access, translate_immediate, translate_immediates}

-- ---- steps

-- if there is a result, each step had one
pub first_ok : {A B E : Type 0} → (r : Result A E) (k : A → Result B E) → IsOk (r >>= k) → IsOk r
first_ok (Ok x) k h = refl
first_ok (Err e) k h = absurd cc

pub rest_ok : {A B E : Type 0} → (r : Result A E) (k : A → Result B E) → IsOk (r >>= k) → (x : A) × IsOk (k x)
rest_ok (Ok x) k h = (x, h)
rest_ok (Err e) k h = absurd cc

pub all_ok : {A B E : Type 0} → (f : A → Result B E) (xs : List A) → IsOk (each f xs) → AllByRecursion (λ x. IsOk (f x)) xs
all_ok f [] h = tt
all_ok f (x ∷ xs) h =
    let r = rest_ok (f x) (λ y. each f xs >>= λ ys. Ok (y ∷ ys)) h in
    (first_ok (f x) (λ y. each f xs >>= λ ys. Ok (y ∷ ys)) h, all_ok f xs (first_ok (each f xs) (λ ys. Ok (r.0 ∷ ys)) r.1))

-- if no fault is possible, there is a result
pub no_fault_ok : {A E : Type 0} → (r : Result A E) → IfErr r (λ e. ⊥) → IsOk r
no_fault_ok (Ok x) h = refl
no_fault_ok (Err e) h = absurd h

pub ok_no_fault : {A E : Type 0} → (Q : E → Type 0) (r : Result A E) → IsOk r → IfErr r Q
ok_no_fault Q (Ok x) h = tt
ok_no_fault Q (Err e) h = absurd cc

-- If the faults of each step are of Q, so are those of all steps together.
module _ {E : Type 0} (Q : E → Type 0) where
  pub steps_within : {A B : Type 0} → (r : Result A E) (k : A → Result B E) → IfErr r Q → ((x : A) → IfErr (k x) Q) → IfErr (r >>= k) Q
  steps_within (Ok x) k h g = g x
  steps_within (Err e) k h g = h

  pub last_within : {A B : Type 0} → (r : Result A E) (k : A → B) → IfErr r Q → IfErr (r >>= λ x. Ok (k x)) Q
  last_within (Ok x) k h = tt
  last_within (Err e) k h = h

  pub first_within : {A B : Type 0} → (r : Result A E) (k : A → Result B E) → IfErr (r >>= k) Q → IfErr r Q
  first_within (Ok x) k h = tt
  first_within (Err e) k h = h

  pub each_within : {A B : Type 0} → (f : A → Result B E) (xs : List A) → AllByRecursion (λ x. IfErr (f x) Q) xs → IfErr (each f xs) Q
  each_within f [] h = tt
  each_within f (x ∷ xs) h = steps_within (f x) (λ y. each f xs >>= λ ys. Ok (y ∷ ys)) h.0 (λ y. last_within (each f xs) (λ ys. y ∷ ys) (each_within f xs h.1))

-- ---- translations

module _ {L B M C N D E F : Type 0} (Q : F → Type 0) (f : Translation L B M C E) (h : Translation L B N D F) where
  pub record FaultsAre : Type 0 where
    pub indices : (space : Space) (n : ℕ) → IsOk (f.index space n) → IfErr (h.index space n) Q
    pub locals : (n : ℕ) → IsOk (f.local n) → IfErr (h.local n) Q
    pub blocks : (b : B) → IsOk (f.block b) → IfErr (h.block b) Q

  -- the same of the labels, numbers and counts of an immediate
  abbrev pub OthersWithin : Immediate L B → Type 0
  OthersWithin (label l) = IfErr (h.label l) Q
  OthersWithin (handler n) = IfErr (h.handler n) Q
  OthersWithin (outer n) = IfErr (h.outer n) Q
  OthersWithin (number n) = IfErr (h.number n) Q
  OthersWithin (branch_table ts d) = IfErr (h.count (length ts)) Q × AllByRecursion (λ l. IfErr (h.label l) Q) ts × IfErr (h.label d) Q
  OthersWithin (clauses cs) = IfErr (h.count (length cs)) Q × AllByRecursion (λ (c : CatchClause L). IfErr (h.label c.label) Q) cs
  OthersWithin (cast c) = IfErr (h.label c.label) Q
  OthersWithin _ = Unit {0}

  heap_faults : FaultsAre → (t : HeapType ℕ) → IsOk (translate_heap f.index t) → IfErr (translate_heap h.index t) Q
  heap_faults a (Abstract x) g = tt
  heap_faults a (Concrete n) g = last_within Q (h.index Types n) Concrete (a.indices Types n (first_ok (f.index Types n) (λ m. Ok (Concrete m)) g))

  value_faults : FaultsAre → (t : ValType ℕ) → IsOk (translate_value f.index t) → IfErr (translate_value h.index t) Q
  value_faults a (Ref r) g =
      let made : HeapType ℕ → ValType ℕ = λ x. Ref (record { nullable = r.nullable; heap_type = x }) in
      last_within Q (translate_heap h.index r.heap_type) made (heap_faults a r.heap_type (first_ok (translate_heap f.index r.heap_type) (λ x. Ok (made x)) g))
  value_faults a I32 g = tt
  value_faults a I64 g = tt
  value_faults a F32 g = tt
  value_faults a F64 g = tt
  value_faults a V128 g = tt

  tag_faults : FaultsAre → (t : Option ℕ) → IsOk (translate_tag f.index t) → IfErr (translate_tag h.index t) Q
  tag_faults a None g = tt
  tag_faults a (Some n) g = last_within Q (h.index Tags n) Some (a.indices Tags n (first_ok (f.index Tags n) (λ m. Ok (Some m)) g))

  clause_faults : FaultsAre → (c : CatchClause L) → IfErr (h.label c.label) Q → IsOk (translate_clause f c) → IfErr (translate_clause h c) Q
  clause_faults a c l g =
      steps_within Q (translate_tag h.index c.tag) (λ t. h.label c.label >>= λ k. Ok (record { by_reference = c.by_reference; tag = t; label = k }))
      (tag_faults a c.tag (first_ok (translate_tag f.index c.tag) (λ t. f.label c.label >>= λ k. Ok (record { by_reference = c.by_reference; tag = t; label = k })) g))
      (λ t. last_within Q (h.label c.label) (λ k. record { by_reference = c.by_reference; tag = t; label = k }) l)

  clauses_faults : FaultsAre → (cs : List (CatchClause L)) → AllByRecursion (λ (c : CatchClause L). IfErr (h.label c.label) Q) cs → AllByRecursion (λ c. IsOk (translate_clause f c)) cs → AllByRecursion (λ c. IfErr (translate_clause h c) Q) cs
  clauses_faults a [] l g = tt
  clauses_faults a (c ∷ cs) l g = (clause_faults a c l.0 g.0, clauses_faults a cs l.1 g.1)

  cast_faults : FaultsAre → (c : Cast L) → IfErr (h.label c.label) Q → IsOk (translate_cast f c) → IfErr (translate_cast h c) Q
  cast_faults a c l g =
      let from : M → HeapType ℕ → HeapType ℕ → Cast M = λ k s t. record { from_nullable = c.from_nullable; to_nullable = c.to_nullable; label = k; source = s; target = t } in
      let to : N → HeapType ℕ → HeapType ℕ → Cast N = λ k s t. record { from_nullable = c.from_nullable; to_nullable = c.to_nullable; label = k; source = s; target = t } in
      let first = rest_ok (f.label c.label) (λ k. translate_heap f.index c.source >>= λ s. translate_heap f.index c.target >>= λ t. Ok (from k s t)) g in
      let second = rest_ok (translate_heap f.index c.source) (λ s. translate_heap f.index c.target >>= λ t. Ok (from first.0 s t)) first.1 in
      steps_within Q (h.label c.label) (λ k. translate_heap h.index c.source >>= λ s. translate_heap h.index c.target >>= λ t. Ok (to k s t)) l
      (λ k. steps_within Q (translate_heap h.index c.source) (λ s. translate_heap h.index c.target >>= λ t. Ok (to k s t))
      (heap_faults a c.source (first_ok (translate_heap f.index c.source) (λ s. translate_heap f.index c.target >>= λ t. Ok (from first.0 s t)) first.1))
      (λ s. last_within Q (translate_heap h.index c.target) (λ t. to k s t) (heap_faults a c.target (first_ok (translate_heap f.index c.target) (λ t. Ok (from first.0 second.0 t)) second.1))))

  access_faults : FaultsAre → (x : Access) → IsOk (translate_access f x) → IfErr (translate_access h x) Q
  access_faults a x g =
      last_within Q (h.index Memories x.memory) (λ m. record { alignment = h.alignment x.alignment; memory = m; offset = x.offset })
      (a.indices Memories x.memory (first_ok (f.index Memories x.memory) (λ m. Ok (record { alignment = f.alignment x.alignment; memory = m; offset = x.offset })) g))

  immediate_faults : FaultsAre → (i : Immediate L B) → OthersWithin i → IsOk (translate_immediate f i) → IfErr (translate_immediate h i) Q
  immediate_faults a (index space n) l g = last_within Q (h.index space n) (index space) (a.indices space n (first_ok (f.index space n) (λ m. Ok (index space m)) g))
  immediate_faults a (local n) l g = last_within Q (h.local n) local (a.locals n (first_ok (f.local n) (λ m. Ok (local m)) g))
  immediate_faults a (label x) l g = last_within Q (h.label x) label l
  immediate_faults a (handler n) l g = last_within Q (h.handler n) handler l
  immediate_faults a (outer n) l g = last_within Q (h.outer n) outer l
  immediate_faults a (number n) l g = last_within Q (h.number n) number l
  immediate_faults a (access x) l g = last_within Q (translate_access h x) access (access_faults a x (first_ok (translate_access f x) (λ b. Ok (access b)) g))
  immediate_faults a (branch_table ts d) l g =
      steps_within Q (h.count (length ts)) (λ u. each h.label ts >>= λ us. h.label d >>= λ e. Ok (branch_table us e)) l.0
      (λ u. steps_within Q (each h.label ts) (λ us. h.label d >>= λ e. Ok (branch_table us e)) (each_within Q h.label ts l.1)
      (λ us. last_within Q (h.label d) (λ e. branch_table us e) l.2))
  immediate_faults a (clauses cs) l g =
      let inner = rest_ok (f.count (length cs)) (λ u. each (translate_clause f) cs >>= λ ds. Ok (clauses ds)) g in
      let all = all_ok (translate_clause f) cs (first_ok (each (translate_clause f) cs) (λ ds. Ok (clauses ds)) inner.1) in
      steps_within Q (h.count (length cs)) (λ u. each (translate_clause h) cs >>= λ ds. Ok (clauses ds)) l.0
      (λ u. last_within Q (each (translate_clause h) cs) clauses (each_within Q (translate_clause h) cs (clauses_faults a cs l.1 all)))
  immediate_faults a (block b) l g = last_within Q (h.block b) block (a.blocks b (first_ok (f.block b) (λ c. Ok (block c)) g))
  immediate_faults a (heap t) l g = last_within Q (translate_heap h.index t) heap (heap_faults a t (first_ok (translate_heap f.index t) (λ x. Ok (heap x)) g))
  immediate_faults a (value v) l g = last_within Q (translate_value h.index v) value (value_faults a v (first_ok (translate_value f.index v) (λ x. Ok (value x)) g))
  immediate_faults a (cast c) l g = last_within Q (translate_cast h c) cast (cast_faults a c l (first_ok (translate_cast f c) (λ x. Ok (cast x)) g))
  immediate_faults a (i32 z) l g = tt
  immediate_faults a (i64 z) l g = tt
  immediate_faults a (f32 bits) l g = tt
  immediate_faults a (f64 bits) l g = tt
  immediate_faults a (v128 bits) l g = tt
  immediate_faults a (lane n) l g = tt
  immediate_faults a (lanes ns) l g = tt
  immediate_faults a zero_byte l g = tt

  immediates_all : FaultsAre → (is : List (Immediate L B)) → AllByRecursion OthersWithin is → AllByRecursion (λ i. IsOk (translate_immediate f i)) is → AllByRecursion (λ i. IfErr (translate_immediate h i) Q) is
  immediates_all a [] l g = tt
  immediates_all a (i ∷ is) l g = (immediate_faults a i l.0 g.0, immediates_all a is l.1 g.1)

  -- its faults are of Q if the other translation has a result and the faults of labels, numbers and counts are of Q
  pub immediates_faults : FaultsAre → (is : List (Immediate L B)) → AllByRecursion OthersWithin is → IsOk (translate_immediates f is) → IfErr (translate_immediates h is) Q
  immediates_faults a is l g = each_within Q (translate_immediate h) is (immediates_all a is l (all_ok (translate_immediate f) is g))
