-- The kind of an immediate on any level of operators, which translations keep.
use Rattle.std.proofs.Common.{◌≡◌, ℕ, List, [], ◌∷◌, map, length, Result, Ok, refl, ap, ◌∙◌, subst}
use Rattle.wasm_operators.specs.declared.types.Space.TheVariants.{Tags}
use Rattle.wasm_operators.specs.Operations.{Immediate, index, local, label, handler, outer, number, access, branch_table, clauses, block, heap, value, cast, i32, i64, f32, f64, v128, lane, lanes, zero_byte, RawImmediate}
use Rattle.wasm_operators.specs.Immediates.{Kind, an_index, a_local, a_label, a_handler, an_outer, a_number, an_access, a_branch_table, some_clauses, a_block, a_heap, a_value, a_cast, an_i32, an_i64, an_f32, an_f64, a_v128, a_lane, sixteen_lanes, a_zero_byte, kind_of}
use Rattle.wasm_numbers.specs.Results.{◌>>=◌, each}
use Rattle.wasm_body.specs.Translation.{Translation, translate_heap, translate_value, translate_clause, translate_cast, translate_access, translate_immediate, translate_immediates}
use Rattle.wasm_body.proofs.Translation.Steps.{bound}

abbrev pub kind_in : {L B : Type 0} → Immediate L B → Kind
kind_in (index space n) = an_index space
kind_in (local n) = a_local
kind_in (label l) = a_label
kind_in (handler n) = a_handler
kind_in (outer n) = an_outer
kind_in (number n) = a_number
kind_in (access a) = an_access
kind_in (branch_table ts d) = a_branch_table
kind_in (clauses cs) = some_clauses
kind_in (block b) = a_block
kind_in (heap h) = a_heap
kind_in (value v) = a_value
kind_in (cast c) = a_cast
kind_in (i32 z) = an_i32
kind_in (i64 z) = an_i64
kind_in (f32 bits) = an_f32
kind_in (f64 bits) = an_f64
kind_in (v128 bits) = a_v128
kind_in (lane n) = a_lane
kind_in (lanes ns) = sixteen_lanes
kind_in zero_byte = a_zero_byte

raw_kind : (i : RawImmediate) → kind_in i ≡ kind_of i
raw_kind (index space n) = refl
raw_kind _ = refl

pub raw_kinds : (is : List RawImmediate) → map kind_in is ≡ map kind_of is
raw_kinds [] = refl
raw_kinds (i ∷ is) = ap (λ k. k ∷ map kind_in is) (raw_kind i) ∙ ap (λ ks. kind_of i ∷ ks) (raw_kinds is)

-- a property of each value that the last step makes is one of the result
pub through : {X Y E : Type 0} → (r : Result Y E) (from : Y → X) (P : X → Type 0) → ((y : Y) → r ≡ Ok y → P (from y)) → (x : X) → (r >>= λ y. Ok (from y)) ≡ Ok x → P x
through r from P h x e =
    let y = bound r (λ y. Ok (from y)) x e in
    let made : from y.0 ≡ x = cc y.2 in subst P made (h y.0 y.1)

pub at_once : {X E : Type 0} → (y : X) (P : X → Type 0) → P y → (x : X) → (let r : Result X E = Ok y in r) ≡ Ok x → P x
at_once y P h x e = let made : y ≡ x = cc e in subst P made h

module _ {L B M C E : Type 0} (t : Translation L B M C E) where
  abbrev KeepsKind : Immediate L B → Immediate M C → Type 0
  KeepsKind i j = kind_in j ≡ kind_in i

  pub kind_kept : (i : Immediate L B) (j : Immediate M C) → translate_immediate t i ≡ Ok j → KeepsKind i j
  kind_kept (index space n) j e = through (t.index space n) (index space) (KeepsKind (index space n)) (λ y h. refl) j e
  kind_kept (local n) j e = through (t.local n) local (KeepsKind (local n)) (λ y h. refl) j e
  kind_kept (label l) j e = through (t.label l) label (KeepsKind (label l)) (λ y h. refl) j e
  kind_kept (handler n) j e = through (t.handler n) handler (KeepsKind (handler n)) (λ y h. refl) j e
  kind_kept (outer n) j e = through (t.outer n) outer (KeepsKind (outer n)) (λ y h. refl) j e
  kind_kept (number n) j e = through (t.number n) number (KeepsKind (number n)) (λ y h. refl) j e
  kind_kept (access a) j e = through (translate_access t a) access (KeepsKind (access a)) (λ y h. refl) j e
  kind_kept (branch_table ts d) j e =
      let u = bound (t.count (length ts)) (λ u. each t.label ts >>= λ us. t.label d >>= λ c. Ok (branch_table us c)) j e in
      let us = bound (each t.label ts) (λ us. t.label d >>= λ c. Ok (branch_table us c)) j u.2 in
      through (t.label d) (λ c. branch_table us.0 c) (KeepsKind (branch_table ts d)) (λ y h. refl) j us.2
  kind_kept (clauses cs) j e =
      let u = bound (t.count (length cs)) (λ u. each (translate_clause t) cs >>= λ ds. Ok (clauses ds)) j e in
      through (each (translate_clause t) cs) clauses (KeepsKind (clauses cs)) (λ y h. refl) j u.2
  kind_kept (block b) j e = through (t.block b) block (KeepsKind (block b)) (λ y h. refl) j e
  kind_kept (heap h) j e = through (translate_heap t.index h) heap (KeepsKind (heap h)) (λ y g. refl) j e
  kind_kept (value v) j e = through (translate_value t.index v) value (KeepsKind (value v)) (λ y h. refl) j e
  kind_kept (cast c) j e = through (translate_cast t c) cast (KeepsKind (cast c)) (λ y h. refl) j e
  kind_kept (i32 z) j e = at_once (i32 z) (KeepsKind (i32 z)) refl j e
  kind_kept (i64 z) j e = at_once (i64 z) (KeepsKind (i64 z)) refl j e
  kind_kept (f32 bits) j e = at_once (f32 bits) (KeepsKind (f32 bits)) refl j e
  kind_kept (f64 bits) j e = at_once (f64 bits) (KeepsKind (f64 bits)) refl j e
  kind_kept (v128 bits) j e = at_once (v128 bits) (KeepsKind (v128 bits)) refl j e
  kind_kept (lane n) j e = at_once (lane n) (KeepsKind (lane n)) refl j e
  kind_kept (lanes ns) j e = at_once (lanes ns) (KeepsKind (lanes ns)) refl j e
  kind_kept zero_byte j e = at_once zero_byte (KeepsKind zero_byte) refl j e

  pub kinds_kept : (is : List (Immediate L B)) (js : List (Immediate M C)) → translate_immediates t is ≡ Ok js → map kind_in js ≡ map kind_in is
  kinds_kept [] js e = at_once [] (λ ks. map kind_in ks ≡ []) refl js e
  kinds_kept (i ∷ is) js e =
      let first = bound (translate_immediate t i) (λ k. each (translate_immediate t) is >>= λ ks. Ok (k ∷ ks)) js e in
      through (each (translate_immediate t) is) (λ ks. first.0 ∷ ks) (λ ks. map kind_in ks ≡ map kind_in (i ∷ is))
      (λ ks h. ap (λ k. k ∷ map kind_in ks) (kind_kept i first.0 first.1) ∙ ap (λ l. kind_in i ∷ l) (kinds_kept is ks h)) js first.2

-- ---- one immediate alone

pub only_tag : {L B : Type 0} → (is : List (Immediate L B)) → map kind_in is ≡ an_index Tags ∷ [] → (t : ℕ) × (is ≡ index Tags t ∷ [])
only_tag [] e = absurd cc
only_tag (index space t ∷ []) e = let same : space ≡ Tags = cc e in (t, ap (λ s. index s t ∷ []) same)
only_tag (index space t ∷ j ∷ js) e = absurd cc
only_tag (_ ∷ is) e = absurd cc

pub only_outer : {L B : Type 0} → (is : List (Immediate L B)) → map kind_in is ≡ an_outer ∷ [] → (d : ℕ) × (is ≡ outer d ∷ [])
only_outer [] e = absurd cc
only_outer (outer d ∷ []) e = (d, refl)
only_outer (outer d ∷ j ∷ js) e = absurd cc
only_outer (_ ∷ is) e = absurd cc
