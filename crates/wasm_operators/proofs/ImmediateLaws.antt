-- Reading an immediate agrees with its encodings.
use Rattle.std.proofs.Common.{◌≡◌, ℕ, eqb, Bool, true, false, List, [], ◌∷◌, ◌++◌, map, None, Result, Ok, Err, refl, ap, subst, ◌∙◌, inl, inr}
use Rattle.std.proofs.lemmas.Bool.{eqb-true}
use Rattle.wasm_numbers.specs.declared.fault.ReadFault.{ReadFault}
use Rattle.wasm_numbers.specs.declared.fault.ReadFault.TheVariants.{BadFence}
use Rattle.wasm_numbers.specs.Reading.{Made}
use Rattle.wasm_numbers.specs.Numbers.{unsigned, signed, IsByte}
use Rattle.wasm_operators.specs.Operations.{RawImmediate, index, local, label, handler, outer, number, access, branch_table, clauses, block, heap, value, cast, i32, i64, f32, f64, v128, lane, lanes, zero_byte}
use Rattle.wasm_operators.specs.Immediates.{memory_flags, IsMemory, memory, made_access, IsAccess, memory_access, made_table, IsTable, label_table, catch_kind, some_tag, IsTag, tag, made_clause, IsClause, clause, made_clauses, AreClauses, catch_clauses, cast_flags, made_cast, IsCast, cast_parts, one_type, made_selected, IsSelected, selected, fence_byte}
use Rattle.wasm_operators.specs.Immediates.{Kind, an_index, a_local, a_label, a_handler, an_outer, a_number, an_access, a_branch_table, some_clauses, a_block, a_heap, a_value, a_cast, an_i32, an_i64, an_f32, an_f64, a_v128, a_lane, sixteen_lanes, a_zero_byte, kind_of, SpellsImmediate, SpellsImmediates, as_immediate, immediate, immediates}
use Rattle.wasm_numbers.proofs.Agreement.{IsBytes, ok_is, chosen, Takes, Agrees, joined, parted, nothing_agrees, agrees_then, agrees_made, agrees_many}
use Rattle.wasm_numbers.proofs.NumberLaws.{integers_agree, bytes_agree, bits_agree}
use Rattle.wasm_operators.proofs.TypeLaws.{heap_types_agree, value_types_agree, block_types_agree}
use Rattle.wasm_numbers.specs.Results.{◌>>=◌}
use Rattle.wasm_numbers.proofs.ResultLemmas.{bind_ok}

memory_agrees : (flags : ℕ × Bool) → Agrees (IsMemory flags) (memory flags)
memory_agrees (exponent, false) = nothing_agrees 0
memory_agrees (exponent, true) = integers_agree unsigned 32

access_agrees : Agrees IsAccess memory_access
unfolding memory_access
access_agrees =
    agrees_made _ _ made_access (agrees_then _ _ _ _ (agrees_made _ _ memory_flags (integers_agree unsigned 32)) (λ flags. agrees_then _ _ _ _ (memory_agrees flags) (λ memory. integers_agree unsigned 64)))

table_agrees : Agrees IsTable label_table
unfolding label_table
table_agrees =
    agrees_made _ _ made_table (agrees_then _ _ _ _ (integers_agree unsigned 32) (λ count. agrees_then _ _ _ _ (agrees_many _ _ (integers_agree unsigned 32) count) (λ targets. integers_agree unsigned 32)))

tag_agrees : (tagged : Bool) → Agrees (IsTag tagged) (tag tagged)
tag_agrees true = agrees_made _ _ some_tag (integers_agree unsigned 32)
tag_agrees false = nothing_agrees None

clause_agrees : Agrees IsClause clause
clause_agrees =
    agrees_made _ _ made_clause (agrees_then _ _ _ _ (agrees_made _ _ catch_kind bytes_agree) (λ kind. agrees_then _ _ _ _ (tag_agrees kind.0) (λ tag. integers_agree unsigned 32)))

clauses_agree : Agrees AreClauses catch_clauses
unfolding catch_clauses
clauses_agree = agrees_made _ _ made_clauses (agrees_then _ _ _ _ (integers_agree unsigned 32) (λ count. agrees_many _ _ clause_agrees count))

cast_agrees : Agrees IsCast cast_parts
unfolding cast_parts
cast_agrees =
    agrees_made _ _ made_cast
    (agrees_then _ _ _ _ (agrees_made _ _ cast_flags bytes_agree) (λ flags. agrees_then _ _ _ _ (integers_agree unsigned 32) (λ label. agrees_then _ _ _ _ heap_types_agree (λ source. heap_types_agree))))

selected_agrees : Agrees IsSelected selected
unfolding selected
selected_agrees = agrees_made _ _ made_selected (agrees_then _ _ _ _ (agrees_made _ _ one_type (integers_agree unsigned 32)) (λ count. value_types_agree))

-- ---- each kind

-- The immediate is of the kind, and the bytes encode it.
abbrev pub IsOfKind : Kind → RawImmediate → List ℕ → Type 0
IsOfKind kind i text = (kind_of i ≡ kind) × SpellsImmediate i text

as_immediate_ok : {V : Type 0} (make : V → RawImmediate) (read : Result (V × List ℕ) ReadFault) (i : RawImmediate) (rest : List ℕ)
    → as_immediate make read ≡ Ok (i, rest) → (v : V) × (read ≡ Ok (v, rest)) × (make v ≡ i)
as_immediate_ok {V} make read i rest e =
    let x = bind_ok read (λ x. Ok (make x.0, x.1)) (i, rest) e in
    let both = ok_is (make x.0.0, x.0.1) (i, rest) x.2 in
    (x.0.0, x.1 ∙ ap (λ (p : RawImmediate × List ℕ). Ok (x.0.0, p.1)) both, ap (λ (p : RawImmediate × List ℕ). p.0) both)

-- If reading agrees with the encodings of the value in an immediate, it agrees with those of the immediate.
module _ {V : Type 0} (kind : Kind) (make : V → RawImmediate) (R : V → List ℕ → Type 0) (r : List ℕ → Result (V × List ℕ) ReadFault) (inner : Agrees R r)
    (onto : (v : V) (text : List ℕ) → R v text → IsOfKind kind (make v) text) where
  pub taken : (bytes : List ℕ) (i : RawImmediate) (rest : List ℕ) → IsBytes bytes → as_immediate make (r bytes) ≡ Ok (i, rest) → Takes (IsOfKind kind) bytes i rest
  taken bytes i rest fits e =
      let x = as_immediate_ok make (r bytes) i rest e in
      let p = inner.takes bytes x.0 rest fits x.1 in
      let one : Takes (IsOfKind kind) bytes (make x.0) rest = record { text = p.text; parts = p.parts; spelt = onto x.0 p.text p.spelt; rest_fits = p.rest_fits } in
      subst (λ (j : RawImmediate). Takes (IsOfKind kind) bytes j rest) x.2 one

-- the byte after `atomic.fence` is 0
fence_is : (b : ℕ) (text : List ℕ) → Made IsByte fence_byte b text → text ≡ 0 ∷ []
fence_is b text h =
    elim (chosen (eqb h.0 0) (Ok h.0) (Err BadFence) (Ok b) h.1) [
      | inl p ↦ h.2.1 ∙ ap (λ (x : ℕ). x ∷ []) (eqb-true h.0 0 p.0)
      | inr p ↦ let e = p.1 in absurd cc
    ]

immediate_takes : (kind : Kind) (bytes : List ℕ) (i : RawImmediate) (rest : List ℕ) → IsBytes bytes → immediate kind bytes ≡ Ok (i, rest) → Takes (IsOfKind kind) bytes i rest
immediate_takes (an_index space) = taken (an_index space) (index space) _ _ (integers_agree unsigned 32) (λ v text h. (refl, h))
immediate_takes a_local = taken a_local local _ _ (integers_agree unsigned 32) (λ v text h. (refl, h))
immediate_takes a_label = taken a_label label _ _ (integers_agree unsigned 32) (λ v text h. (refl, h))
immediate_takes a_handler = taken a_handler handler _ _ (integers_agree unsigned 32) (λ v text h. (refl, h))
immediate_takes an_outer = taken an_outer outer _ _ (integers_agree unsigned 32) (λ v text h. (refl, h))
immediate_takes a_number = taken a_number number _ _ (integers_agree unsigned 32) (λ v text h. (refl, h))
immediate_takes an_access = taken an_access access _ _ access_agrees (λ v text h. (refl, h))
immediate_takes a_branch_table = taken a_branch_table (λ t. branch_table t.0 t.1) _ _ table_agrees (λ v text h. (refl, h))
immediate_takes some_clauses = taken some_clauses clauses _ _ clauses_agree (λ v text h. (refl, h))
immediate_takes a_block = taken a_block block _ _ block_types_agree (λ v text h. (refl, h))
immediate_takes a_heap = taken a_heap heap _ _ heap_types_agree (λ v text h. (refl, h))
immediate_takes a_value = taken a_value value _ _ selected_agrees (λ v text h. (refl, h))
immediate_takes a_cast = taken a_cast cast _ _ cast_agrees (λ v text h. (refl, h))
immediate_takes an_i32 = taken an_i32 i32 _ _ (integers_agree signed 32) (λ v text h. (refl, h))
immediate_takes an_i64 = taken an_i64 i64 _ _ (integers_agree signed 64) (λ v text h. (refl, h))
immediate_takes an_f32 = taken an_f32 f32 _ _ (bits_agree 4) (λ v text h. (refl, h))
immediate_takes an_f64 = taken an_f64 f64 _ _ (bits_agree 8) (λ v text h. (refl, h))
immediate_takes a_v128 = taken a_v128 v128 _ _ (bits_agree 16) (λ v text h. (refl, h))
immediate_takes a_lane = taken a_lane lane _ _ bytes_agree (λ v text h. (refl, h))
immediate_takes sixteen_lanes = taken sixteen_lanes lanes _ _ (agrees_many _ _ bytes_agree 16) (λ v text h. (refl, h))
immediate_takes a_zero_byte = taken a_zero_byte (λ b. zero_byte) _ _ (agrees_made _ _ fence_byte bytes_agree) (λ b text h. (refl, fence_is b text h))

immediate_again : (i : RawImmediate) (text rest : List ℕ) → SpellsImmediate i text → immediate (kind_of i) (text ++ rest) ≡ Ok (i, rest)
immediate_again (index space n) text rest h = ap (as_immediate (index space)) ((integers_agree unsigned 32).again n text rest h)
immediate_again (local n) text rest h = ap (as_immediate local) ((integers_agree unsigned 32).again n text rest h)
immediate_again (label l) text rest h = ap (as_immediate label) ((integers_agree unsigned 32).again l text rest h)
immediate_again (handler depth) text rest h = ap (as_immediate handler) ((integers_agree unsigned 32).again depth text rest h)
immediate_again (outer depth) text rest h = ap (as_immediate outer) ((integers_agree unsigned 32).again depth text rest h)
immediate_again (number n) text rest h = ap (as_immediate number) ((integers_agree unsigned 32).again n text rest h)
immediate_again (access a) text rest h = ap (as_immediate access) (access_agrees.again a text rest h)
immediate_again (branch_table targets default) text rest h = ap (as_immediate (λ t. branch_table t.0 t.1)) (table_agrees.again (targets, default) text rest h)
immediate_again (clauses cs) text rest h = ap (as_immediate clauses) (clauses_agree.again cs text rest h)
immediate_again (block type) text rest h = ap (as_immediate block) (block_types_agree.again type text rest h)
immediate_again (heap type) text rest h = ap (as_immediate heap) (heap_types_agree.again type text rest h)
immediate_again (value type) text rest h = ap (as_immediate value) (selected_agrees.again type text rest h)
immediate_again (cast c) text rest h = ap (as_immediate cast) (cast_agrees.again c text rest h)
immediate_again (i32 z) text rest h = ap (as_immediate i32) ((integers_agree signed 32).again z text rest h)
immediate_again (i64 z) text rest h = ap (as_immediate i64) ((integers_agree signed 64).again z text rest h)
immediate_again (f32 bits) text rest h = ap (as_immediate f32) ((bits_agree 4).again bits text rest h)
immediate_again (f64 bits) text rest h = ap (as_immediate f64) ((bits_agree 8).again bits text rest h)
immediate_again (v128 bits) text rest h = ap (as_immediate v128) ((bits_agree 16).again bits text rest h)
immediate_again (lane n) text rest h = ap (as_immediate lane) (bytes_agree.again n text rest h)
immediate_again (lanes ns) text rest h = ap (as_immediate lanes) ((agrees_many _ _ bytes_agree 16).again ns text rest h)
immediate_again zero_byte text rest h = ap (λ (t : List ℕ). immediate a_zero_byte (t ++ rest)) h

again_of_kind : (kind : Kind) (i : RawImmediate) (text rest : List ℕ) → IsOfKind kind i text → immediate kind (text ++ rest) ≡ Ok (i, rest)
again_of_kind kind i text rest h = subst (λ (k : Kind). immediate k (text ++ rest) ≡ Ok (i, rest)) h.0 (immediate_again i text rest h.1)

pub immediate_agrees : (kind : Kind) → Agrees (IsOfKind kind) (immediate kind)
immediate_agrees kind = record { takes = immediate_takes kind; again = again_of_kind kind }

-- ---- one after the other

abbrev pub AreOfKinds : List Kind → List RawImmediate → List ℕ → Type 0
AreOfKinds kinds is text = (map kind_of is ≡ kinds) × SpellsImmediates is text

immediates_take : (kinds : List Kind) (bytes : List ℕ) (is : List RawImmediate) (rest : List ℕ) → IsBytes bytes → immediates kinds bytes ≡ Ok (is, rest) → Takes (AreOfKinds kinds) bytes is rest
immediates_take [] bytes is rest fits e =
    subst (λ (z : List RawImmediate × List ℕ). Takes (AreOfKinds []) bytes z.0 z.1) (ok_is ([], bytes) (is, rest) e) (record { text = []; parts = refl; spelt = (refl, refl); rest_fits = fits })
immediates_take (kind ∷ kinds) bytes is rest fits e =
    let x = bind_ok (immediate kind bytes) (λ first. immediates kinds first.1 >>= λ others. Ok (first.0 ∷ others.0, others.1)) (is, rest) e in
    let y = bind_ok (immediates kinds x.0.1) (λ others. Ok (x.0.0 ∷ others.0, others.1)) (is, rest) x.2 in
    let p = (immediate_agrees kind).takes bytes x.0.0 x.0.1 fits x.1 in
    let q = immediates_take kinds x.0.1 y.0.0 y.0.1 p.rest_fits y.1 in
    let made = ok_is (x.0.0 ∷ y.0.0, y.0.1) (is, rest) y.2 in
    let both : Takes (AreOfKinds (kind ∷ kinds)) bytes (x.0.0 ∷ y.0.0) y.0.1 = record {
      text = p.text ++ q.text;
      parts = joined bytes p.text x.0.1 q.text y.0.1 p.parts q.parts;
      spelt = (ap (λ (k : Kind). k ∷ map kind_of y.0.0) p.spelt.0 ∙ ap (λ (ks : List Kind). kind ∷ ks) q.spelt.0, (p.text, q.text, refl {a = p.text ++ q.text}, p.spelt.1, q.spelt.1));
      rest_fits = q.rest_fits;
    } in
    subst (λ (z : List RawImmediate × List ℕ). Takes (AreOfKinds (kind ∷ kinds)) bytes z.0 z.1) made both

pub immediates_again : (is : List RawImmediate) (text rest : List ℕ) → SpellsImmediates is text → immediates (map kind_of is) (text ++ rest) ≡ Ok (is, rest)
immediates_again [] text rest h = ap (λ (t : List ℕ). immediates [] (t ++ rest)) h
immediates_again (i ∷ is) text rest h =
    ap (immediates (kind_of i ∷ map kind_of is)) (parted text rest h.0 h.1 h.2) ∙ rw (immediate_again i h.0 (h.1 ++ rest) h.3, immediates_again is h.1 rest h.4) refl

again_of_kinds : (kinds : List Kind) (is : List RawImmediate) (text rest : List ℕ) → AreOfKinds kinds is text → immediates kinds (text ++ rest) ≡ Ok (is, rest)
again_of_kinds kinds is text rest h = subst (λ (ks : List Kind). immediates ks (text ++ rest) ≡ Ok (is, rest)) h.0 (immediates_again is text rest h.1)

pub immediates_agree : (kinds : List Kind) → Agrees (AreOfKinds kinds) (immediates kinds)
immediates_agree kinds = record { takes = immediates_take kinds; again = again_of_kinds kinds }
