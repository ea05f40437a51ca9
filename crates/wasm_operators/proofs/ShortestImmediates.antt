-- The shortest encodings of immediates.
use Rattle.std.proofs.Common.{◌≡◌, ℕ, zero, suc, ◌+◌, ◌-◌, ◌*◌, ◌/◌, ◌%◌, ◌<◌, ◌≤◌, Bool, true, false, cond, eqb, ltb, List, [], ◌∷◌, ◌++◌, length, Option, Some, None, Result, Ok, Err, refl, sym, ap, subst, ◌∙◌, append_assoc, arith, inl, inr, ◌⊎◌}
use Rattle.std.proofs.lemmas.Bool.{eqb-true, eq-eqb, ltb-true, ltb-false, lt-ltb, le-ltb}
use Rattle.std.proofs.lemmas.List.{length-append}
use Rattle.std.specs.List.{flat_map}
use Rattle.wasm_types.specs.declared.val_type.ValType.{ValType}
use Rattle.wasm_numbers.specs.declared.fault.ReadFault.{ReadFault}
use Rattle.wasm_numbers.specs.declared.fault.ReadFault.TheVariants.{BadMemArg, BadCatchKind, BadCastFlags, BadSelect}
use Rattle.wasm_numbers.specs.Reading.{Then, Made, Many}
use Rattle.wasm_numbers.specs.Numbers.{IsU32, IsU64, IsByte, joined, AreBits}
use Rattle.wasm_operators.specs.Operations.{Access, CatchClause, Cast, RawImmediate, index, local, label, handler, outer, number, access, branch_table, clauses, block, heap, value, cast, i32, i64, f32, f64, v128, lane, lanes, zero_byte}
use Rattle.wasm_operators.specs.Types.{IsHeapType, IsValueType}
use Rattle.wasm_operators.specs.Immediates.{memory_flags, IsMemory, IsAccess, Table, made_table, IsTable, catch_kind, some_tag, IsTag, IsClause, made_clauses, AreClauses, cast_flags, made_cast, IsCast, one_type, made_selected, IsSelected, SpellsImmediate, SpellsImmediates}
use Rattle.wasm_operators.specs.Shortest.{IsLeast, short_unsigned, short_number, short_bits, short_vector, short_heap, short_value, short_access, short_table, short_tag, short_clause, short_clauses, short_flags, short_cast, short_immediate, short_immediates}
use Rattle.wasm_operators.proofs.ShortestNumbers.{unsigned_spelt}
use Rattle.wasm_operators.proofs.Shortness.{Least, least_append, least_along, least_only, least_then, least_made, least_many, least_moved, many_length, least_u32, least_u64, least_s32, least_s64}
use Rattle.wasm_operators.proofs.ShortestTypes.{least_heap, least_value, least_block}

pub either_way : (b : Bool) → (b ≡ true) ⊎ (b ≡ false)
either_way true = inl refl
either_way false = inr refl

-- a result after a test: the branch of the test, or one of the others
taken_or : {A : Type 0} (b : Bool) (x : A) (others : Result A ReadFault) (v : A) → cond b (Ok x) others ≡ Ok v → ((b ≡ true) × (x ≡ v)) ⊎ ((b ≡ false) × (others ≡ Ok v))
taken_or true x others v e = inl (refl, cc)
taken_or false x others v e = inr (refl, e)

refused_or : {A : Type 0} (b : Bool) (fault : ReadFault) (others : Result A ReadFault) (v : A) → cond b (Err fault) others ≡ Ok v → (b ≡ false) × (others ≡ Ok v)
refused_or true fault others v e = absurd cc
refused_or false fault others v e = (refl, e)

-- ---- memory accesses

-- the meaning of flags: an exponent below 32; if a memory index follows, the flags are 64 more
pub record AreFlags (k : ℕ) (flags : ℕ × Bool) : Type 0 where
  pub small : flags.0 < 32
  pub is : k ≡ cond flags.1 (flags.0 + 64) flags.0

pub flags_are : (k : ℕ) (flags : ℕ × Bool) → memory_flags k ≡ Ok flags → AreFlags k flags
flags_are k flags e =
    elim (taken_or (ltb k 32) (k, false) (cond (ltb k 64) (Err BadMemArg) (cond (ltb k 96) (Ok (k - 64, true)) (Err BadMemArg))) flags e) [
      | inl p ↦ subst (AreFlags k) p.1 (record { small = ltb-true k 32 p.0; is = refl })
      | inr p ↦
          let q = refused_or (ltb k 64) BadMemArg (cond (ltb k 96) (Ok (k - 64, true)) (Err BadMemArg)) flags p.1 in
          elim (taken_or (ltb k 96) (k - 64, true) (Err BadMemArg) flags q.1) [
            | inl r ↦
                let high = ltb-true k 96 r.0 in
                let low = ltb-false k 64 q.0 in
                let back : k ≡ k - 64 + 64 = omega arith in
                subst (AreFlags k) r.1 (record { small = omega arith; is = back })
            | inr r ↦ absurd (let h = r.1 in cc)
          ]
    ]

flags_spelt : (exponent : ℕ) (text : List ℕ) → exponent < 32 → IsU32 exponent text → Made IsU32 memory_flags (exponent, false) text
flags_spelt exponent text small h = (exponent, rw (lt-ltb exponent 32 small) refl, h)

indexed_spelt : (exponent : ℕ) (text : List ℕ) → exponent < 32 → IsU32 (exponent + 64) text → Made IsU32 memory_flags (exponent, true) text
indexed_spelt exponent text small h =
    let a : 32 ≤ exponent + 64 = omega arith in
    let b : 64 ≤ exponent + 64 = omega arith in
    let c : exponent + 64 < 96 = omega arith in
    let back : exponent + 64 - 64 ≡ exponent = omega arith in
    (exponent + 64, rw (le-ltb (exponent + 64) 32 a, le-ltb (exponent + 64) 64 b, lt-ltb (exponent + 64) 96 c, back) refl, h)

-- an access without a memory index, and one with an index
record IsPlain (a : Access) (text : List ℕ) : Type 0 where
  flags : List ℕ
  offset : List ℕ
  parts : text ≡ flags ++ offset
  small : a.alignment < 32
  zero_memory : a.memory ≡ 0
  flags_spelt : IsU32 a.alignment flags
  offset_spelt : IsU64 a.offset offset

record IsIndexed (a : Access) (text : List ℕ) : Type 0 where
  flags : List ℕ
  memory : List ℕ
  offset : List ℕ
  parts : text ≡ flags ++ (memory ++ offset)
  small : a.alignment < 32
  flags_spelt : IsU32 (a.alignment + 64) flags
  memory_spelt : IsU32 a.memory memory
  offset_spelt : IsU64 a.offset offset

abbrev access_of : ℕ → ℕ → ℕ → Access
access_of alignment memory offset = record { alignment = alignment; memory = memory; offset = offset }

access_forms : (flags : ℕ × Bool) (memory offset : ℕ) (text : List ℕ) → Then (Made IsU32 memory_flags) (λ flags. Then (IsMemory flags) (λ memory. IsU64)) (flags, (memory, offset)) text
    → IsPlain (access_of flags.0 memory offset) text ⊎ IsIndexed (access_of flags.0 memory offset) text
access_forms (exponent, false) memory offset text h =
    let are = flags_are h.3.0 (exponent, false) h.3.1 in
    let rest = h.4 in
    inl (record {
      flags = h.0;
      offset = rest.1;
      parts = h.2 ∙ ap (λ (t : List ℕ). h.0 ++ t) (rest.2 ∙ ap (λ (t : List ℕ). t ++ rest.1) rest.3.1);
      small = are.small;
      zero_memory = rest.3.0;
      flags_spelt = subst (λ (k : ℕ). IsU32 k h.0) are.is h.3.2;
      offset_spelt = rest.4;
    })
access_forms (exponent, true) memory offset text h =
    let are = flags_are h.3.0 (exponent, true) h.3.1 in
    let rest = h.4 in
    inr (record {
      flags = h.0;
      memory = rest.0;
      offset = rest.1;
      parts = h.2 ∙ ap (λ (t : List ℕ). h.0 ++ t) rest.2;
      small = are.small;
      flags_spelt = subst (λ (k : ℕ). IsU32 k h.0) are.is h.3.2;
      memory_spelt = rest.3;
      offset_spelt = rest.4;
    })

pub plain_access : (a : Access) (x y : List ℕ) → a.alignment < 32 → a.memory ≡ 0 → IsU32 a.alignment x → IsU64 a.offset y → IsAccess a (x ++ y)
plain_access a x y small e p q =
    (((a.alignment, false), (a.memory, a.offset)), refl, (x, y, refl, flags_spelt a.alignment x small p, ([], y, refl, (e, refl), q)))

pub indexed_access : (a : Access) (x m y : List ℕ) → a.alignment < 32 → IsU32 (a.alignment + 64) x → IsU32 a.memory m → IsU64 a.offset y → IsAccess a (x ++ (m ++ y))
indexed_access a x m y small p i q =
    (((a.alignment, true), (a.memory, a.offset)), refl, (x, m ++ y, refl, indexed_spelt a.alignment x small p, (m, y, refl, i, q)))

pub short_plain : (a : Access) → eqb a.memory 0 ≡ true → short_access a ≡ short_number a.alignment ++ short_number a.offset
unfolding short_access
short_plain a e = rw e refl

pub short_indexed : (a : Access) → eqb a.memory 0 ≡ false → short_access a ≡ short_number (a.alignment + 64) ++ (short_number a.memory ++ short_number a.offset)
unfolding short_access
short_indexed a e = rw e (append_assoc (short_number (a.alignment + 64)) (short_number a.memory) (short_number a.offset))

-- a small exponent is encoded in one byte
small_length : (n : ℕ) → n < 32 → length (short_number n) ≡ 1
unfolding short_unsigned
small_length n h = let lt : n < 128 = omega arith in rw (lt-ltb n 128 lt) refl

some_length : (n : ℕ) (text : List ℕ) → IsU32 n text → 0 < length text
some_length n [] h = absurd h
some_length n (b ∷ text) h = omega arith

-- without an index
plainly : (a : Access) (text : List ℕ) → IsPlain a text → IsAccess a (short_access a) × IsLeast (short_access a) text
plainly a text p =
    let flags = (least_u32 a.alignment).is p.flags p.flags_spelt in
    let offset = (least_u64 a.offset).is p.offset p.offset_spelt in
    rw (short_plain a (eq-eqb a.memory 0 p.zero_memory)) (
      plain_access a (short_number a.alignment) (short_number a.offset) p.small p.zero_memory flags.0 offset.0,
      least_along _ (p.flags ++ p.offset) text (sym p.parts) (least_append _ _ _ _ flags.1 offset.1),
    )

-- with an index: that of memory 0 is omitted
with_index : (a : Access) (text : List ℕ) → IsIndexed a text → IsAccess a (short_access a) × IsLeast (short_access a) text
with_index a text p =
    let flags = (least_u32 (a.alignment + 64)).is p.flags p.flags_spelt in
    let memory = (least_u32 a.memory).is p.memory p.memory_spelt in
    let offset = (least_u64 a.offset).is p.offset p.offset_spelt in
    elim (either_way (eqb a.memory 0)) [
      | inl e ↦
          let one = small_length a.alignment p.small in
          let some = some_length (a.alignment + 64) p.flags p.flags_spelt in
          let more = some_length a.memory p.memory p.memory_spelt in
          let shorter : length (short_number a.alignment) < length (p.flags ++ p.memory) = omega (arith, length-append p.flags p.memory) in
          rw (short_plain a e) (
            plain_access a (short_number a.alignment) (short_number a.offset) p.small (eqb-true a.memory 0 e) (unsigned_spelt 9 32 a.alignment (omega arith) (let small = p.small in omega arith)) offset.0,
            least_along _ ((p.flags ++ p.memory) ++ p.offset) text (append_assoc p.flags p.memory p.offset ∙ sym p.parts) (least_append _ _ _ _ (inr shorter) offset.1),
          )
      | inr e ↦
          rw (short_indexed a e) (
            indexed_access a (short_number (a.alignment + 64)) (short_number a.memory) (short_number a.offset) p.small flags.0 memory.0 offset.0,
            least_along _ (p.flags ++ (p.memory ++ p.offset)) text (sym p.parts) (least_append _ _ _ _ flags.1 (least_append _ _ _ _ memory.1 offset.1)),
          )
    ]

access_is : (a : Access) (text : List ℕ) → IsAccess a text → IsAccess a (short_access a) × IsLeast (short_access a) text
access_is a text h =
    let made : access_of h.0.0.0 h.0.1.0 h.0.1.1 ≡ a = let e = h.1 in cc in
    let both : IsAccess (access_of h.0.0.0 h.0.1.0 h.0.1.1) (short_access (access_of h.0.0.0 h.0.1.0 h.0.1.1)) × IsLeast (short_access (access_of h.0.0.0 h.0.1.0 h.0.1.1)) text =
    elim (access_forms h.0.0 h.0.1.0 h.0.1.1 text h.2) [
      | inl p ↦ plainly (access_of h.0.0.0 h.0.1.0 h.0.1.1) text p
      | inr p ↦ with_index (access_of h.0.0.0 h.0.1.0 h.0.1.1) text p
    ]
    in
    subst (λ (b : Access). IsAccess b (short_access b) × IsLeast (short_access b) text) made both

least_access : (a : Access) → Least (IsAccess a) (short_access a)
least_access a = record { is = access_is a }

-- ---- lists after their length

counted_is : {A : Type 0} (One : A → List ℕ → Type 0) (n : ℕ) (vs : List A) (text : List ℕ) → Many One n vs text → Many One (length vs) vs text
counted_is One n vs text h = subst (λ (k : ℕ). Many One k vs text) (many_length One n vs text h) h

table_is : (t : Table) (text : List ℕ) → IsTable t text → Then IsU32 (λ count. Then (Many IsU32 count) (λ targets. IsU32)) (length t.0, t) text
table_is t text h =
    let made : h.0.1 ≡ t = let e = h.1 in cc in
    let rest = h.2.4 in
    let count : h.0.0 ≡ length t.0 = many_length IsU32 h.0.0 h.0.1.0 rest.0 rest.3 ∙ ap (λ (u : Table). length u.0) made in
    subst (λ (k : ℕ). Then IsU32 (λ count. Then (Many IsU32 count) (λ targets. IsU32)) (k, t) text) count
    (subst (λ (u : Table). Then IsU32 (λ count. Then (Many IsU32 count) (λ targets. IsU32)) (h.0.0, u) text) made h.2)

least_table : (targets : List ℕ) (default : ℕ) → Least (IsTable (targets, default)) (short_table targets default)
unfolding short_table
least_table targets default =
    let parts = least_then IsU32 (λ count. Then (Many IsU32 count) (λ targets. IsU32)) (length targets) (targets, default) _ _ (least_u32 (length targets))
    (least_then (Many IsU32 (length targets)) (λ targets. IsU32) targets default _ _ (least_many IsU32 short_number least_u32 targets) (least_u32 default)) in
    least_moved _ _ _ (sym (append_assoc (short_number (length targets)) (flat_map short_number targets) (short_number default)))
    (least_made _ made_table (targets, default) (length targets, (targets, default)) _ (λ text h. (refl, table_is (targets, default) text h)) parts)

-- ---- two bits of a byte below 4

module _ {V : Type 0} (make : ℕ → Result V ReadFault) (number_of : V → ℕ) (zero_is one_is two_is three_is : V) (fault : ReadFault)
    (made : (b : ℕ) → make b ≡ cond (eqb b 0) (Ok zero_is) (cond (eqb b 1) (Ok one_is) (cond (eqb b 2) (Ok two_is) (cond (eqb b 3) (Ok three_is) (Err fault)))))
    (zero_number : number_of zero_is ≡ 0) (one_number : number_of one_is ≡ 1) (two_number : number_of two_is ≡ 2) (three_number : number_of three_is ≡ 3) where
  at : (k b : ℕ) (w v : V) → number_of w ≡ k → eqb b k ≡ true → w ≡ v → b ≡ number_of v
  at k b w v known e same = eqb-true b k e ∙ sym known ∙ ap number_of same

  number_is : (b : ℕ) (v : V) → make b ≡ Ok v → b ≡ number_of v
  number_is b v e =
      let two : Result V ReadFault = cond (eqb b 2) (Ok two_is) (cond (eqb b 3) (Ok three_is) (Err fault)) in
      elim (taken_or (eqb b 0) zero_is (cond (eqb b 1) (Ok one_is) two) v (sym (made b) ∙ e)) [
        | inl p ↦ at 0 b zero_is v zero_number p.0 p.1
        | inr p ↦ elim (taken_or (eqb b 1) one_is two v p.1) [
          | inl q ↦ at 1 b one_is v one_number q.0 q.1
          | inr q ↦ elim (taken_or (eqb b 2) two_is (cond (eqb b 3) (Ok three_is) (Err fault)) v q.1) [
            | inl r ↦ at 2 b two_is v two_number r.0 r.1
            | inr r ↦ elim (taken_or (eqb b 3) three_is (Err fault) v r.1) [
              | inl t ↦ at 3 b three_is v three_number t.0 t.1
              | inr t ↦ absurd (let h = t.1 in cc)
            ]
          ]
        ]
      ]

  pub least_bits : (v : V) → Least (Made IsByte make v) (number_of v ∷ [])
  least_bits v = least_only (Made IsByte make v) (number_of v ∷ []) (λ text h. h.2.1 ∙ ap (λ (b : ℕ). b ∷ []) (number_is h.0 v h.1))

-- ---- clauses

catch_byte : Bool × Bool → ℕ
catch_byte (true, false) = 0
catch_byte (true, true) = 1
catch_byte (false, false) = 2
catch_byte (false, true) = 3

tag_text : Bool → Option ℕ → List ℕ
tag_text true (Some n) = short_number n
tag_text true None = []
tag_text false tag = []

least_tag : (tagged : Bool) (tag : Option ℕ) → Least (IsTag tagged tag) (tag_text tagged tag)
unfolding tag_text
least_tag true (Some n) = least_made IsU32 some_tag (Some n) n (short_number n) (λ text h. (refl, subst (λ (k : ℕ). IsU32 k text) (let e = h.1 in cc) h.2)) (least_u32 n)
least_tag true None = record { is = λ text h. absurd (let e = h.1 in cc) }
least_tag false tag = least_only (IsTag false tag) [] (λ text h. h.1)

IsTaggedClause : Bool → CatchClause ℕ → List ℕ → Type 0
IsTaggedClause tagged c text = Then (Made IsByte catch_kind) (λ kind. Then (IsTag kind.0) (λ tag. IsU32)) ((tagged, c.by_reference), (c.tag, c.label)) text

least_tagged : (tagged : Bool) (c : CatchClause ℕ) → Least (IsTaggedClause tagged c) (catch_byte (tagged, c.by_reference) ∷ (tag_text tagged c.tag ++ short_number c.label))
unfolding IsTaggedClause catch_byte
least_tagged tagged c =
    least_then (Made IsByte catch_kind) (λ kind. Then (IsTag kind.0) (λ tag. IsU32)) (tagged, c.by_reference) (c.tag, c.label) (catch_byte (tagged, c.by_reference) ∷ []) _
    (least_bits catch_kind catch_byte (true, false) (true, true) (false, false) (false, true) BadCatchKind (λ b. refl) refl refl refl refl (tagged, c.by_reference))
    (least_then (IsTag tagged) (λ tag. IsU32) c.tag c.label _ _ (least_tag tagged c.tag) (least_u32 c.label))

clause_parts : (c : CatchClause ℕ) (text : List ℕ) → IsClause c text → (tagged : Bool) × IsTaggedClause tagged c text
unfolding IsTaggedClause
clause_parts c text h =
    let made : record { by_reference = h.0.0.1; tag = h.0.1.0; label = h.0.1.1 } ≡ c = let e = h.1 in cc in
    (h.0.0.0, subst (λ (d : CatchClause ℕ). IsTaggedClause h.0.0.0 d text) made h.2)

-- whether a clause has a tag
is_tagged : Option ℕ → Bool
is_tagged (Some n) = true
is_tagged None = false

tagged_is : (tagged : Bool) (tag : Option ℕ) (text : List ℕ) → IsTag tagged tag text → tagged ≡ is_tagged tag
unfolding is_tagged
tagged_is true (Some n) text h = refl
tagged_is true None text h = absurd (let e = h.1 in cc)
tagged_is false tag text h = ap is_tagged (sym h.0)

short_clause_is : (c : CatchClause ℕ) → catch_byte (is_tagged c.tag, c.by_reference) ∷ (tag_text (is_tagged c.tag) c.tag ++ short_number c.label) ≡ short_clause c
unfolding is_tagged catch_byte tag_text
short_clause_is c = short_of c.by_reference c.tag c.label
  where
    short_of : (by : Bool) (tag : Option ℕ) (l : ℕ) → catch_byte (is_tagged tag, by) ∷ (tag_text (is_tagged tag) tag ++ short_number l) ≡ short_tag by tag ++ short_number l
    short_of false (Some n) l = refl
    short_of true (Some n) l = refl
    short_of false None l = refl
    short_of true None l = refl

clause_is : (c : CatchClause ℕ) (text : List ℕ) → IsClause c text → IsClause c (short_clause c) × IsLeast (short_clause c) text
unfolding IsTaggedClause
clause_is c text h =
    let p = clause_parts c text h in
    let tagged = tagged_is p.0 c.tag p.1.4.0 p.1.4.3 in
    let spelt : IsTaggedClause (is_tagged c.tag) c text = subst (λ (t : Bool). IsTaggedClause t c text) tagged p.1 in
    let both = (least_moved (IsTaggedClause (is_tagged c.tag) c) _ (short_clause c) (short_clause_is c) (least_tagged (is_tagged c.tag) c)).is text spelt in
    ((((is_tagged c.tag, c.by_reference), (c.tag, c.label)), refl, both.0), both.1)

least_clause : (c : CatchClause ℕ) → Least (IsClause c) (short_clause c)
least_clause c = record { is = clause_is c }

clauses_are : (cs : List (CatchClause ℕ)) (text : List ℕ) → AreClauses cs text → Then IsU32 (λ count. Many IsClause count) (length cs, cs) text
clauses_are cs text h =
    let made : h.0.1 ≡ cs = let e = h.1 in cc in
    let count : h.0.0 ≡ length cs = many_length IsClause h.0.0 h.0.1 h.2.1 h.2.4 ∙ ap (λ (ds : List (CatchClause ℕ)). length ds) made in
    subst (λ (k : ℕ). Then IsU32 (λ count. Many IsClause count) (k, cs) text) count
    (subst (λ (ds : List (CatchClause ℕ)). Then IsU32 (λ count. Many IsClause count) (h.0.0, ds) text) made h.2)

least_clauses : (cs : List (CatchClause ℕ)) → Least (AreClauses cs) (short_clauses cs)
unfolding short_clauses
least_clauses cs =
    least_made _ made_clauses cs (length cs, cs) _ (λ text h. (refl, clauses_are cs text h))
    (least_then IsU32 (λ count. Many IsClause count) (length cs) cs _ _ (least_u32 (length cs)) (least_many IsClause short_clause least_clause cs))

-- ---- casts

cast_byte : Bool × Bool → ℕ
cast_byte flags = short_flags flags.0 flags.1

cast_is : (c : Cast ℕ) (text : List ℕ) → IsCast c text
    → Then (Made IsByte cast_flags) (λ flags. Then IsU32 (λ label. Then IsHeapType (λ source. IsHeapType))) ((c.from_nullable, c.to_nullable), (c.label, (c.source, c.target))) text
cast_is c text h =
    let made : record { from_nullable = h.0.0.0; to_nullable = h.0.0.1; label = h.0.1.0; source = h.0.1.1.0; target = h.0.1.1.1 } ≡ c = let e = h.1 in cc in
    subst (λ (d : Cast ℕ). Then (Made IsByte cast_flags) (λ flags. Then IsU32 (λ label. Then IsHeapType (λ source. IsHeapType))) ((d.from_nullable, d.to_nullable), (d.label, (d.source, d.target))) text) made h.2

least_cast : (c : Cast ℕ) → Least (IsCast c) (short_cast c)
unfolding short_cast cast_byte
least_cast c =
    let flags = least_bits cast_flags cast_byte (false, false) (true, false) (false, true) (true, true) BadCastFlags (λ b. refl) refl refl refl refl (c.from_nullable, c.to_nullable) in
    let parts =
    least_then (Made IsByte cast_flags) (λ flags. Then IsU32 (λ label. Then IsHeapType (λ source. IsHeapType))) (c.from_nullable, c.to_nullable) (c.label, (c.source, c.target)) _ _ flags
    (least_then IsU32 (λ label. Then IsHeapType (λ source. IsHeapType)) c.label (c.source, c.target) _ _ (least_u32 c.label)
    (least_then IsHeapType (λ source. IsHeapType) c.source c.target _ _ (least_heap c.source) (least_heap c.target))) in
    least_moved _ _ _ (ap (λ (t : List ℕ). short_flags c.from_nullable c.to_nullable ∷ t) (sym (append_assoc (short_number c.label) (short_heap c.source) (short_heap c.target))))
    (least_made _ made_cast c ((c.from_nullable, c.to_nullable), (c.label, (c.source, c.target))) _ (λ text h. (refl, cast_is c text h)) parts)

-- ---- the type of a `select`

one_is : (n count : ℕ) → one_type n ≡ Ok count → (n ≡ 1) × (count ≡ 1)
one_is n count e =
    elim (taken_or (eqb n 1) n (Err BadSelect) count e) [
      | inl p ↦ let is = eqb-true n 1 p.0 in (is, sym p.1 ∙ is)
      | inr p ↦ absurd (let h = p.1 in cc)
    ]

least_one : Least (Made IsU32 one_type 1) (1 ∷ [])
unfolding short_unsigned
least_one = least_made IsU32 one_type 1 1 (short_number 1) (λ text h. (refl, subst (λ (k : ℕ). IsU32 k text) (one_is h.0 1 h.1).0 h.2)) (least_u32 1)

selected_is : (t : ValType ℕ) (text : List ℕ) → IsSelected t text → Then (Made IsU32 one_type) (λ count. IsValueType) (1, t) text
selected_is t text h =
    let made : h.0.1 ≡ t = let e = h.1 in cc in
    let count : h.0.0 ≡ 1 = (one_is h.2.3.0 h.0.0 h.2.3.1).1 in
    subst (λ (k : ℕ). Then (Made IsU32 one_type) (λ count. IsValueType) (k, t) text) count
    (subst (λ (u : ValType ℕ). Then (Made IsU32 one_type) (λ count. IsValueType) (h.0.0, u) text) made h.2)

least_selected : (t : ValType ℕ) → Least (IsSelected t) (1 ∷ short_value t)
least_selected t =
    least_made _ made_selected t (1, t) _ (λ text h. (refl, selected_is t text h))
    (least_then (Made IsU32 one_type) (λ count. IsValueType) 1 t (1 ∷ []) _ least_one (least_value t))

-- ---- bytes and bits

bytes_are : (n : ℕ) (bs text : List ℕ) → Many IsByte n bs text → text ≡ bs
bytes_are zero [] text h = h
bytes_are zero (b ∷ bs) text h = absurd h
bytes_are (suc n) [] text h = absurd h
bytes_are (suc n) (b ∷ bs) text h = h.2 ∙ ap (λ (t : List ℕ). t ++ h.1) h.3.1 ∙ ap (λ (t : List ℕ). b ∷ t) (bytes_are n bs h.1 h.4)

bits_are : (n : ℕ) (bs text : List ℕ) → Many IsByte n bs text → short_bits n (joined bs) ≡ bs
bits_are zero [] text h = refl
bits_are zero (b ∷ bs) text h = absurd h
bits_are (suc n) [] text h = absurd h
bits_are (suc n) (b ∷ bs) text h =
    let below = h.3.0 in
    let low : (b + 256 * joined bs) % 256 ≡ b = omega arith in
    let high : (b + 256 * joined bs) / 256 ≡ joined bs = omega arith in
    rw (low, high) (ap (λ (t : List ℕ). b ∷ t) (bits_are n bs h.1 h.4))

least_bits_of : (n bits : ℕ) → Least (AreBits n bits) (short_bits n bits)
least_bits_of n bits = least_only (AreBits n bits) (short_bits n bits) (λ text h.
    let made : joined h.0 ≡ bits = let e = h.1 in cc in
    bytes_are n h.0 text h.2 ∙ sym (bits_are n h.0 text h.2) ∙ ap (short_bits n) made)

least_vector : (bits : ℕ) → Least (AreBits 16 bits) (short_vector bits)
unfolding short_vector
least_vector bits = least_bits_of 16 bits

-- ---- one immediate

pub least_immediate : (i : RawImmediate) → Least (SpellsImmediate i) (short_immediate i)
least_immediate (index space n) = least_u32 n
least_immediate (local n) = least_u32 n
least_immediate (label l) = least_u32 l
least_immediate (handler depth) = least_u32 depth
least_immediate (outer depth) = least_u32 depth
least_immediate (number n) = least_u32 n
least_immediate (access a) = least_access a
least_immediate (branch_table targets default) = least_table targets default
least_immediate (clauses cs) = least_clauses cs
least_immediate (block type) = least_block type
least_immediate (heap type) = least_heap type
least_immediate (value type) = least_selected type
least_immediate (cast c) = least_cast c
least_immediate (i32 z) = least_s32 z
least_immediate (i64 z) = least_s64 z
least_immediate (f32 bits) = least_bits_of 4 bits
least_immediate (f64 bits) = least_bits_of 8 bits
least_immediate (v128 bits) = least_vector bits
least_immediate (lane n) = least_only (SpellsImmediate (lane n)) (n ∷ []) (λ text h. h.1)
least_immediate (lanes ns) = least_only (SpellsImmediate (lanes ns)) ns (bytes_are 16 ns)
least_immediate zero_byte = least_only (SpellsImmediate zero_byte) (0 ∷ []) (λ text h. h)

-- ---- one after the other

immediates_are : (is : List RawImmediate) (text : List ℕ) → SpellsImmediates is text → SpellsImmediates is (short_immediates is) × IsLeast (short_immediates is) text
immediates_are [] text h = (refl, inl (sym h))
immediates_are (i ∷ is) text h =
    let p = (least_immediate i).is h.0 h.3 in
    let q = immediates_are is h.1 h.4 in
    ((short_immediate i, short_immediates is, refl, p.0, q.0), least_along (short_immediate i ++ short_immediates is) (h.0 ++ h.1) text (sym h.2) (least_append _ _ _ _ p.1 q.1))

pub least_immediates : (is : List RawImmediate) → Least (SpellsImmediates is) (short_immediates is)
least_immediates is = record { is = immediates_are is }
