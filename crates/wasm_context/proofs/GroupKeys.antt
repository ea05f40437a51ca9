-- Keys of groups tell which groups are equal.
use Rattle.std.proofs.Common.{◌≡◌, ℕ, zero, suc, ◌+◌, ◌-◌, ◌<◌, List, [], ◌∷◌, ◌++◌, length, Bool, true, false, ◌&&◌, refl, sym, ap, subst, ◌∙◌, arith, append_assoc, eq-eqb, Decides}
use Rattle.std.specs.Prelude.{◌||◌, ◌==◌, nat_eq, nat_le, nat_lt, if◌then◌else◌, Option, Some, None, get_or, unwrap_or, slice_get}
use Rattle.std.specs.List.{list_all}
use Rattle.std.specs.Cmp.Lexicographic.{pointwise}
use Rattle.std.proofs.lemmas.Slice.Eq.{bytes_eq-Decides}
use Rattle.std.proofs.lemmas.Bool.{and_from, and_parts, eqb-true, leb-true, leb-false}
use Rattle.std.proofs.lemmas.Bool.Decides.{same_from_decides}
use Rattle.std.proofs.lemmas.Option.{slice_get_past, slice_get-get_or}
use Rattle.wasm_types.specs.declared.val_type.HeapType.{HeapType}
use Rattle.wasm_types.specs.declared.val_type.HeapType.TheVariants.{Abstract, Concrete}
use Rattle.wasm_types.specs.declared.val_type.ValType.{ValType}
use Rattle.wasm_types.specs.declared.val_type.ValType.TheVariants.{I32, I64, F32, F64, V128, Ref}
use Rattle.walrus_ir.specs.Types.{same_bool}
use Rattle.wasm_types.specs.TypeOrder.{rank_of, nullable_rank}
use Rattle.wasm_typing.specs.Contexts.{StorageType, I8, I16, Unpacked, FieldType, CompositeType, Function, Struct, Array}
use Rattle.wasm_typing.specs.RecursiveTypes.{DeclaredType, Group, same_group}
use Rattle.wasm_context.specs.ValidTypes.{heap_within, value_within, storage_within, field_within, composite_within}
use Rattle.wasm_context.specs.Declarations.{supertype_within, declared_within, known_key, id_key, heap_key, value_key, storage_key, field_key, each_key, composite_key, supertype_key, declared_key, group_key}
use Rattle.wasm_context.proofs.SameGroups.{is_inside, same_id, same_heap_type, same_value, same_storage, same_field, same_each, same_composite, same_supertype, same_declared}

-- ---- parts of keys

-- Two parts of keys, each before other numbers: they are the same only if the test passes, with the same after them; if it passes they are.
abbrev Part : (j k : List ℕ) → (test : Bool) → Type 0
Part j k test = ((r s : List ℕ) → j ++ r ≡ k ++ s → (test ≡ true) × (r ≡ s)) × (test ≡ true → j ≡ k)

part_after : (n : ℕ) (j k : List ℕ) (t : Bool) → Part j k t → Part (n ∷ j) (n ∷ k) t
part_after n j k t p = (λ r s e. p.0 r s cc, λ h. ap (λ l. n ∷ l) (p.1 h))

part_then : (i j k l : List ℕ) (t u : Bool) → Part i j t → Part k l u → Part (i ++ k) (j ++ l) (t && u)
part_then i j k l t u p q = (
  λ r s e.
      let one = p.0 (k ++ r) (l ++ s) (sym (append_assoc i k r) ∙ e ∙ append_assoc j l s) in
      let two = q.0 r s one.1 in
      (and_from t u one.0 two.0, two.1),
  λ h. let both = and_parts t u h in λ x. p.1 both.0 x ++ q.1 both.1 x,
)

part_number : (m n : ℕ) → Part (m ∷ []) (n ∷ []) (m == n)
part_number m n = (λ r s e. let h : m ≡ n = cc in (eq-eqb m n h, cc), λ t. ap (λ i. i ∷ []) (eqb-true m n t))

part_bool : (p q : Bool) → Part (nullable_rank p ∷ []) (nullable_rank q ∷ []) (same_bool p q)
part_bool true true = (λ r s e. (refl, cc), λ h. refl)
part_bool false false = (λ r s e. (refl, cc), λ h. refl)
part_bool true false = (λ r s e. absurd cc, λ h. absurd cc)
part_bool false true = (λ r s e. absurd cc, λ h. absurd cc)

-- lists, item by item
part_each : {X : Type 0} (f g : X → List ℕ) (p q : X → Bool) (same : X → X → Bool)
    → ((x y : X) → p x ≡ true → q y ≡ true → Part (f x) (g y) (same x y))
    → (xs ys : List X) → list_all p xs ≡ true → list_all q ys ≡ true → Part (each_key f xs) (each_key g ys) (same_each same xs ys)
part_each f g p q same one [] [] hp hq = (λ r s e. (refl, cc), λ t. refl)
part_each f g p q same one [] (y ∷ ys) hp hq = (λ r s e. absurd cc, λ t. absurd cc)
part_each f g p q same one (x ∷ xs) [] hp hq = (λ r s e. absurd cc, λ t. absurd cc)
part_each f g p q same one (x ∷ xs) (y ∷ ys) hp hq =
    let h = and_parts (p x) (list_all p xs) hp in
    let k = and_parts (q y) (list_all q ys) hq in
    part_after 1 (f x ++ each_key f xs) (g y ++ each_key g ys) (same x y && same_each same xs ys)
    (part_then (f x) (g y) (each_key f xs) (each_key g ys) (same x y) (same_each same xs ys)
    (one x y h.0 k.0) (part_each f g p q same one xs ys h.1 k.1))

same_length : {X : Type 0} (same : X → X → Bool) (xs ys : List X) → same_each same xs ys ≡ true → length xs ≡ length ys
same_length same [] [] h = refl
same_length same [] (y ∷ ys) h = absurd cc
same_length same (x ∷ xs) [] h = absurd cc
same_length same (x ∷ xs) (y ∷ ys) h = ap suc (same_length same xs ys (and_parts (same x y) (same_each same xs ys) h).1)

-- ---- ids

-- the key of an id, which is inside its group or has this first id
abbrev number : (inside : Bool) → (position first : ℕ) → List ℕ
number true position first = 0 ∷ position ∷ []
number false position first = 1 ∷ first ∷ []

part_choice : (p q : Bool) (u v f g : ℕ) → Part (number p u f) (number q v g) (if p || q then p && q && u == v else f == g)
part_choice true true u v f g = part_after 0 (u ∷ []) (v ∷ []) (u == v) (part_number u v)
part_choice true false u v f g = (λ r s e. absurd cc, λ t. absurd cc)
part_choice false true u v f g = (λ r s e. absurd cc, λ t. absurd cc)
part_choice false false u v f g = part_after 1 (f ∷ []) (g ∷ []) (f == g) (part_number f g)

-- where all first ids are known
number_is : (fs gs : List ℕ) (x : ℕ) → (x < length fs → slice_get gs x ≡ slice_get fs x)
    → id_key fs x ≡ number (nat_le (length fs) x) (x - length fs) (unwrap_or (slice_get gs x) x)
number_is fs gs x known = by (nat_le (length fs) x) refl
  where
    by : (p : Bool) → nat_le (length fs) x ≡ p → id_key fs x ≡ number p (x - length fs) (unwrap_or (slice_get gs x) x)
    by true e = ap (known_key (x - length fs)) (slice_get_past fs x (leb-true (length fs) x e))
    by false e =
        let less : x < length fs = leb-false (length fs) x e in
        let here : slice_get fs x ≡ Some (get_or fs x 0) = slice_get-get_or fs x 0 less in
        ap (known_key (x - length fs)) here ∙ ap (λ n. 1 ∷ n ∷ []) (sym (ap (λ o. unwrap_or o x) (known less ∙ here)))

and_true : (b c : Bool) → c ≡ true → b ≡ (b && c)
and_true true c h = sym h
and_true false c h = refl

not_two : (position : ℕ) (o : Option ℕ) (r s : List ℕ) → 2 ∷ r ≡ known_key position o ++ s → ⊥
not_two position None r s e = cc
not_two position (Some first) r s e = cc

not_two_back : (position : ℕ) (o : Option ℕ) (r s : List ℕ) → known_key position o ++ r ≡ 2 ∷ s → ⊥
not_two_back position o r s e = not_two position o s r (sym e)

get-front : (xs ys : List ℕ) (i : ℕ) → i < length xs → slice_get (xs ++ ys) i ≡ slice_get xs i
get-front [] ys i h = absurd (omega arith)
get-front (x ∷ xs) ys zero h = refl
get-front (x ∷ xs) ys (suc i) h = get-front xs ys i (omega arith)

-- ---- two groups of n types, where the first one is followed by others

module _ (before between : List ℕ) (n : ℕ) where
  abbrev known : List ℕ
  known = before ++ between

  abbrev a : ℕ
  a = length before

  abbrev b : ℕ
  b = length known

  part_id : (x y : ℕ) → nat_lt x (a + n) ≡ true → nat_lt y (b + n) ≡ true → Part (id_key before x) (id_key known y) (same_id known a b n x y)
  part_id x y hx hy =
      let p = nat_le a x in
      let q = nat_le b y in
      let f = unwrap_or (slice_get known x) x in
      let g = unwrap_or (slice_get known y) y in
      let left = number_is before known x (get-front before between x) in
      let right = number_is known known y (λ h. refl) in
      let pin : p ≡ is_inside known a b n a x = and_true p (nat_lt x (a + n)) hx in
      let qin : q ≡ is_inside known a b n b y = and_true q (nat_lt y (b + n)) hy in
      let here : Part (number p (x - a) f) (number q (y - b) g) (if p || q then p && q && (x - a) == (y - b) else f == g) = part_choice p q (x - a) (y - b) f g in
      subst (λ (j : List ℕ). Part j (id_key known y) (same_id known a b n x y)) (sym left)
      (subst (λ (k : List ℕ). Part (number p (x - a) f) k (same_id known a b n x y)) (sym right)
      (subst (λ (t : Bool). Part (number p (x - a) f) (number q (y - b) g) t)
      (λ i. if pin i || qin i then pin i && qin i && (x - a) == (y - b) else f == g) here))

  part_heap : (s t : HeapType ℕ) → heap_within (a + n) s ≡ true → heap_within (b + n) t ≡ true → Part (heap_key before s) (heap_key known t) (same_heap_type known a b n s t)
  part_heap (Abstract s) (Abstract t) hs ht = part_after 2 (rank_of s ∷ []) (rank_of t ∷ []) (rank_of s == rank_of t) (part_number (rank_of s) (rank_of t))
  part_heap (Concrete x) (Concrete y) hx hy = part_id x y hx hy
  part_heap (Abstract s) (Concrete y) hs hy =
      (λ r s' e. absurd (not_two (y - b) (slice_get known y) (rank_of s ∷ r) s' e), λ h. absurd cc)
  part_heap (Concrete x) (Abstract t) hx ht =
      (λ r s' e. absurd (not_two_back (x - a) (slice_get before x) r (rank_of t ∷ s') e), λ h. absurd cc)

  part_value : (s t : ValType ℕ) → value_within (a + n) s ≡ true → value_within (b + n) t ≡ true → Part (value_key before s) (value_key known t) (same_value known a b n s t)
  part_value I32 I32 hs ht = (λ r s' e. (refl, cc), λ h. refl)
  part_value I64 I64 hs ht = (λ r s' e. (refl, cc), λ h. refl)
  part_value F32 F32 hs ht = (λ r s' e. (refl, cc), λ h. refl)
  part_value F64 F64 hs ht = (λ r s' e. (refl, cc), λ h. refl)
  part_value V128 V128 hs ht = (λ r s' e. (refl, cc), λ h. refl)
  part_value (Ref s) (Ref t) hs ht =
      part_after 5 (nullable_rank s.nullable ∷ heap_key before s.heap_type) (nullable_rank t.nullable ∷ heap_key known t.heap_type)
      (same_bool s.nullable t.nullable && same_heap_type known a b n s.heap_type t.heap_type)
      (part_then (nullable_rank s.nullable ∷ []) (nullable_rank t.nullable ∷ []) (heap_key before s.heap_type) (heap_key known t.heap_type)
      (same_bool s.nullable t.nullable) (same_heap_type known a b n s.heap_type t.heap_type)
      (part_bool s.nullable t.nullable) (part_heap s.heap_type t.heap_type hs ht))
  part_value _ _ hs ht = (λ r s' e. absurd cc, λ h. absurd cc)

  part_storage : (s t : StorageType) → storage_within (a + n) s ≡ true → storage_within (b + n) t ≡ true → Part (storage_key before s) (storage_key known t) (same_storage known a b n s t)
  part_storage I8 I8 hs ht = (λ r s' e. (refl, cc), λ h. refl)
  part_storage I16 I16 hs ht = (λ r s' e. (refl, cc), λ h. refl)
  part_storage (Unpacked s) (Unpacked t) hs ht = part_after 2 (value_key before s) (value_key known t) (same_value known a b n s t) (part_value s t hs ht)
  part_storage _ _ hs ht = (λ r s' e. absurd cc, λ h. absurd cc)

  part_field : (f g : FieldType) → field_within (a + n) f ≡ true → field_within (b + n) g ≡ true → Part (field_key before f) (field_key known g) (same_field known a b n f g)
  part_field f g hf hg =
      part_then (nullable_rank f.mutable ∷ []) (nullable_rank g.mutable ∷ []) (storage_key before f.storage) (storage_key known g.storage)
      (same_bool f.mutable g.mutable) (same_storage known a b n f.storage g.storage)
      (part_bool f.mutable g.mutable) (part_storage f.storage g.storage hf hg)

  part_composite : (s t : CompositeType) → composite_within (a + n) s ≡ true → composite_within (b + n) t ≡ true
      → Part (composite_key before s) (composite_key known t) (same_composite known a b n s t)
  part_composite (Function s) (Function t) hs ht =
      let h = and_parts (list_all (value_within (a + n)) s.parameters) (list_all (value_within (a + n)) s.results) hs in
      let k = and_parts (list_all (value_within (b + n)) t.parameters) (list_all (value_within (b + n)) t.results) ht in
      let params = part_each (value_key before) (value_key known) (value_within (a + n)) (value_within (b + n)) (same_value known a b n) part_value s.parameters t.parameters h.0 k.0 in
      let results = part_each (value_key before) (value_key known) (value_within (a + n)) (value_within (b + n)) (same_value known a b n) part_value s.results t.results h.1 k.1 in
      part_after 0 (each_key (value_key before) s.parameters ++ each_key (value_key before) s.results) (each_key (value_key known) t.parameters ++ each_key (value_key known) t.results)
      (same_each (same_value known a b n) s.parameters t.parameters && same_each (same_value known a b n) s.results t.results)
      (part_then (each_key (value_key before) s.parameters) (each_key (value_key known) t.parameters) (each_key (value_key before) s.results) (each_key (value_key known) t.results)
      (same_each (same_value known a b n) s.parameters t.parameters) (same_each (same_value known a b n) s.results t.results) params results)
  part_composite (Struct fs) (Struct gs) hs ht =
      part_after 1 (each_key (field_key before) fs) (each_key (field_key known) gs) (same_each (same_field known a b n) fs gs)
      (part_each (field_key before) (field_key known) (field_within (a + n)) (field_within (b + n)) (same_field known a b n) part_field fs gs hs ht)
  part_composite (Array f) (Array g) hs ht = part_after 2 (field_key before f) (field_key known g) (same_field known a b n f g) (part_field f g hs ht)
  part_composite _ _ hs ht = (λ r s' e. absurd cc, λ h. absurd cc)

  part_supertype : (s t : Option ℕ) → supertype_within (a + n) s ≡ true → supertype_within (b + n) t ≡ true
      → Part (supertype_key before s) (supertype_key known t) (same_supertype known a b n s t)
  part_supertype None None hs ht = (λ r s' e. (refl, cc), λ h. refl)
  part_supertype (Some x) (Some y) hx hy = part_id x y hx hy
  part_supertype None (Some y) hs hy = (λ r s' e. absurd (not_two (y - b) (slice_get known y) r s' e), λ h. absurd cc)
  part_supertype (Some x) None hx ht = (λ r s' e. absurd (not_two_back (x - a) (slice_get before x) r s' e), λ h. absurd cc)

  part_declared : (s t : DeclaredType) → declared_within (a + n) s ≡ true → declared_within (b + n) t ≡ true
      → Part (declared_key before s) (declared_key known t) (same_declared known a b n s t)
  part_declared s t hs ht =
      let h = and_parts (supertype_within (a + n) s.supertype) (composite_within (a + n) s.composite) hs in
      let k = and_parts (supertype_within (b + n) t.supertype) (composite_within (b + n) t.composite) ht in
      part_then (nullable_rank s.final ∷ supertype_key before s.supertype) (nullable_rank t.final ∷ supertype_key known t.supertype)
      (composite_key before s.composite) (composite_key known t.composite)
      (same_bool s.final t.final && same_supertype known a b n s.supertype t.supertype) (same_composite known a b n s.composite t.composite)
      (part_then (nullable_rank s.final ∷ []) (nullable_rank t.final ∷ []) (supertype_key before s.supertype) (supertype_key known t.supertype)
      (same_bool s.final t.final) (same_supertype known a b n s.supertype t.supertype)
      (part_bool s.final t.final) (part_supertype s.supertype t.supertype h.0 k.0))
      (part_composite s.composite t.composite h.1 k.1)

-- ---- groups

-- A group is equal to an earlier one if and only if their keys are.
pub same_keys : (before between : List ℕ) (p g : Group) → list_all (declared_within (length before + length p)) p ≡ true
    → list_all (declared_within (length (before ++ between) + length g)) g ≡ true
    → same_group (before ++ between) (length before) (length (before ++ between)) (length g) p g ≡ pointwise nat_eq (group_key (before ++ between) g) (group_key before p)
same_keys before between p g closed_p closed_g =
    same_from_decides _ _ decides (bytes_eq-Decides (group_key (before ++ between) g) (group_key before p))
  where
    known : List ℕ
    known = before ++ between

    test : Bool
    test = same_group known (length before) (length known) (length g) p g

    parts : length p ≡ length g → Part (each_key (declared_key before) p) (each_key (declared_key known) g) test
    parts long =
        part_each (declared_key before) (declared_key known) (declared_within (length before + length g)) (declared_within (length known + length g))
        (same_declared known (length before) (length known) (length g)) (part_declared before between (length g)) p g
        (ap (λ n. list_all (declared_within (length before + n)) p) (sym long) ∙ closed_p) closed_g

    decides : Decides test (group_key known g ≡ group_key before p)
    decides = (
      λ h.
          let long : length p ≡ length g = same_length (same_declared known (length before) (length known) (length g)) p g h in
          λ i. sym long i ∷ sym ((parts long).1 h) i,
      λ e.
          let long : length p ≡ length g = cc in
          let same : each_key (declared_key before) p ≡ each_key (declared_key known) g = cc in
          ((parts long).0 [] [] (ap (λ l. l ++ []) same)).0,
    )
