-- The test for matching is the rules of matching.
use Rattle.std.proofs.Common.{◌≡◌, ℕ, zero, suc, List, [], ◌∷◌, length, Bool, true, false, Option, Some, None, refl, sym, ap, ◌∙◌, subst, arith, ◌⊎◌, inl, inr, eq-eqb}
use Rattle.std.specs.Prelude.{◌<◌, ◌≤◌, ◌||◌, ◌==◌, not, option_map, option_and_then, slice_get}
use Rattle.std.specs.List.{list_all, list_any, AllByRecursion}
use Rattle.std.proofs.lemmas.Bool.{eqb-true}
use Rattle.std.proofs.lemmas.Bool.Decides.{leb_tells}
use Rattle.wasm_types.specs.declared.val_type.AbstractHeapType.{AbstractHeapType}
use Rattle.wasm_types.specs.declared.val_type.AbstractHeapType.TheVariants as abstract
use Rattle.wasm_types.specs.declared.val_type.HeapType.{HeapType}
use Rattle.wasm_types.specs.declared.val_type.HeapType.TheVariants.{Abstract, Concrete}
use Rattle.wasm_types.specs.declared.val_type.ValType.TheVariants.{I32, I64, F32, F64, V128, Ref}
use Rattle.wasm_types.specs.TypeOrder.{rank_of}
use Rattle.wasm_operators.proofs.SameLists.{both}
use Rattle.wasm_typing.specs.Contexts.{CompositeType, Function, Struct, Array, OperandContext, composite_of}
use Rattle.wasm_typing.specs.Matching.{abstract_supertypes, matches_abstract, heap_kind_of, heap_kind_at, bottom_of, top_of, first_of, supertype_of, supertypes, matches_defined, holds_of, matches_heap, matches_null}
use Rattle.wasm_typing.specs.MatchingLaws.{HeapMatches, itself, through, eq_any, i31_eq, struct_eq, array_eq, none_below, nofunc_below, noextern_below, noexn_below, of_kind, same_type, declared, AreTypes, MatchingIsSound, MatchingIsComplete}
use Rattle.wasm_typing.proofs.MatchingLemmas.{abstract_itself, heap_itself}

-- ---- tests

either : (s t : Bool) → (s || t) ≡ true → (s ≡ true) ⊎ (t ≡ true)
either true t h = inl refl
either false t h = inr h

or_second : (s t : Bool) → t ≡ true → (s || t) ≡ true
or_second true t h = refl
or_second false t h = h

-- an implication between tests
abbrev implies : Bool → Bool → Bool
implies s t = not s || t

by_implies : (s t : Bool) → implies s t ≡ true → s ≡ true → t ≡ true
by_implies true t h e = h
by_implies false t h e = absurd cc

-- the value that an optional value has
record Held {X : Type 0} (test : X → Bool) (o : Option X) : Type 0 where
  value : X
  is : o ≡ Some value
  passes : test value ≡ true

held : {X : Type 0} (test : X → Bool) (o : Option X) → holds_of test o ≡ true → Held test o
held test None h = absurd cc
held test (Some x) h = record { value = x; is = refl; passes = h }

holds : {X : Type 0} (test : X → Bool) (o : Option X) (x : X) → o ≡ Some x → test x ≡ true → holds_of test o ≡ true
holds test o x e h = rw e h

-- ---- abstract heap types

pub same_rank : (a b : AbstractHeapType) → (rank_of a == rank_of b) ≡ true → a ≡ b
same_rank abstract.NoExn abstract.NoExn h = refl
same_rank abstract.NoFunc abstract.NoFunc h = refl
same_rank abstract.NoExtern abstract.NoExtern h = refl
same_rank abstract.None abstract.None h = refl
same_rank abstract.Func abstract.Func h = refl
same_rank abstract.Extern abstract.Extern h = refl
same_rank abstract.Any abstract.Any h = refl
same_rank abstract.Eq abstract.Eq h = refl
same_rank abstract.I31 abstract.I31 h = refl
same_rank abstract.Struct abstract.Struct h = refl
same_rank abstract.Array abstract.Array h = refl
same_rank abstract.Exn abstract.Exn h = refl
same_rank _ _ h = cc

-- all, in the order of their ranks
abbrev all : List AbstractHeapType
all =
    abstract.NoExn ∷ abstract.NoFunc ∷ abstract.NoExtern ∷ abstract.None ∷ abstract.Func ∷ abstract.Extern ∷ abstract.Any ∷ abstract.Eq ∷ abstract.I31
    ∷ abstract.Struct ∷ abstract.Array ∷ abstract.Exn ∷ []

in_place : (a : AbstractHeapType) → slice_get all (rank_of a) ≡ Some a
in_place abstract.NoExn = refl
in_place _ = refl

passes_at : {X : Type 0} (test : X → Bool) (xs : List X) (i : ℕ) (x : X) → list_all test xs ≡ true → slice_get xs i ≡ Some x → test x ≡ true
passes_at test [] i x h e = absurd cc
passes_at test (y ∷ ys) zero x h e =
    let b = both (test y) (list_all test ys) h in
    let same : y ≡ x = cc in
    subst (λ z. test z ≡ true) same b.0
passes_at test (y ∷ ys) (suc i) x h e = passes_at test ys i x (both (test y) (list_all test ys) h).1 e

-- a test that all pass, which can be computed
of_all : (test : AbstractHeapType → Bool) → list_all test all ≡ true → (a : AbstractHeapType) → test a ≡ true
of_all test h a = passes_at test all (rank_of a) a h (in_place a)

of_all_pairs : (test : AbstractHeapType → AbstractHeapType → Bool) → list_all (λ a. list_all (test a) all) all ≡ true → (a b : AbstractHeapType) → test a b ≡ true
of_all_pairs test h a b = of_all (test a) (of_all (λ i. list_all (test i) all) h a) b

through_test : (a b d : AbstractHeapType) → implies (matches_abstract a b) (implies (matches_abstract b d) (matches_abstract a d)) ≡ true
through_test a =
    of_all_pairs (λ b d. implies (matches_abstract a b) (implies (matches_abstract b d) (matches_abstract a d)))
    (of_all (λ i. list_all (λ b. list_all (λ d. implies (matches_abstract i b) (implies (matches_abstract b d) (matches_abstract i d))) all) all) refl a)

abstract_through : (a b d : AbstractHeapType) → matches_abstract a b ≡ true → matches_abstract b d ≡ true → matches_abstract a d ≡ true
abstract_through a b d h g =
    by_implies (matches_abstract b d) (matches_abstract a d) (by_implies (matches_abstract a b) (implies (matches_abstract b d) (matches_abstract a d)) (through_test a b d) h) g

-- a bottom matches each heap type of its hierarchy
bottom_matches : (k : AbstractHeapType) → matches_abstract (bottom_of k) k ≡ true
bottom_matches abstract.NoExn = refl
bottom_matches _ = refl

-- what matches the top of a hierarchy is matched by its bottom
below_top_test : (k j : AbstractHeapType) → implies (matches_abstract j (top_of k)) (matches_abstract (bottom_of k) (bottom_of j)) ≡ true
below_top_test = of_all_pairs (λ k j. implies (matches_abstract j (top_of k)) (matches_abstract (bottom_of k) (bottom_of j))) refl

abstract_below_test : (k j : AbstractHeapType) → implies (matches_abstract j (top_of k)) (matches_abstract (bottom_of k) j) ≡ true
abstract_below_test = of_all_pairs (λ k j. implies (matches_abstract j (top_of k)) (matches_abstract (bottom_of k) j)) refl

-- no kind matches a bottom
func_above_bottoms : (j : AbstractHeapType) → matches_abstract abstract.Func (bottom_of j) ≡ false
func_above_bottoms abstract.NoExn = refl
func_above_bottoms _ = refl

struct_above_bottoms : (j : AbstractHeapType) → matches_abstract abstract.Struct (bottom_of j) ≡ false
struct_above_bottoms abstract.NoExn = refl
struct_above_bottoms _ = refl

array_above_bottoms : (j : AbstractHeapType) → matches_abstract abstract.Array (bottom_of j) ≡ false
array_above_bottoms abstract.NoExn = refl
array_above_bottoms _ = refl

above_bottoms : (t : CompositeType) (j : AbstractHeapType) → matches_abstract (heap_kind_of t) (bottom_of j) ≡ false
above_bottoms (Function s) j = func_above_bottoms j
above_bottoms (Struct fs) j = struct_above_bottoms j
above_bottoms (Array f) j = array_above_bottoms j

no_bottom : (o : Option CompositeType) (k j : AbstractHeapType) → option_map heap_kind_of o ≡ Some k → matches_abstract k (bottom_of j) ≡ true → ⊥
no_bottom None k j e h = absurd cc
no_bottom (Some t) k j e h =
    let same : heap_kind_of t ≡ k = cc in
    let no = above_bottoms t j in
    let yes : matches_abstract (heap_kind_of t) (bottom_of j) ≡ true = rw same h in
    absurd cc

-- ---- declared supertypes

-- a type of the module reaches another by supertypes
data Reaches (c : OperandContext) : ℕ → ℕ → Type 0 where
  here : (m n : ℕ) → first_of c m ≡ first_of c n → Reaches c m n
  up : (m s n : ℕ) → supertype_of c m ≡ Some s → Reaches c s n → Reaches c m n

abbrev is_same : OperandContext → ℕ → ℕ → Bool
is_same c n id = first_of c id == first_of c n

no_supertypes : (c : OperandContext) (k : ℕ) → supertypes c k None ≡ []
no_supertypes c zero = refl
no_supertypes c (suc k) = refl

on_supertype : (c : OperandContext) (m n k : ℕ) (o : Option ℕ) → supertype_of c m ≡ o
    → ((s : ℕ) → list_any (is_same c n) (supertypes c k (Some s)) ≡ true → Reaches c s n) → list_any (is_same c n) (supertypes c k o) ≡ true → Reaches c m n
on_supertype c m n k None e f h =
    let no : list_any (is_same c n) (supertypes c k None) ≡ false = ap (list_any (is_same c n)) (no_supertypes c k) in absurd cc
on_supertype c m n k (Some s) e f h = up m s n e (f s h)

reaches : (c : OperandContext) (n k m : ℕ) → list_any (is_same c n) (supertypes c k (Some m)) ≡ true → Reaches c m n
reaches c n zero m h = absurd cc
reaches c n (suc k) m h = elim (either (is_same c n m) (list_any (is_same c n) (supertypes c k (supertype_of c m))) h) [
  | inl e ↦ here m n (eqb-true (first_of c m) (first_of c n) e)
  | inr g ↦ on_supertype c m n k (supertype_of c m) refl (reaches c n k) g
]

first_passes : (c : OperandContext) (m n k : ℕ) → first_of c m ≡ first_of c n → list_any (is_same c n) (supertypes c (suc k) (Some m)) ≡ true
first_passes c m n k e = rw (eq-eqb (first_of c m) (first_of c n) e) refl

-- each supertype is declared before: so the steps are enough
passes : (c : OperandContext) → AreTypes c → (m n : ℕ) → Reaches c m n → (k : ℕ) → m < k → list_any (is_same c n) (supertypes c k (Some m)) ≡ true
passes c w m n r zero l = let no : ⊥ = omega (arith, l) in absurd no
passes c w m n (here _ _ e) (suc k) l = first_passes c m n k e
passes c w m n (up _ s _ e r) (suc k) l =
    let b = w.before m s e in
    let rest = passes c w s n r k (omega (arith, b, l)) in
    or_second (is_same c n m) (list_any (is_same c n) (supertypes c k (supertype_of c m))) (rw e rest)

-- only a type of the module has a supertype
pub past_end : {X : Type 0} (xs : List X) (i : ℕ) → length xs ≤ i → slice_get xs i ≡ None
past_end [] i l = refl
past_end (x ∷ xs) zero l = let no : ⊥ = omega (arith, l) in absurd no
past_end (x ∷ xs) (suc i) l = past_end xs i (omega (arith, l))

-- what isn't one has no supertype
pub no_supertype : (c : OperandContext) (m : ℕ) → length c.types ≤ m → supertype_of c m ≡ None
no_supertype c m l = ap (option_and_then (λ t. t.supertype)) (past_end c.types m l)

defined_passes : (c : OperandContext) → AreTypes c → (m n : ℕ) → Reaches c m n → matches_defined c m n ≡ true
defined_passes c w m n (here _ _ e) = first_passes c m n (length c.types) e
defined_passes c w m n (up _ s _ e r) = elim (leb_tells (length c.types) m) [
  | inl l ↦ let no = no_supertype c m l.1 in absurd cc
  | inr l ↦ passes c w m n (up m s n e r) (suc (length c.types)) (omega (arith, l.1))
]

reached : (c : OperandContext) (m n : ℕ) → matches_defined c m n ≡ true → Reaches c m n
reached c m n h = reaches c n (suc (length c.types)) m h

on_same_supertype : (c : OperandContext) (m s p : ℕ) (o : Option ℕ) → supertype_of c m ≡ o → option_map (first_of c) o ≡ Some (first_of c s)
    → ((t : ℕ) → first_of c t ≡ first_of c s → Reaches c t p) → Reaches c m p
on_same_supertype c m s p None e h f = absurd cc
on_same_supertype c m s p (Some t) e h f = let same : first_of c t ≡ first_of c s = cc in up m t p e (f t same)

alike : (c : OperandContext) → AreTypes c → (m n p : ℕ) → first_of c m ≡ first_of c n → Reaches c n p → Reaches c m p
alike c w m n p e (here _ _ h) = here m p (e ∙ h)
alike c w m n p e (up _ s _ h r) =
    on_same_supertype c m s p (supertype_of c m) refl (w.same_supertype m n e ∙ ap (option_map (first_of c)) h) (λ t same. alike c w t s p same r)

reaches_through : (c : OperandContext) → AreTypes c → (m n p : ℕ) → Reaches c m n → Reaches c n p → Reaches c m p
reaches_through c w m n p (here _ _ e) q = alike c w m n p e q
reaches_through c w m n p (up _ s _ e r) q = up m s p e (reaches_through c w s n p r q)

-- they are of one kind
reaches_kind : (c : OperandContext) → AreTypes c → (m n : ℕ) → Reaches c m n → heap_kind_at c m ≡ heap_kind_at c n
reaches_kind c w m n (here _ _ e) = w.same_kind m n e
reaches_kind c w m n (up _ s _ e r) = w.of_one_kind m s e ∙ reaches_kind c w s n r

-- ---- heap types: the test accepts what matches by the rules

abbrev below : AbstractHeapType → AbstractHeapType → Bool
below a k = matches_abstract a (bottom_of k)

abbrev kind_matches : AbstractHeapType → AbstractHeapType → Bool
kind_matches d k = matches_abstract k d

heap_through : (c : OperandContext) → AreTypes c → (a b d : HeapType ℕ) → matches_heap c a b ≡ true → matches_heap c b d ≡ true → matches_heap c a d ≡ true
heap_through c w (Abstract a) (Abstract b) (Abstract d) h g = abstract_through a b d h g
heap_through c w (Abstract a) (Abstract b) (Concrete n) h g =
    let k = held (below b) (heap_kind_at c n) g in holds (below a) (heap_kind_at c n) k.value k.is (abstract_through a b (bottom_of k.value) h k.passes)
heap_through c w (Abstract a) (Concrete n) (Abstract d) h g =
    let k = held (below a) (heap_kind_at c n) h in
    let j = held (kind_matches d) (heap_kind_at c n) g in
    let i = k.is in
    let l = j.is in
    let same : k.value ≡ j.value = cc in
    let to : matches_abstract k.value d ≡ true = rw same j.passes in
    abstract_through a (bottom_of k.value) d k.passes (abstract_through (bottom_of k.value) k.value d (bottom_matches k.value) to)
heap_through c w (Abstract a) (Concrete m) (Concrete n) h g =
    subst (λ o. holds_of (below a) o ≡ true) (reaches_kind c w m n (reached c m n g)) h
heap_through c w (Concrete m) (Abstract b) (Abstract d) h g =
    let k = held (kind_matches b) (heap_kind_at c m) h in holds (kind_matches d) (heap_kind_at c m) k.value k.is (abstract_through k.value b d k.passes g)
heap_through c w (Concrete m) (Abstract b) (Concrete n) h g =
    let k = held (kind_matches b) (heap_kind_at c m) h in
    let j = held (below b) (heap_kind_at c n) g in
    absurd (no_bottom (composite_of c m) k.value j.value k.is (abstract_through k.value b (bottom_of j.value) k.passes j.passes))
heap_through c w (Concrete m) (Concrete n) (Abstract d) h g =
    subst (λ o. holds_of (kind_matches d) o ≡ true) (sym (reaches_kind c w m n (reached c m n h))) g
heap_through c w (Concrete m) (Concrete n) (Concrete p) h g = defined_passes c w m p (reaches_through c w m n p (reached c m n h) (reached c n p g))

below_top : (c : OperandContext) (k : AbstractHeapType) (a : HeapType ℕ) → matches_heap c a (Abstract (top_of k)) ≡ true
    → matches_heap c (Abstract (bottom_of k)) a ≡ true
below_top c k (Abstract j) h = by_implies (matches_abstract j (top_of k)) (matches_abstract (bottom_of k) j) (abstract_below_test k j) h
below_top c k (Concrete n) h =
    let j = held (kind_matches (top_of k)) (heap_kind_at c n) h in
    holds (below (bottom_of k)) (heap_kind_at c n) j.value j.is
    (by_implies (matches_abstract j.value (top_of k)) (matches_abstract (bottom_of k) (bottom_of j.value)) (below_top_test k j.value) j.passes)

heap_complete : (c : OperandContext) → AreTypes c → (a b : HeapType ℕ) → HeapMatches c a b → matches_heap c a b ≡ true
heap_complete c w _ _ (itself a) = heap_itself c a
heap_complete c w _ _ (through a b d h g) = heap_through c w a b d (heap_complete c w a b h) (heap_complete c w b d g)
heap_complete c w _ _ eq_any = refl
heap_complete c w _ _ i31_eq = refl
heap_complete c w _ _ struct_eq = refl
heap_complete c w _ _ array_eq = refl
heap_complete c w _ _ (none_below a h) = below_top c abstract.Any a (heap_complete c w a (Abstract abstract.Any) h)
heap_complete c w _ _ (nofunc_below a h) = below_top c abstract.Func a (heap_complete c w a (Abstract abstract.Func) h)
heap_complete c w _ _ (noextern_below a h) = below_top c abstract.Extern a (heap_complete c w a (Abstract abstract.Extern) h)
heap_complete c w _ _ (noexn_below a h) = below_top c abstract.Exn a (heap_complete c w a (Abstract abstract.Exn) h)
heap_complete c w _ _ (of_kind m k e) = holds (kind_matches k) (heap_kind_at c m) k e (abstract_itself k)
heap_complete c w _ _ (same_type m n e) = defined_passes c w m n (here m n e)
heap_complete c w _ _ (declared m s e) = defined_passes c w m s (up m s s e (here s s refl))

-- ---- heap types: what the test accepts matches by the rules

abbrev Matches : OperandContext → AbstractHeapType → AbstractHeapType → Type 0
Matches c a b = HeapMatches c (Abstract a) (Abstract b)

itself_abstract : (c : OperandContext) (a : AbstractHeapType) → Matches c a a
itself_abstract c a = itself (Abstract a)

eq_step : (c : OperandContext) (a : AbstractHeapType) → Matches c a abstract.Eq → Matches c a abstract.Any
eq_step c a h = through (Abstract a) (Abstract abstract.Eq) (Abstract abstract.Any) h eq_any

none_step : (c : OperandContext) (a : AbstractHeapType) → Matches c a abstract.Any → Matches c abstract.None a
none_step c a h = none_below (Abstract a) h

each_above : (c : OperandContext) (a : AbstractHeapType) → AllByRecursion (Matches c a) (abstract_supertypes a)
each_above c abstract.Any = (itself_abstract c abstract.Any, tt)
each_above c abstract.Eq = (itself_abstract c abstract.Eq, (eq_any, tt))
each_above c abstract.I31 = (itself_abstract c abstract.I31, (i31_eq, (eq_step c abstract.I31 i31_eq, tt)))
each_above c abstract.Struct = (itself_abstract c abstract.Struct, (struct_eq, (eq_step c abstract.Struct struct_eq, tt)))
each_above c abstract.Array = (itself_abstract c abstract.Array, (array_eq, (eq_step c abstract.Array array_eq, tt)))
each_above c abstract.None = (
  itself_abstract c abstract.None,
  (
    none_step c abstract.I31 (eq_step c abstract.I31 i31_eq),
    (
      none_step c abstract.Struct (eq_step c abstract.Struct struct_eq),
      (
        none_step c abstract.Array (eq_step c abstract.Array array_eq),
        (none_step c abstract.Eq eq_any, (none_step c abstract.Any (itself_abstract c abstract.Any), tt)),
      ),
    ),
  ),
)
each_above c abstract.Func = (itself_abstract c abstract.Func, tt)
each_above c abstract.NoFunc = (itself_abstract c abstract.NoFunc, (nofunc_below (Abstract abstract.Func) (itself_abstract c abstract.Func), tt))
each_above c abstract.Extern = (itself_abstract c abstract.Extern, tt)
each_above c abstract.NoExtern = (itself_abstract c abstract.NoExtern, (noextern_below (Abstract abstract.Extern) (itself_abstract c abstract.Extern), tt))
each_above c abstract.Exn = (itself_abstract c abstract.Exn, tt)
each_above c abstract.NoExn = (itself_abstract c abstract.NoExn, (noexn_below (Abstract abstract.Exn) (itself_abstract c abstract.Exn), tt))

found : (c : OperandContext) (a b : AbstractHeapType) (us : List AbstractHeapType) → AllByRecursion (Matches c a) us
    → list_any (λ u. rank_of u == rank_of b) us ≡ true → Matches c a b
found c a b [] all h = absurd cc
found c a b (u ∷ us) all h = elim (either (rank_of u == rank_of b) (list_any (λ v. rank_of v == rank_of b) us) h) [
  | inl e ↦ subst (Matches c a) (same_rank u b e) all.0
  | inr g ↦ found c a b us all.1 g
]

abstract_sound : (c : OperandContext) (a b : AbstractHeapType) → matches_abstract a b ≡ true → Matches c a b
abstract_sound c a b h = found c a b (abstract_supertypes a) (each_above c a) h

top_test : (k : AbstractHeapType) → matches_abstract k (top_of k) ≡ true
top_test abstract.NoExn = refl
top_test _ = refl

bottom_below : (c : OperandContext) (k : AbstractHeapType) (a : HeapType ℕ) → HeapMatches c a (Abstract (top_of k)) → HeapMatches c (Abstract (bottom_of k)) a
bottom_below c abstract.Func a h = nofunc_below a h
bottom_below c abstract.NoFunc a h = nofunc_below a h
bottom_below c abstract.Extern a h = noextern_below a h
bottom_below c abstract.NoExtern a h = noextern_below a h
bottom_below c abstract.Exn a h = noexn_below a h
bottom_below c abstract.NoExn a h = noexn_below a h
bottom_below c _ a h = none_below a h

reach_sound : (c : OperandContext) (m n : ℕ) → Reaches c m n → HeapMatches c (Concrete m) (Concrete n)
reach_sound c m n (here _ _ e) = same_type m n e
reach_sound c m n (up _ s _ e r) = through (Concrete m) (Concrete s) (Concrete n) (declared m s e) (reach_sound c s n r)

heap_sound : (c : OperandContext) (a b : HeapType ℕ) → matches_heap c a b ≡ true → HeapMatches c a b
heap_sound c (Abstract a) (Abstract b) h = abstract_sound c a b h
heap_sound c (Concrete m) (Abstract b) h =
    let k = held (kind_matches b) (heap_kind_at c m) h in
    through (Concrete m) (Abstract k.value) (Abstract b) (of_kind m k.value k.is) (abstract_sound c k.value b k.passes)
heap_sound c (Abstract a) (Concrete n) h =
    let k = held (below a) (heap_kind_at c n) h in
    let top = through (Concrete n) (Abstract k.value) (Abstract (top_of k.value)) (of_kind n k.value k.is) (abstract_sound c k.value (top_of k.value) (top_test k.value)) in
    through (Abstract a) (Abstract (bottom_of k.value)) (Concrete n) (abstract_sound c a (bottom_of k.value) k.passes) (bottom_below c k.value (Concrete n) top)
heap_sound c (Concrete m) (Concrete n) h = reach_sound c m n (reached c m n h)

-- ---- value types

null_sound : (a b : Bool) → matches_null a b ≡ true → a ≡ true → b ≡ true
null_sound true b h e = h
null_sound false b h e = absurd cc

null_complete : (a b : Bool) → (a ≡ true → b ≡ true) → matches_null a b ≡ true
null_complete true b f = f refl
null_complete false b f = refl

pub matching_is_sound : MatchingIsSound
matching_is_sound c (Ref a) (Ref b) h =
    let p = both (matches_null a.nullable b.nullable) (matches_heap c a.heap_type b.heap_type) h in
    (null_sound a.nullable b.nullable p.0, heap_sound c a.heap_type b.heap_type p.1)
matching_is_sound c I32 I32 h = refl
matching_is_sound c I64 I64 h = refl
matching_is_sound c F32 F32 h = refl
matching_is_sound c F64 F64 h = refl
matching_is_sound c V128 V128 h = refl
matching_is_sound c _ _ h = absurd cc

pub matching_is_complete : MatchingIsComplete
matching_is_complete c w (Ref a) (Ref b) h = rw (null_complete a.nullable b.nullable h.0, heap_complete c w a.heap_type b.heap_type h.1) refl
matching_is_complete c w I32 I32 h = refl
matching_is_complete c w I64 I64 h = refl
matching_is_complete c w F32 F32 h = refl
matching_is_complete c w F64 F64 h = refl
matching_is_complete c w V128 V128 h = refl
matching_is_complete c w _ _ h = absurd cc
