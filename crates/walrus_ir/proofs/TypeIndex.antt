-- The index of a module's types, as types are added.
use Rattle.std.proofs.Common.{◌≡◌, ℕ, zero, suc, ◌+◌, List, [], ◌∷◌, ◌++◌, length, length-append, Bool, true, false, ◌&&◌, cond, Option, Some, None, is_some, refl, sym, ap, subst, ◌∙◌, arith, inl, inr}
use Rattle.std.specs.Prelude.{◌<◌, position, slice_get, option_and_then}
use Rattle.std.specs.List.{position_from}
use Rattle.std.specs.Option.{option_or}
use Rattle.std.specs.Ordering.{is_eq, match_ordering, nat_cmp, MatchOrdering}
use Rattle.std.specs.declared.cmp.Ordering.{Ordering}
use Rattle.std.specs.declared.cmp.Ordering.TheVariants.{Less, Equal, Greater}
use Rattle.std.specs.declared.vec.Vec.{Vec}
use Rattle.std.specs.Cmp.Lexicographic.{slice_cmp}
use Rattle.std.specs.Map.{lookup, set_value}
use Rattle.std.specs.BTreeMap.{insert_entry, is_at}
use Rattle.std.proofs.lemmas.Iterator.Adapters.{position_from-zero}
use Rattle.std.proofs.lemmas.Bool.Decides.{Decides-and}
use Rattle.std.proofs.lemmas.Cmp.{ranked}
use Rattle.wasm_types.specs.declared.val_type.ValType.{ValType}
use Rattle.walrus_ir.specs.Types.{ModuleType, Func, Entry, Other, same_types, is_function, is_entry, find, find_entry}
use Rattle.wasm_types.specs.TypeOrder.{type_order}
use Rattle.walrus_ir.specs.TypeDigest.{func_digest, entry_digest}
use Rattle.walrus_ir.specs.TypeIndex.{ByList, at_list, at_lists, by_list, ByDigest, at_digest, passes, first_or, TakesDigest, TakesList, TakesLists, AddsFunc, AddsEntry, IsIndexOf}
use Rattle.walrus_ir.proofs.SameTypes.{same_types-Decides}
use Rattle.walrus_ir.proofs.TypeKeys.{tie-same_types}

abbrev Types : Type 0
Types = List (ValType ℕ)

-- ---- equal lists

same_flipped : (ts us : Types) → same_types ts us ≡ same_types us ts
same_flipped ts us = by (same_types ts us) (same_types us ts) refl refl
  where
    by : (a b : Bool) → same_types ts us ≡ a → same_types us ts ≡ b → same_types ts us ≡ same_types us ts
    by true b e f = e ∙ sym ((same_types-Decides us ts).1 (sym ((same_types-Decides ts us).0 e)))
    by false true e f = (same_types-Decides ts us).1 (sym ((same_types-Decides us ts).0 f)) ∙ sym f
    by false false e f = e ∙ sym f

-- equal lists have equal values
at_same : {X : Type 0} (m : ByList X) (list other : Types) → same_types list other ≡ true → at_list m other ≡ at_list m list
at_same m list other same = ap (at_list m) (sym ((same_types-Decides list other).0 same))

-- ---- choices

or_none : {A : Type 0} (o : Option A) → option_or o None ≡ o
or_none None = refl
or_none (Some x) = refl

twice : {A : Type 0} (b : Bool) (x y o : A) → cond b x (cond b y o) ≡ cond b x o
twice true x y o = refl
twice false x y o = refl

turned : {A : Type 0} (b d : Bool) (x y o : A) → (b ≡ true → d ≡ false) → cond d y (cond b x o) ≡ cond b x (cond d y o)
turned true d x y o h = ap (λ e. cond e y x) (h refl)
turned false d x y o h = refl

pub none_there : {A : Type 0} (o : Option A) → is_some o ≡ false → o ≡ None
none_there None h = refl
none_there (Some x) h = absurd cc

-- a value that is there stays
kept : {A : Type 0} (b : Bool) (o : Option A) (x : A) → (b ≡ true → is_some o ≡ true) → o ≡ option_or o (cond b (Some x) None)
kept true None x h = let no = h refl in cc
kept true (Some y) x h = refl
kept false None x h = refl
kept false (Some y) x h = refl

-- a value that is added if there is none
put : {A : Type 0} (b : Bool) (o : Option A) (x : A) → (b ≡ true → is_some o ≡ false) → cond b (Some x) o ≡ option_or o (cond b (Some x) None)
put true None x h = refl
put true (Some y) x h = let no = h refl in cc
put false None x h = refl
put false (Some y) x h = refl

-- ---- one list

-- a list that is there is not added again
pub at_list-kept : {X : Type 0} (m : ByList X) (list : Types) (x : X) → is_some (at_list m list) ≡ true
    → (other : Types) → at_list m other ≡ option_or (at_list m other) (cond (same_types list other) (Some x) None)
at_list-kept m list x there other = kept (same_types list other) (at_list m other) x (λ same. ap is_some (at_same m list other same) ∙ there)

-- a list that isn't there is added
pub at_list-added : {X : Type 0} (m n : ByList X) (list : Types) (x : X) → is_some (at_list m list) ≡ false
    → ((other : Types) → at_list n other ≡ cond (same_types list other) (Some x) (at_list m other))
    → (other : Types) → at_list n other ≡ option_or (at_list m other) (cond (same_types list other) (Some x) None)
at_list-added m n list x missing more other = more other ∙ put (same_types list other) (at_list m other) x (λ same. ap is_some (at_same m list other same) ∙ missing)

module _ {X Z : Type 0} where
  -- the first entry gets the value if its key is the list; otherwise one of the entries after it does
  first_entry : (list other : Types) (e : Vec (ValType ℕ) Z × X) (es rest : List (Vec (ValType ℕ) Z × X)) (w : X) (b : Bool) → same_types list e.0.items ≡ b
      → (b ≡ false → at_list (by_list rest) other ≡ cond (same_types list other) (Some w) (at_list (by_list es) other))
      → at_list (by_list (cond b ((e.0, w) ∷ es) (e ∷ rest))) other ≡ cond (same_types list other) (Some w) (at_list (by_list (e ∷ es)) other)
  first_entry list other e es rest w true here after =
      let same : same_types list other ≡ same_types other e.0.items = same_flipped list other ∙ ap (same_types other) ((same_types-Decides list e.0.items).0 here) in
      sym (ap (λ s. cond s (Some w) (at_list (by_list (e ∷ es)) other)) same ∙ twice (same_types other e.0.items) (Some w) (Some e.1) (at_list (by_list es) other))
  first_entry list other e es rest w false here after =
      ap (λ o. cond (same_types other e.0.items) (Some e.1) o) (after refl)
      ∙ turned (same_types list other) (same_types other e.0.items) (Some w) (Some e.1) (at_list (by_list es) other)
      (λ same. ap (λ ts. same_types ts e.0.items) (sym ((same_types-Decides list other).0 same)) ∙ here)

  module _ (C : ValType ℕ → ValType ℕ → Ordering) (law : (t u : ValType ℕ) → C t u ≡ type_order t u) where
    -- a lookup in the map by the order finds the value of the list
    pub lookup-at_list : (list : Types) (es : List (Vec (ValType ℕ) Z × X)) → lookup (is_at (λ k. slice_cmp C list k.items)) es ≡ at_list (by_list es) list
    lookup-at_list list [] = refl
    lookup-at_list list (e ∷ es) = λ i. cond (tie-same_types C law list e.0.items i) (Some e.1) (lookup-at_list list es i)

    -- a new value for a list that has one
    pub at_list-set_value : (list : Types) (es : List (Vec (ValType ℕ) Z × X)) (old w : X) → at_list (by_list es) list ≡ Some old
        → (other : Types) → at_list (by_list (set_value (is_at (λ k. slice_cmp C list k.items)) es w)) other ≡ cond (same_types list other) (Some w) (at_list (by_list es) other)
    at_list-set_value list [] old w has other = cc
    at_list-set_value list (e ∷ es) old w has other =
        let rest = set_value (is_at (λ k. slice_cmp C list k.items)) es w in
        ap (λ b. at_list (by_list (cond b ((e.0, w) ∷ es) (e ∷ rest))) other) (tie-same_types C law list e.0.items)
        ∙ first_entry list other e es rest w (same_types list e.0.items) refl
        (λ no. at_list-set_value list es old w (sym (ap (λ b. cond b (Some e.1) (at_list (by_list es) list)) no) ∙ has) other)

    insert_first : (r : Ordering) (k : Vec (ValType ℕ) Z) (v : X) (e : Vec (ValType ℕ) Z × X) (es rest : List (Vec (ValType ℕ) Z × X)) (other : Types)
        → is_eq r ≡ same_types k.items e.0.items → at_list (by_list rest) other ≡ cond (same_types k.items other) (Some v) (at_list (by_list es) other)
        → at_list (by_list (match_ordering r ((k, v) ∷ e ∷ es) ((e.0, v) ∷ es) (e ∷ rest))) other ≡ cond (same_types k.items other) (Some v) (at_list (by_list (e ∷ es)) other)
    insert_first Less k v e es rest other tie after = ap (λ s. cond s (Some v) (at_list (by_list (e ∷ es)) other)) (same_flipped other k.items)
    insert_first Equal k v e es rest other tie after = first_entry k.items other e es rest v true (sym tie) (λ no. cc)
    insert_first Greater k v e es rest other tie after = first_entry k.items other e es rest v false (sym tie) (λ no. after)

    -- an entry that is inserted
    pub at_list-insert : (k : Vec (ValType ℕ) Z) (v : X) (es : List (Vec (ValType ℕ) Z × X)) (other : Types)
        → at_list (by_list (insert_entry (λ x y. slice_cmp C x.items y.items) es k v)) other ≡ cond (same_types k.items other) (Some v) (at_list (by_list es) other)
    at_list-insert k v [] other = ap (λ b. cond b (Some v) None) (same_flipped other k.items)
    at_list-insert k v (e ∷ es) other =
        insert_first (slice_cmp C k.items e.0.items) k v e es (insert_entry (λ x y. slice_cmp C x.items y.items) es k v) other (tie-same_types C law k.items e.0.items) (at_list-insert k v es other)

-- ---- two lists

-- one more second list for a first list
more_results : (b t : Bool) (o : Option (ByList ℕ)) (old new : ByList ℕ) (gives : Types) (id : ℕ) → (b ≡ true → o ≡ Some old)
    → at_list new gives ≡ option_or (at_list old gives) (cond t (Some id) None)
    → option_and_then (λ m. at_list m gives) (cond b (Some new) o) ≡ option_or (option_and_then (λ m. at_list m gives) o) (cond (b && t) (Some id) None)
more_results true t o old new gives id there more = more ∙ ap (λ p. option_or (option_and_then (λ m. at_list m gives) p) (cond t (Some id) None)) (sym (there refl))
more_results false t o old new gives id there more = sym (or_none (option_and_then (λ m. at_list m gives) o))

pub at_lists-more : (m n : ByList (ByList ℕ)) (params results : Types) (old new : ByList ℕ) (id : ℕ) → at_list m params ≡ Some old
    → ((other : Types) → at_list n other ≡ cond (same_types params other) (Some new) (at_list m other))
    → ((other : Types) → at_list new other ≡ option_or (at_list old other) (cond (same_types results other) (Some id) None))
    → (takes gives : Types) → at_lists n takes gives ≡ option_or (at_lists m takes gives) (cond (same_types params takes && same_types results gives) (Some id) None)
at_lists-more m n params results old new id there put more takes gives =
    ap (option_and_then (λ m. at_list m gives)) (put takes)
    ∙ more_results (same_types params takes) (same_types results gives) (at_list m takes) old new gives id (λ same. at_same m params takes same ∙ there) (more gives)

-- a new first list, with its first second list
new_results : (b : Bool) (o : Option (ByList ℕ)) (new : ByList ℕ) (gives : Types) → option_and_then (λ m. at_list m gives) (cond b (Some new) o) ≡ cond b (at_list new gives) (option_and_then (λ m. at_list m gives) o)
new_results true o new gives = refl
new_results false o new gives = refl

pub at_lists-first : (m n : ByList (ByList ℕ)) (params results : Types) (new : ByList ℕ) (id : ℕ)
    → ((other : Types) → at_list n other ≡ cond (same_types params other) (Some new) (at_list m other))
    → ((other : Types) → at_list new other ≡ cond (same_types results other) (Some id) None)
    → (takes gives : Types) → at_lists n takes gives ≡ cond (same_types params takes) (cond (same_types results gives) (Some id) None) (at_lists m takes gives)
at_lists-first m n params results new id put one takes gives =
    ap (option_and_then (λ m. at_list m gives)) (put takes)
    ∙ (new_results (same_types params takes) (at_list m takes) new gives ∙ ap (λ o. cond (same_types params takes) o (at_lists m takes gives)) (one gives))

new_or : (b t : Bool) (o : Option ℕ) (id : ℕ) → (b ≡ true → o ≡ None) → cond b (cond t (Some id) None) o ≡ option_or o (cond (b && t) (Some id) None)
new_or true t o id none = ap (λ p. option_or p (cond t (Some id) None)) (sym (none refl))
new_or false t o id none = sym (or_none o)

pub at_lists-new : (m n : ByList (ByList ℕ)) (params results : Types) (id : ℕ) → at_list m params ≡ None
    → ((takes gives : Types) → at_lists n takes gives ≡ cond (same_types params takes) (cond (same_types results gives) (Some id) None) (at_lists m takes gives))
    → (takes gives : Types) → at_lists n takes gives ≡ option_or (at_lists m takes gives) (cond (same_types params takes && same_types results gives) (Some id) None)
at_lists-new m n params results id missing put takes gives =
    put takes gives
    ∙ new_or (same_types params takes) (same_types results gives) (at_lists m takes gives) id (λ same. ap (option_and_then (λ m. at_list m gives)) (at_same m params takes same ∙ missing))

-- ---- the types

position_from-push : {X : Type 0} (p : X → Bool) (i : ℕ) (xs : List X) (x : X) → position_from p i (xs ++ x ∷ []) ≡ option_or (position_from p i xs) (cond (p x) (Some (i + length xs)) None)
position_from-push p i [] x = let e : i ≡ i + 0 = omega arith in ap (λ n. cond (p x) (Some n) None) e
position_from-push p i (y ∷ ys) x =
    let e : i + 1 + length ys ≡ i + suc (length ys) = omega arith in
    elim (p y) as (λ b. cond b (Some i) (position_from p (i + 1) (ys ++ x ∷ [])) ≡ option_or (cond b (Some i) (position_from p (i + 1) ys)) (cond (p x) (Some (i + suc (length ys))) None)) [
      | true ↦ refl
      | false ↦ position_from-push p (i + 1) ys x ∙ ap (λ n. option_or (position_from p (i + 1) ys) (cond (p x) (Some n) None)) e
    ]

-- the first position that passes a test, after one more item is added at the end
pub position-push : {X : Type 0} (p : X → Bool) (xs : List X) (x : X) → position p (xs ++ x ∷ []) ≡ option_or (position p xs) (cond (p x) (Some (length xs)) None)
position-push p xs x =
    let e : 0 + length xs ≡ length xs = omega arith in
    position_from-zero p (xs ++ x ∷ [])
    ∙ (position_from-push p 0 xs x
    ∙ ((λ i. option_or (sym (position_from-zero p xs) i) (cond (p x) (Some (e i)) None))))

-- ---- digests

-- numbers that the order doesn't tell apart are the same
tied : (d q : ℕ) → is_eq (nat_cmp d q) ≡ true → d ≡ q
tied d q h = by (nat_cmp d q) (ranked d q (nat_cmp d q) refl) h
  where
    by : (o : Ordering) → MatchOrdering o (d < q) (d ≡ q) (q < d) → is_eq o ≡ true → d ≡ q
    by Less m e = absurd cc
    by Equal m e = m
    by Greater m e = absurd cc

ties_itself : (d : ℕ) → is_eq (nat_cmp d d) ≡ true
ties_itself d = by (nat_cmp d d) (ranked d d (nat_cmp d d) refl)
  where
    by : (o : Ordering) → MatchOrdering o (d < d) (d ≡ d) (d < d) → is_eq o ≡ true
    by Less m = absurd (omega arith)
    by Equal m = refl
    by Greater m = absurd (omega arith)

-- ---- one type more

get-front : {X : Type 0} (xs ys : List X) (i : ℕ) → i < length xs → slice_get (xs ++ ys) i ≡ slice_get xs i
get-front [] ys i h = absurd (omega arith)
get-front (x ∷ xs) ys zero h = refl
get-front (x ∷ xs) ys (suc i) h = get-front xs ys i (omega arith)

get-last : {X : Type 0} (xs : List X) (x : X) → slice_get (xs ++ x ∷ []) (length xs) ≡ Some x
get-last [] x = refl
get-last (y ∷ ys) x = get-last ys x

-- the first id of a digest, which passes or not, stays when the other choice gets one more
or_later : (test : ModuleType → Bool) (types : List ModuleType) (o f c : Option ℕ) → first_or test types o (option_or f c) ≡ option_or (first_or test types o f) c
or_later test types None f c = refl
or_later test types (Some id) f c =
    elim (passes test (slice_get types id)) as (λ b. cond b (Some id) (option_or f c) ≡ option_or (cond b (Some id) f) c) [
      | true ↦ refl
      | false ↦ refl
    ]

-- the first id of a digest is found if its type passes
pub found_first : (test : ModuleType → Bool) (types : List ModuleType) (o f r : Option ℕ) (id : ℕ) → o ≡ Some id → passes test (slice_get types id) ≡ true
    → first_or test types o f ≡ r → Some id ≡ r
found_first test types o f r id there here is = sym (ap (λ b. cond b (Some id) f) here) ∙ (ap (λ o. first_or test types o f) (sym there) ∙ is)

-- the new type is found if it is the first that passes
chosen : (c : Bool) (o f : Option ℕ) (n : ℕ) → f ≡ o → (c ≡ true → o ≡ None) → cond c (Some n) f ≡ option_or o (cond c (Some n) None)
chosen true o f n same none = ap (λ p. option_or p (Some n)) (sym (none refl))
chosen false o f n same none = same ∙ sym (or_none o)

module _ (types : List ModuleType) (t : ModuleType) where
  grown : (test : ModuleType → Bool) (o f : Option ℕ) → ((id : ℕ) → o ≡ Some id → id < length types) → first_or test (types ++ t ∷ []) o f ≡ first_or test types o f
  grown test None f within = refl
  grown test (Some id) f within = ap (λ g. cond (passes test g) (Some id) f) (get-front types (t ∷ []) id (within id refl))

  module _ (test : ModuleType → Bool) where
    -- nothing changes if the type is there, or doesn't pass
    stays : (o f : Option ℕ) → ((id : ℕ) → o ≡ Some id → id < length types) → (test t ≡ true → is_some (position test types) ≡ true)
        → first_or test types o f ≡ position test types → first_or test (types ++ t ∷ []) o f ≡ position test (types ++ t ∷ [])
    stays o f within there is =
        grown test o f within
        ∙ (is
        ∙ (kept (test t) (position test types) (length types) there
        ∙ sym (position-push test types t)))

    -- the other choice gets the type
    gets_list : (o f g : Option ℕ) → ((id : ℕ) → o ≡ Some id → id < length types) → g ≡ option_or f (cond (test t) (Some (length types)) None)
        → first_or test types o f ≡ position test types → first_or test (types ++ t ∷ []) o g ≡ position test (types ++ t ∷ [])
    gets_list o f g within more is =
        grown test o g within
        ∙ (ap (first_or test types o) more
        ∙ (or_later test types o f (cond (test t) (Some (length types)) None)
        ∙ (ap (λ p. option_or p (cond (test t) (Some (length types)) None)) is
        ∙ sym (position-push test types t))))

    -- a digest gets the type
    gets_digest : (firsts more : ByDigest) (d q : ℕ) (f : Option ℕ) → ((digest id : ℕ) → at_digest firsts digest ≡ Some id → id < length types)
        → TakesDigest d (length types) firsts more → (test t ≡ true → d ≡ q) → (test t ≡ true → position test types ≡ None)
        → first_or test types (at_digest firsts q) f ≡ position test types
        → first_or test (types ++ t ∷ []) (at_digest more q) f ≡ position test (types ++ t ∷ [])
    gets_digest firsts more d q f within takes same new is = by (is_eq (nat_cmp d q)) refl (test t) refl
      where
        n : ℕ
        n = length types

        now : (b : Bool) → is_eq (nat_cmp d q) ≡ b → at_digest more q ≡ cond b (Some n) (at_digest firsts q)
        now b e = takes.1 q ∙ ap (λ b. cond b (Some n) (at_digest firsts q)) e

        -- of the same digest
        here : is_eq (nat_cmp d q) ≡ true → first_or test (types ++ t ∷ []) (at_digest more q) f ≡ position test (types ++ t ∷ [])
        here e =
            let missing : at_digest firsts q ≡ None = ap (at_digest firsts) (sym (tied d q e)) ∙ takes.0 in
            let before : f ≡ position test types = sym (ap (λ o. first_or test types o f) missing) ∙ is in
            ap (λ o. first_or test (types ++ t ∷ []) o f) (now true e)
            ∙ (ap (λ g. cond (passes test g) (Some n) f) (get-last types t)
            ∙ (chosen (test t) (position test types) f n before new
            ∙ sym (position-push test types t)))

        -- of another one
        apart : is_eq (nat_cmp d q) ≡ false → test t ≡ false → first_or test (types ++ t ∷ []) (at_digest more q) f ≡ position test (types ++ t ∷ [])
        apart e fails =
            ap (λ o. first_or test (types ++ t ∷ []) o f) (now false e)
            ∙ stays (at_digest firsts q) f (within q) (λ yes. absurd (let both : true ≡ false = sym yes ∙ fails in cc)) is

        by : (b : Bool) → is_eq (nat_cmp d q) ≡ b → (c : Bool) → test t ≡ c → first_or test (types ++ t ∷ []) (at_digest more q) f ≡ position test (types ++ t ∷ [])
        by true e c h = here e
        by false e true h = absurd (let both : true ≡ false = sym (ties_itself d) ∙ (ap (λ m. is_eq (nat_cmp d m)) (same h) ∙ e) in cc)
        by false e false h = apart e h

-- the ids of digests are those of types
within_more : (types : List ModuleType) (t : ModuleType) (firsts more : ByDigest) (d : ℕ) → ((digest id : ℕ) → at_digest firsts digest ≡ Some id → id < length types)
    → TakesDigest d (length types) firsts more → (digest id : ℕ) → at_digest more digest ≡ Some id → id < length (types ++ t ∷ [])
within_more types t firsts more d within takes digest id is = by (is_eq (nat_cmp d digest)) refl
  where
    long : length (types ++ t ∷ []) ≡ length types + 1
    long = length-append types (t ∷ [])

    by : (b : Bool) → is_eq (nat_cmp d digest) ≡ b → id < length (types ++ t ∷ [])
    by true e =
        let new : Some (length types) ≡ Some id = sym (takes.1 digest ∙ ap (λ b. cond b (Some (length types)) (at_digest firsts digest)) e) ∙ is in
        let same : length types ≡ id = cc in
        let l = long in
        omega arith
    by false e =
        let old : at_digest firsts digest ≡ Some id = sym (takes.1 digest ∙ ap (λ b. cond b (Some (length types)) (at_digest firsts digest)) e) ∙ is in
        let less = within digest id old in
        let l = long in
        omega arith

within_longer : (types : List ModuleType) (t : ModuleType) (id : ℕ) → id < length types → id < length (types ++ t ∷ [])
within_longer types t id less = let long = length-append types (t ∷ []) in omega arith

-- equal lists
both_same : (ps rs takes gives : Types) → (same_types ps takes && same_types rs gives) ≡ true → (ps ≡ takes) × (rs ≡ gives)
both_same ps rs takes gives h = (Decides-and (same_types ps takes) (same_types rs gives) (same_types-Decides ps takes) (same_types-Decides rs gives)).0 h

-- the same index
index-same :
    (types : List ModuleType) (firsts seconds : ByDigest) (functions others : ByList (ByList ℕ)) (entries lists : ByList ℕ) → firsts ≡ seconds → functions ≡ others → entries ≡ lists
    → IsIndexOf types firsts functions entries → IsIndexOf types seconds others lists
index-same types firsts seconds functions others entries lists f l e is =
    subst (λ (fs : ByDigest). IsIndexOf types fs others lists) f
    (subst (λ (ls : ByList (ByList ℕ)). IsIndexOf types firsts ls lists) l (subst (λ (es : ByList ℕ). IsIndexOf types firsts functions es) e is))

module _ (types : List ModuleType) (firsts : ByDigest) (functions : ByList (ByList ℕ)) (entries : ByList ℕ) (is : IsIndexOf types firsts functions entries) where
  -- a function type, or another one, without a claim about entry types
  entries_stay : (t : ModuleType) → ((gives : Types) → is_entry gives t ≡ false) → (gives : Types)
      → first_or (is_entry gives) (types ++ t ∷ []) (at_digest firsts (entry_digest gives)) (at_list entries gives) ≡ find_entry (types ++ t ∷ []) gives
  entries_stay t fails gives =
      stays types t (is_entry gives) (at_digest firsts (entry_digest gives)) (at_list entries gives) (is.firsts_are_types (entry_digest gives))
      (λ yes. absurd (let both : true ≡ false = sym yes ∙ fails gives in cc)) (is.entries_are gives)

  functions_stay : (t : ModuleType) → ((takes gives : Types) → is_function takes gives t ≡ false) → (takes gives : Types)
      → first_or (is_function takes gives) (types ++ t ∷ []) (at_digest firsts (func_digest takes gives)) (at_lists functions takes gives) ≡ find (types ++ t ∷ []) takes gives
  functions_stay t fails takes gives =
      stays types t (is_function takes gives) (at_digest firsts (func_digest takes gives)) (at_lists functions takes gives) (is.firsts_are_types (func_digest takes gives))
      (λ yes. absurd (let both : true ≡ false = sym yes ∙ fails takes gives in cc)) (is.functions_are takes gives)

  pub index-other : IsIndexOf (types ++ Other ∷ []) firsts functions entries
  index-other = record {
    functions_are = functions_stay Other (λ takes gives. refl);
    entries_are = entries_stay Other (λ gives. refl);
    firsts_are_types = λ digest id there. within_longer types Other id (is.firsts_are_types digest id there);
  }

  module _ (params results : Types) where
    -- equal lists are found with the same result
    found_alike : (takes gives : Types) → is_function takes gives (Func params results) ≡ true → find types params results ≡ find types takes gives
    found_alike takes gives same = let both = both_same params results takes gives same in λ i. find types (both.0 i) (both.1 i)

    pub index-known_func : is_some (find types params results) ≡ true → IsIndexOf (types ++ Func params results ∷ []) firsts functions entries
    index-known_func there = record {
      functions_are = λ takes gives. stays types (Func params results) (is_function takes gives) (at_digest firsts (func_digest takes gives)) (at_lists functions takes gives)
          (is.firsts_are_types (func_digest takes gives)) (λ same. ap is_some (sym (found_alike takes gives same)) ∙ there) (is.functions_are takes gives);
      entries_are = entries_stay (Func params results) (λ gives. refl);
      firsts_are_types = λ digest id there. within_longer types (Func params results) id (is.firsts_are_types digest id there);
    }

    pub index-func_digest : (more : ByDigest) → find types params results ≡ None → TakesDigest (func_digest params results) (length types) firsts more
        → IsIndexOf (types ++ Func params results ∷ []) more functions entries
    index-func_digest more none takes_digest = record {
      functions_are = λ takes gives. gets_digest types (Func params results) (is_function takes gives) firsts more (func_digest params results) (func_digest takes gives) (at_lists functions takes gives)
          is.firsts_are_types takes_digest (λ same. let both = both_same params results takes gives same in λ i. func_digest (both.0 i) (both.1 i))
          (λ same. sym (found_alike takes gives same) ∙ none) (is.functions_are takes gives);
      entries_are = λ gives. gets_digest types (Func params results) (is_entry gives) firsts more (func_digest params results) (entry_digest gives) (at_list entries gives)
          is.firsts_are_types takes_digest (λ yes. absurd cc) (λ yes. absurd cc) (is.entries_are gives);
      firsts_are_types = within_more types (Func params results) firsts more (func_digest params results) is.firsts_are_types takes_digest;
    }

    pub index-func_lists : (more : ByList (ByList ℕ)) → TakesLists params results (length types) functions more → IsIndexOf (types ++ Func params results ∷ []) firsts more entries
    index-func_lists more put = record {
      functions_are = λ takes gives. gets_list types (Func params results) (is_function takes gives) (at_digest firsts (func_digest takes gives)) (at_lists functions takes gives) (at_lists more takes gives)
          (is.firsts_are_types (func_digest takes gives)) (put takes gives) (is.functions_are takes gives);
      entries_are = entries_stay (Func params results) (λ gives. refl);
      firsts_are_types = λ digest id there. within_longer types (Func params results) id (is.firsts_are_types digest id there);
    }

    pub index-adds_func : (id : ℕ) (seconds : ByDigest) (others : ByList (ByList ℕ)) (lists : ByList ℕ) → id ≡ length types → find types params results ≡ None
        → AddsFunc params results id firsts seconds functions others → lists ≡ entries → IsIndexOf (types ++ Func params results ∷ []) seconds others lists
    index-adds_func id seconds others lists number none (inl put) e =
        index-same (types ++ Func params results ∷ []) firsts seconds others others entries lists (sym put.0) refl (sym e)
        (index-func_lists others (subst (λ n. TakesLists params results n functions others) number put.1))
    index-adds_func id seconds others lists number none (inr put) e =
        index-same (types ++ Func params results ∷ []) seconds seconds functions others entries lists refl (sym put.1) (sym e)
        (index-func_digest seconds none (subst (λ n. TakesDigest (func_digest params results) n firsts seconds) number put.0))

  module _ (results : Types) where
    entry_alike : (gives : Types) → is_entry gives (Entry results) ≡ true → results ≡ gives
    entry_alike gives same = (same_types-Decides results gives).0 same

    pub index-known_entry : is_some (find_entry types results) ≡ true → IsIndexOf (types ++ Entry results ∷ []) firsts functions entries
    index-known_entry there = record {
      functions_are = functions_stay (Entry results) (λ takes gives. refl);
      entries_are = λ gives. stays types (Entry results) (is_entry gives) (at_digest firsts (entry_digest gives)) (at_list entries gives)
          (is.firsts_are_types (entry_digest gives)) (λ same. ap (λ rs. is_some (find_entry types rs)) (sym (entry_alike gives same)) ∙ there) (is.entries_are gives);
      firsts_are_types = λ digest id there. within_longer types (Entry results) id (is.firsts_are_types digest id there);
    }

    pub index-entry_digest : (more : ByDigest) → find_entry types results ≡ None → TakesDigest (entry_digest results) (length types) firsts more
        → IsIndexOf (types ++ Entry results ∷ []) more functions entries
    index-entry_digest more none takes_digest = record {
      functions_are = λ takes gives. gets_digest types (Entry results) (is_function takes gives) firsts more (entry_digest results) (func_digest takes gives) (at_lists functions takes gives)
          is.firsts_are_types takes_digest (λ yes. absurd cc) (λ yes. absurd cc) (is.functions_are takes gives);
      entries_are = λ gives. gets_digest types (Entry results) (is_entry gives) firsts more (entry_digest results) (entry_digest gives) (at_list entries gives)
          is.firsts_are_types takes_digest (λ same. ap entry_digest (entry_alike gives same)) (λ same. ap (find_entry types) (sym (entry_alike gives same)) ∙ none) (is.entries_are gives);
      firsts_are_types = within_more types (Entry results) firsts more (entry_digest results) is.firsts_are_types takes_digest;
    }

    pub index-entry_list : (more : ByList ℕ) → TakesList results (length types) entries more → IsIndexOf (types ++ Entry results ∷ []) firsts functions more
    index-entry_list more put = record {
      functions_are = functions_stay (Entry results) (λ takes gives. refl);
      entries_are = λ gives. gets_list types (Entry results) (is_entry gives) (at_digest firsts (entry_digest gives)) (at_list entries gives) (at_list more gives)
          (is.firsts_are_types (entry_digest gives)) (put gives) (is.entries_are gives);
      firsts_are_types = λ digest id there. within_longer types (Entry results) id (is.firsts_are_types digest id there);
    }

    pub index-adds_entry : (id : ℕ) (seconds : ByDigest) (others : ByList (ByList ℕ)) (lists : ByList ℕ) → id ≡ length types → find_entry types results ≡ None
        → AddsEntry results id firsts seconds entries lists → others ≡ functions → IsIndexOf (types ++ Entry results ∷ []) seconds others lists
    index-adds_entry id seconds others lists number none (inl put) e =
        index-same (types ++ Entry results ∷ []) firsts seconds functions others lists lists (sym put.0) (sym e) refl
        (index-entry_list lists (subst (λ n. TakesList results n entries lists) number put.1))
    index-adds_entry id seconds others lists number none (inr put) e =
        index-same (types ++ Entry results ∷ []) seconds seconds functions others entries lists refl (sym e) (sym put.1)
        (index-entry_digest seconds none (subst (λ n. TakesDigest (entry_digest results) n firsts seconds) number put.0))
