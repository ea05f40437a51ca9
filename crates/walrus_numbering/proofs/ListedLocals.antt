-- The numbers of locals in a table by id, as the entries of a map.
use Rattle.std.proofs.Common.{◌≡◌, ℕ, zero, suc, ◌+◌, ◌<◌, ◌==◌, List, [], ◌∷◌, ◌++◌, Bool, true, false, ◌&&◌, ◌||◌, not, cond, Option, Some, None, is_some, slice_get, replicate, take, length, get_or, refl, sym, ap, subst, ◌∙◌, arith, append-nil}
use Rattle.std.proofs.lemmas.List.{take_all, length-map}
use Rattle.std.proofs.Math.ListN.{get_or-map}
use Rattle.std.specs.List.{All, AllByRecursion}
use Rattle.std.proofs.lemmas.List.Elements.{All-from_recursion, All-head, All-tail}
use Rattle.std.specs.Option.{option_flatten, option_or}
use Rattle.std.specs.Map.{lookup}
use Rattle.std.proofs.lemmas.Bool.{eqb-true, eq-eqb}
use Rattle.std.proofs.Math.Bool.{and-true, or-true}
use Rattle.wasm_types.specs.declared.val_type.ValType.{ValType}
use Rattle.walrus_ir.specs.Unfolding.{among}
use Rattle.wasm_body.specs.LocalNumbers.{Local, AreDeclared, ids_of}
use Rattle.walrus_maps.proofs.EntryMaps.{same_id, get-entries}
use Rattle.walrus_numbering.specs.EmittedLocals.{number_in}
use Rattle.walrus_numbering.specs.NumberTables.{entries_from, entries_in}

-- ids of which one is greater aren't the same
greater : (q first : ℕ) → q < first → same_id q first ≡ false
greater q first h =
    elim (q == first) as (λ b. (q == first) ≡ b → (b && true) ≡ false) [
      | true ↦ λ e. let same = eqb-true q first e in absurd (omega (arith, h, same))
      | false ↦ λ e. refl
    ] refl

itself : (q : ℕ) → same_id q q ≡ true
itself q = ap (λ b. b && true) (eq-eqb q q refl)

-- the number of the id at a place of a table, if it has one there
abbrev at : List (Option ℕ) → ℕ → Option ℕ
at table k = option_flatten (slice_get table k)

module _ (es : List (ℕ × ℕ)) where
  -- the id is none of a table's
  before : (first q : ℕ) (t : List (Option ℕ)) → q < first → lookup (same_id q) (entries_from first t ++ es) ≡ lookup (same_id q) es
  before first q [] h = refl
  before first q (None ∷ t) h = before (first + 1) q t (omega (arith, h))
  before first q (Some n ∷ t) h =
      ap (λ b. cond b (Some n) (lookup (same_id q) (entries_from (first + 1) t ++ es))) (greater q first h) ∙ before (first + 1) q t (omega (arith, h))

  -- it is the one at this place
  from_here : (first k q : ℕ) (t : List (Option ℕ)) → q ≡ first + k → lookup (same_id q) (entries_from first t ++ es) ≡ option_or (at t k) (lookup (same_id q) es)
  from_here first k q [] is = refl
  from_here first zero q (None ∷ t) is = before (first + 1) q t (omega (arith, is))
  from_here first zero q (Some n ∷ t) is =
      let same : q ≡ first = omega (arith, is) in
      ap (λ b. cond b (Some n) (lookup (same_id q) (entries_from (first + 1) t ++ es))) (ap (same_id q) (sym same) ∙ itself q)
  from_here first (suc k) q (None ∷ t) is = from_here (first + 1) k q t (omega (arith, is))
  from_here first (suc k) q (Some n ∷ t) is =
      let later : same_id q first ≡ false =
      elim (q == first) as (λ b. (q == first) ≡ b → (b && true) ≡ false) [
        | true ↦ λ e. let same = eqb-true q first e in absurd (omega (arith, is, same))
        | false ↦ λ e. refl
      ] refl in
      ap (λ b. cond b (Some n) (lookup (same_id q) (entries_from (first + 1) t ++ es))) later ∙ from_here (first + 1) k q t (omega (arith, is))

  -- the number of an id in a table, and else in a map
  pub in_table_or : (t : List (Option ℕ)) (q : ℕ) → number_in (entries_in t ++ es) q ≡ option_or (at t q) (number_in es q)
  in_table_or t q = get-entries (entries_in t ++ es) q ∙ (from_here 0 q q t (omega arith) ∙ ap (option_or (at t q)) (sym (get-entries es q)))

nothing_else : (o : Option ℕ) → option_or o None ≡ o
nothing_else (Some n) = refl
nothing_else None = refl

-- as the test of an entry
pub looked_up : (t : List (Option ℕ)) (q : ℕ) → lookup (same_id q) (entries_in t) ≡ at t q
looked_up t q =
    ap (lookup (same_id q)) (sym (append-nil (entries_in t))) ∙ (from_here [] 0 q q t (omega arith) ∙ nothing_else (at t q))

-- the number of an id in a table
pub in_table : (t : List (Option ℕ)) (q : ℕ) → number_in (entries_in t) q ≡ at t q
in_table t q = get-entries (entries_in t) q ∙ looked_up t q

-- a number that was put
pub put_entry : (old new : List (Option ℕ)) (k n : ℕ) → ((id : ℕ) → at new id ≡ cond (k == id) (Some n) (at old id))
    → (q : ℕ) → lookup (same_id q) (entries_in new) ≡ cond (same_id k q) (Some n) (lookup (same_id q) (entries_in old))
put_entry old new k n put q =
    looked_up new q ∙ (put q ∙ (λ i. cond (sym (and-true (k == q)) i) (Some n) (sym (looked_up old q) i)))

-- a table without numbers
no_entry : (m q : ℕ) → number_in (entries_in (replicate m None)) q ≡ None
no_entry m q = in_table (replicate m None) q ∙ none m q
  where
    none : (m q : ℕ) → at (replicate m None) q ≡ None
    none zero q = refl
    none (suc m) zero = refl
    none (suc m) (suc q) = none m q

-- ---- ids that are less than a number

small_among : (len x : ℕ) (xs : List ℕ) → All (λ id. id < len) xs → among x xs ≡ true → x < len
small_among len x [] all is = absurd cc
small_among len x (y ∷ ys) all is =
    elim (x == y) as (λ b. (x == y) ≡ b → (b || among x ys) ≡ true → x < len) [
      | true ↦ λ e h. subst (λ z. z < len) (sym (eqb-true x y e)) (All-head (λ id. id < len) y ys all)
      | false ↦ λ e h. small_among len x ys (All-tail (λ id. id < len) y ys all) h
    ] refl is

small_if_among : (len : ℕ) (xs : List ℕ) → ((x : ℕ) → among x xs ≡ true → x < len) → AllByRecursion (λ id. id < len) xs
small_if_among len [] h = tt
small_if_among len (y ∷ ys) h =
    (h y (ap (λ b. b || among y ys) (eq-eqb y y refl)), small_if_among len ys (λ x is. h x (ap (λ b. (x == y) || b) is ∙ or-true (x == y))))

first_part : (a b : Bool) → (a && b) ≡ true → a ≡ true
first_part true b h = refl
first_part false b h = absurd cc

-- those that are declared are among the used ones
pub small_declared : (types : List (ValType ℕ)) (args used : List ℕ) (len : ℕ) (others : List Local) → AreDeclared types args (λ id. among id used) others
    → All (λ id. id < len) used → All (λ id. id < len) (ids_of others)
small_declared types args used len others are small =
    All-from_recursion (λ id. id < len) (ids_of others)
    (small_if_among len (ids_of others) (λ x is. small_among len x used small (first_part (among x used) (not (among x args)) (sym (are.are_all x) ∙ is))))

-- an empty table that was made longer
pub blank : (count : ℕ) (before table : List (Option ℕ)) (m : ℕ) → before ≡ [] → table ≡ take count before ++ replicate m None
    → (q : ℕ) → number_in (entries_in table) q ≡ None
blank count before table m empty is q =
    ap (λ ns. number_in (entries_in ns) q)
    (is ∙ (ap (λ xs. take count xs ++ replicate m None) empty ∙ ap (λ xs. xs ++ replicate m None) (take_all count [] (omega arith))))
    ∙ no_entry m q

-- whether an id has a number, as the table says
pub has_entry : (t : List (Option ℕ)) (q : ℕ) (found : Option ℕ) (none b : Bool) → found ≡ at t q → is_some found ≡ not none → none ≡ b → is_some (lookup (same_id q) (entries_in t)) ≡ not b
has_entry t q found none b is test it = ap is_some (looked_up t q ∙ sym is) ∙ (test ∙ ap not it)

-- the id of the local at a place
pub small_at : (others : List Local) (len now k : ℕ) (l : Local) → All (λ id. id < len) (ids_of others) → now ≡ len → k < length others → l ≡ get_or others k l → l.1 < now
small_at others len now k l small same within is =
    let here : get_or (ids_of others) k l.1 < len = small k l.1 (omega (arith, within, length-map others (λ (m : Local). m.1))) in
    let same_id : get_or (ids_of others) k l.1 ≡ l.1 = get_or-map (λ (m : Local). m.1) others k l ∙ ap (λ (m : Local). m.1) (sym is) in
    omega (arith, here, same_id, same)

pub none_left : (ids : List ℕ) → length ids ≡ 0 → ids ≡ []
none_left [] is = refl
none_left (id ∷ ids) is = absurd (omega arith)
