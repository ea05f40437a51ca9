-- The locals of a body that is read from what was written of another: each declared local has its place as its id.
use Rattle.std.proofs.Common.{◌≡◌, ℕ, zero, suc, ◌+◌, ◌-◌, ◌<◌, ◌≤◌, ◌==◌, List, [], ◌∷◌, ◌++◌, length, get_or, slice_get, Bool, true, false, not, ◌&&◌, ◌||◌, Option, Some, None, Result, Ok, inl, inr, refl, sym, ap, subst, ◌∙◌, arith, length-append}
use Rattle.std.specs.List.{AllByRecursion, AllAdjacentBelow}
use Rattle.std.specs.Ordering.{nat_cmp, ordering_then}
use Rattle.std.specs.Cmp.{nat_cmp_is}
use Rattle.std.specs.declared.cmp.Ordering.{Ordering}
use Rattle.std.specs.declared.cmp.Ordering.TheVariants.{Less, Equal, Greater}
use Rattle.std.proofs.lemmas.Bool.{eqb-true, eq-eqb, cases_lt}
use Rattle.std.proofs.lemmas.List.Elements.{All-from_recursion}
use Rattle.std.proofs.lemmas.Option.{same_Some, none-some, slice_get_within}
use Rattle.std.proofs.Math.Bool.{or-true}
use Rattle.wasm_types.specs.declared.val_type.ValType.{ValType}
use Rattle.wasm_types.specs.TypeOrder.{type_order}
use Rattle.walrus_ir.specs.Unfolding.{among, Apart}
use Rattle.wasm_numbers.specs.Results.{some_or}
use Rattle.wasm_body.specs.declared.error.ParseError.{ParseError}
use Rattle.wasm_body.specs.declared.error.ParseError.TheVariants.{UnknownId}
use Rattle.wasm_body.specs.LocalNumbers.{Local, types_of, ids_of, AreDeclared, number_of_local}
use Rattle.wasm_body.proofs.LocalNumbers.{Below, Ascends, ascends, last_place_get, places_are_numbers}
use Rattle.wasm_module.proofs.Again.WrittenAlike.{AreOthers}

-- ---- lists

pub get_before : {A : Type 0} (xs ys : List A) (i : ℕ) → i < length xs → slice_get (xs ++ ys) i ≡ slice_get xs i
get_before [] ys i h = absurd (omega arith)
get_before (x ∷ xs) ys zero h = refl
get_before (x ∷ xs) ys (suc i) h = get_before xs ys i (omega arith)

pub get_after : {A : Type 0} (xs ys : List A) (n i : ℕ) → n ≡ length xs + i → slice_get (xs ++ ys) n ≡ slice_get ys i
get_after [] ys n i e = ap (slice_get ys) (let is : n ≡ i = omega arith in is)
get_after (x ∷ xs) ys zero i e = absurd (omega arith)
get_after (x ∷ xs) ys (suc n) i e = get_after xs ys n i (omega arith)

not_true : (b : Bool) → (b ≡ true → ⊥) → b ≡ false
not_true true h = absurd (h refl)
not_true false h = refl

-- a local of a list is at a place, and one at a place is of the list
among_place : (id : ℕ) (xs : List ℕ) → among id xs ≡ true → (i : ℕ) × (slice_get xs i ≡ Some id)
among_place id [] h = absurd cc
among_place id (x ∷ xs) h =
    elim (id == x) as (λ b. (id == x) ≡ b → (b || among id xs) ≡ true → (i : ℕ) × (slice_get (x ∷ xs) i ≡ Some id)) [
      | true ↦ λ e k. (0, ap (λ (y : ℕ). Some y) (sym (eqb-true id x e)))
      | false ↦ λ e k. let r = among_place id xs k in (suc r.0, r.1)
    ] refl h

place_among : (id i : ℕ) (xs : List ℕ) → slice_get xs i ≡ Some id → among id xs ≡ true
place_among id i [] h = absurd (none-some id h)
place_among id zero (x ∷ xs) h = ap (λ b. b || among id xs) (eq-eqb id x (sym (same_Some x id h)))
place_among id (suc i) (x ∷ xs) h = ap (λ b. (id == x) || b) (place_among id i xs h) ∙ or-true (id == x)

-- ---- arguments, each at its own place

pub record AreFirst (args : List ℕ) (count : ℕ) : Type 0 where
  pub many : length args ≡ count
  pub place : (i : ℕ) → i < count → slice_get args i ≡ Some i

-- a list of numbers, each of which is so far above its place
apart_from : (xs : List ℕ) (n : ℕ) → ((i x : ℕ) → slice_get xs i ≡ Some x → x ≡ n + i) → Apart xs
apart_from [] n h = tt
apart_from (x ∷ xs) n h = (
  not_true (among x xs) (λ is.
      let r = among_place x xs is in
      let here = h 0 x refl in
      let there = h (suc r.0) x r.1 in
      omega arith),
  apart_from xs (suc n) (λ i y e. let is = h (suc i) y e in omega arith),
)

module _ (args : List ℕ) (count : ℕ) (first : AreFirst args count) where
  own_place : (i x : ℕ) → slice_get args i ≡ Some x → x ≡ i
  own_place i x e =
      let within = slice_get_within args i x e in
      let many = first.many in
      sym (same_Some i x (sym (first.place i (omega arith)) ∙ e))

  first_apart : Apart args
  first_apart = apart_from args 0 (λ i x e. let is = own_place i x e in omega arith)

  first_among : (id : ℕ) → id < count → among id args ≡ true
  first_among id h = place_among id id args (first.place id h)

  among_first : (id : ℕ) → among id args ≡ true → id < count
  among_first id h =
      let r = among_place id args h in
      let is = own_place r.0 id r.1 in
      let within = slice_get_within args r.0 id r.1 in
      let many = first.many in
      omega arith

-- ---- locals, each with its place

-- Locals in order, each with the next place as its id, from this one on.
abbrev pub at_next : (place : ℕ) → List Local → List Local
at_next n [] = []
at_next n (l ∷ ls) = (l.0, n) ∷ at_next (suc n) ls

pub types_at_next : (n : ℕ) (ls : List Local) → types_of (at_next n ls) ≡ types_of ls
types_at_next n [] = refl
types_at_next n (l ∷ ls) = ap (λ ts. l.0 ∷ ts) (types_at_next (suc n) ls)

pub count_at_next : (n : ℕ) (ls : List Local) → length (at_next n ls) ≡ length ls
count_at_next n [] = refl
count_at_next n (l ∷ ls) = ap suc (count_at_next (suc n) ls)

pub many_types : (ls : List Local) → length (types_of ls) ≡ length ls
many_types [] = refl
many_types (l ∷ ls) = ap suc (many_types ls)

pub many_ids : (ls : List Local) → length (ids_of ls) ≡ length ls
many_ids [] = refl
many_ids (l ∷ ls) = ap suc (many_ids ls)

ids_at_next : (n : ℕ) (ls : List Local) (i : ℕ) → i < length ls → slice_get (ids_of (at_next n ls)) i ≡ Some (n + i)
ids_at_next n [] i h = absurd (omega arith)
ids_at_next n (l ∷ ls) zero h = ap (λ (k : ℕ). Some k) (omega arith)
ids_at_next n (l ∷ ls) (suc i) h = ids_at_next (suc n) ls i (omega arith) ∙ ap (λ (k : ℕ). Some k) (omega arith)

next_among : (n id : ℕ) (ls : List Local) → among id (ids_of (at_next n ls)) ≡ true → (n ≤ id) × (id < n + length ls)
next_among n id [] h = absurd cc
next_among n id (l ∷ ls) h =
    elim (id == n) as (λ b. (id == n) ≡ b → (b || among id (ids_of (at_next (suc n) ls))) ≡ true → (n ≤ id) × (id < n + length (l ∷ ls))) [
      | true ↦ λ e k. let is = eqb-true id n e in (omega arith, omega arith)
      | false ↦ λ e k. let r = next_among (suc n) id ls k in (omega arith, omega arith)
    ] refl h

among_next : (n id : ℕ) (ls : List Local) → n ≤ id → id < n + length ls → among id (ids_of (at_next n ls)) ≡ true
among_next n id ls low high =
    place_among id (id - n) (ids_of (at_next n ls)) (ids_at_next n ls (id - n) (omega arith) ∙ ap (λ (k : ℕ). Some k) (omega arith))

-- ---- their order

adjacent_cons : {A : Type 0} (R : A → A → Type 0) (x y : A) (xs : List A) → R x y → AllAdjacentBelow R (y ∷ xs) (length (y ∷ xs)) → AllAdjacentBelow R (x ∷ y ∷ xs) (length (x ∷ y ∷ xs))
adjacent_cons R x y xs first h zero d within = first
adjacent_cons R x y xs first h (suc k) d within =
    let next : suc (k + 1) ≡ suc k + 1 = omega arith in
    subst (λ n. R (get_or (y ∷ xs) k d) (get_or (x ∷ y ∷ xs) n d)) next (h k d (omega arith))

next_place : (o p : Ordering) (n : ℕ) → ordering_then o p ≡ Less → ordering_then o (nat_cmp n (suc n)) ≡ Less
next_place Less p n e = refl
next_place Equal p n e = sym (nat_cmp_is n (suc n) Less (omega arith))
next_place Greater p n e = absurd cc

ascends_next : (n : ℕ) (ls : List Local) → Ascends ls → AllAdjacentBelow Below (at_next n ls) (length (at_next n ls))
ascends_next n [] h = λ k d within. absurd (omega arith)
ascends_next n (l ∷ []) h = λ k d within. absurd (omega arith)
ascends_next n (l ∷ m ∷ ls) h =
    adjacent_cons Below (l.0, n) (m.0, suc n) (at_next (suc (suc n)) ls) (next_place (type_order l.0 m.0) (nat_cmp l.1 m.1) n h.0.0) (ascends_next (suc n) (m ∷ ls) h.1)

-- ---- their types

typed_next :
    (types : List (ValType ℕ)) (n : ℕ) (ls : List Local) → ((i : ℕ) (t : ValType ℕ) → slice_get (types_of ls) i ≡ Some t → slice_get types (n + i) ≡ Some t) →
    AllByRecursion (λ (l : Local). slice_get types l.1 ≡ Some l.0) (at_next n ls)
typed_next types n [] h = tt
typed_next types n (l ∷ ls) h = (
  subst (λ k. slice_get types k ≡ Some l.0) (let is : n + 0 ≡ n = omega arith in is) (h 0 l.0 refl),
  typed_next types (suc n) ls (λ i t e. subst (λ k. slice_get types k ≡ Some t) (let is : n + suc i ≡ suc n + i = omega arith in is) (h (suc i) t e)),
)

-- ---- what is named

-- the number of a local, as the index of the body that was written
abbrev pub other_local : (args others : List ℕ) → ℕ → Result ℕ ParseError
other_local args others id = some_or (number_of_local args others id) UnknownId

other_some : (o : Option ℕ) (k : ℕ) → some_or {E = ParseError} o UnknownId ≡ Ok k → o ≡ Some k
other_some (Some n) k e = let is : n ≡ k = cc e in ap (λ (x : ℕ). Some x) is
other_some None k e = absurd cc

module _ (other : ℕ → Result ℕ ParseError) where
  named_other : (id : ℕ) (ns ms : List ℕ) → AreOthers other ns ms → among id ns ≡ true → (k : ℕ) × (other id ≡ Ok k) × (among k ms ≡ true)
  named_other id [] ms h e = absurd cc
  named_other id (n ∷ ns) [] h e = absurd h
  named_other id (n ∷ ns) (m ∷ ms) h e =
      elim (id == n) as (λ b. (id == n) ≡ b → (b || among id ns) ≡ true → (k : ℕ) × (other id ≡ Ok k) × (among k (m ∷ ms) ≡ true)) [
        | true ↦ λ is k. (m, ap other (eqb-true id n is) ∙ h.0, ap (λ b. b || among m ms) (eq-eqb m m refl))
        | false ↦ λ is k. let r = named_other id ns ms h.1 k in (r.0, r.1, ap (λ b. (r.0 == m) || b) r.2 ∙ or-true (r.0 == m))
      ] refl e

  other_named : (k : ℕ) (ns ms : List ℕ) → AreOthers other ns ms → among k ms ≡ true → (id : ℕ) × (other id ≡ Ok k) × (among id ns ≡ true)
  other_named k ns [] h e = absurd cc
  other_named k [] (m ∷ ms) h e = absurd h
  other_named k (n ∷ ns) (m ∷ ms) h e =
      elim (k == m) as (λ b. (k == m) ≡ b → (b || among k ms) ≡ true → (id : ℕ) × (other id ≡ Ok k) × (among id (n ∷ ns) ≡ true)) [
        | true ↦ λ is r. (n, h.0 ∙ ap (λ (x : ℕ). Ok x) (sym (eqb-true k m is)), ap (λ b. b || among n ns) (eq-eqb n n refl))
        | false ↦ λ is r. let x = other_named k ns ms h.1 r in (x.0, x.1, ap (λ b. (x.0 == n) || b) x.2 ∙ or-true (x.0 == n))
      ] refl e

both_tests : (a u b : Bool) → (a ≡ true → (u ≡ true) × (b ≡ false)) → (u ≡ true → b ≡ false → a ≡ true) → a ≡ (u && not b)
both_tests true u b to from = let x = to refl in sym ((λ i. x.0 i && not (x.1 i)))
both_tests false true true to from = refl
both_tests false true false to from = absurd (let x = from refl refl in cc)
both_tests false false b to from = refl

module _ (args : List ℕ) (count : ℕ) (first : AreFirst args count) (parameters types : List (ValType ℕ)) (many : length parameters ≡ count) (ls : List Local) (used : ℕ → Bool) (d : AreDeclared types args used ls) where
  numbered : (n id : ℕ) → slice_get (args ++ ids_of ls) n ≡ Some id → number_of_local args (ids_of ls) id ≡ Some n
  numbered n id e = places_are_numbers types args used ls d (first_apart args count first) n id e

  -- the index of a local is within the arguments and the declared ones
  pub within : (n id : ℕ) → slice_get (args ++ ids_of ls) n ≡ Some id → n < count + length ls
  within n id e =
      let is = slice_get_within (args ++ ids_of ls) n id e in
      let long = length-append args (ids_of ls) in
      let ids = many_ids ls in
      let firsts = first.many in
      omega arith

  pub other_is : (n id : ℕ) → slice_get (args ++ ids_of ls) n ≡ Some id → other_local args (ids_of ls) id ≡ Ok n
  other_is n id e = ap (λ o. some_or o UnknownId) (numbered n id e)

  pub place_of : (n id : ℕ) → other_local args (ids_of ls) id ≡ Ok n → slice_get (args ++ ids_of ls) n ≡ Some id
  place_of n id e = last_place_get (args ++ ids_of ls) id n (other_some (number_of_local args (ids_of ls) id) n e)

  pub number_is : (n id : ℕ) → other_local args (ids_of ls) id ≡ Ok n → number_of_local args (ids_of ls) id ≡ Some n
  number_is n id e = other_some (number_of_local args (ids_of ls) id) n e

  -- what is declared, of locals of which these are used
  declared_by :
      (uses : ℕ → Bool) → ((id : ℕ) → among id (ids_of (at_next count ls)) ≡ true → uses id ≡ true) →
      ((id : ℕ) → uses id ≡ true → among id args ≡ false → among id (ids_of (at_next count ls)) ≡ true) → AreDeclared (parameters ++ types_of ls) args uses (at_next count ls)
  declared_by uses to from = record {
    ascend = ascends_next count ls (ascends ls d.ascend);
    are_all = λ id. both_tests (among id (ids_of (at_next count ls))) (uses id) (among id args) (λ h. (to id h, no_argument id h)) (from id);
    typed =
        All-from_recursion (λ (l : Local). slice_get (parameters ++ types_of ls) l.1 ≡ Some l.0) (at_next count ls)
        (typed_next (parameters ++ types_of ls) count ls (λ i t e. get_after parameters (types_of ls) (count + i) i (omega arith) ∙ e));
  }
    where
      no_argument : (id : ℕ) → among id (ids_of (at_next count ls)) ≡ true → among id args ≡ false
      no_argument id h =
          let bounds = next_among count id ls h in
          not_true (among id args) (λ is. let low = among_first args count first id is in omega arith)

  -- the locals that were declared are declared again, in their order
  pub declared_again :
      (ns ms : List ℕ) → AreOthers (other_local args (ids_of ls)) ns ms → ((id : ℕ) → used id ≡ among id ns) →
      AreDeclared (parameters ++ types_of ls) args (λ id. among id ms) (at_next count ls)
  declared_again ns ms others uses = declared_by (λ id. among id ms) to from
    where
      get_place : (xs : List ℕ) (i : ℕ) → i < length xs → (x : ℕ) × (slice_get xs i ≡ Some x)
      get_place [] i h = absurd (omega arith)
      get_place (x ∷ xs) zero h = (x, refl)
      get_place (x ∷ xs) (suc i) h = get_place xs i (omega arith)

      used_if : (u a b : Bool) → b ≡ (u && not a) → b ≡ true → u ≡ true
      used_if true a b e h = refl
      used_if false a b e h = absurd cc

      same_ok : (a b : ℕ) → (let r : Result ℕ ParseError = Ok a in r) ≡ Ok b → a ≡ b
      same_ok a b e = cc

      of_local : (id x : ℕ) → slice_get (args ++ ids_of ls) id ≡ Some x → among x (ids_of ls) ≡ true → among id ms ≡ true
      of_local id x at is_declared =
          let is_used : among x ns ≡ true = sym (uses x) ∙ used_if (used x) (among x args) (among x (ids_of ls)) (d.are_all x) is_declared in
          let r = named_other (other_local args (ids_of ls)) x ns ms others is_used in
          subst (λ k. among k ms ≡ true) (same_ok r.0 id (sym r.1 ∙ other_is id x at)) r.2

      to : (id : ℕ) → among id (ids_of (at_next count ls)) ≡ true → among id ms ≡ true
      to id h =
          let bounds = next_among count id ls h in
          let ids = many_ids ls in
          let firsts = first.many in
          let it = get_place (ids_of ls) (id - count) (omega arith) in
          of_local id it.0 (get_after args (ids_of ls) id (id - count) (omega arith) ∙ it.1) (place_among it.0 (id - count) (ids_of ls) it.1)

      from : (id : ℕ) → among id ms ≡ true → among id args ≡ false → among id (ids_of (at_next count ls)) ≡ true
      from id h no_argument =
          let r = other_named (other_local args (ids_of ls)) id ns ms others h in
          let high = within id r.0 (place_of id r.0 r.1) in
          elim (cases_lt id count) [
            | inl low ↦ absurd (let is = first_among args count first id low in cc)
            | inr least ↦ among_next count id ls least high
          ]

  -- and have their places as numbers
  pub numbers_again : (n : ℕ) → n < count + length ls → number_of_local args (ids_of (at_next count ls)) n ≡ Some n
  numbers_again n h =
      let declared = declared_by (λ id. among id (ids_of (at_next count ls))) (λ id is. is) (λ id is no. is) in
      places_are_numbers (parameters ++ types_of ls) args (λ id. among id (ids_of (at_next count ls))) (at_next count ls) declared (first_apart args count first) n n
      (elim (cases_lt n count) [
        | inl low ↦ get_before args (ids_of (at_next count ls)) n (let firsts = first.many in omega arith) ∙ first.place n low
        | inr least ↦
            let firsts = first.many in
            get_after args (ids_of (at_next count ls)) n (n - count) (omega arith) ∙ (ids_at_next count ls (n - count) (omega arith) ∙ ap (λ (k : ℕ). Some k) (omega arith))
      ])
