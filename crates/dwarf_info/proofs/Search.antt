-- Looking up in a list whose keys ascend.
use Rattle.std.proofs.Common.{◌≡◌, ℕ, zero, suc, ◌+◌, ◌<◌, ◌≤◌, true, false, cond, ltb, eqb, List, [], ◌∷◌, ◌++◌, length, map, drop, get_or, Option, Some, None, option_map, Bor, refl, sym, ap, subst, ◌∙◌, arith}
use Rattle.std.specs.Prelude.{IfSome}
use Rattle.std.specs.Option.{option_copied}
use Rattle.std.specs.List.{AllWithin, AllByRecursion, find}
use Rattle.std.specs.List.Sorted.{IsNonDecreasingBy}
use Rattle.std.proofs.lemmas.Bool.{ltb-true, eq-eqb, ne_eqb}
use Rattle.std.proofs.lemmas.List.{drop_all}
use Rattle.code_moves.proofs.Bisection.{RiseFrom, rise, others_from}
use Rattle.dwarf_info.specs.Sound.{Ascend}

module _ {X : Type 0} (key : X → ℕ) where
  ascend_rise : (low from : ℕ) (xs : List X) → Ascend key from xs → low ≤ from → RiseFrom key low xs
  ascend_rise low from [] up le = tt
  ascend_rise low from (x ∷ xs) up le =
      let first = up.0 in
      (omega arith, ascend_rise (key x) (suc (key x)) xs up.1 (omega arith))

  pub keys_rise : (from : ℕ) (xs : List X) → Ascend key from xs → IsNonDecreasingBy key xs
  keys_rise from xs up = rise key from xs (ascend_rise from from xs up (omega arith))

  -- ---- one element

  pub finds_here : (x : X) (xs : List X) (k : ℕ) → key x ≡ k → find (λ x. eqb (key x) k) (x ∷ xs) ≡ Some x
  finds_here x xs k is = rw (eq-eqb (key x) k is) refl

  finds_after : (x : X) (xs : List X) (k : ℕ) → (key x ≡ k → ⊥) → find (λ x. eqb (key x) k) (x ∷ xs) ≡ find (λ x. eqb (key x) k) xs
  finds_after x xs k other = rw (ne_eqb (key x) k other) refl

  -- ---- the elements that are passed

  pub finds_passing : (xs : List X) (k at : ℕ) → AllWithin (λ x. ltb (key x) k ≡ true) xs 0 at → find (λ x. eqb (key x) k) xs ≡ find (λ x. eqb (key x) k) (drop at xs)
  finds_passing xs k zero by = refl
  finds_passing [] k (suc at) by = refl
  finds_passing (x ∷ xs) k (suc at) by =
      let before : key x < k = ltb-true (key x) k (by 0 x (omega arith) (omega arith)) in
      finds_after x xs k (λ is. omega arith) ∙ finds_passing xs k at (λ i d low high. by (suc i) d (omega arith) (omega arith))

  -- ---- those that are left: none of them is before it

  finds_none : (from : ℕ) (xs : List X) → Ascend key from xs → (k : ℕ) → k < from → find (λ x. eqb (key x) k) xs ≡ None
  finds_none from [] up k before = refl
  finds_none from (x ∷ xs) up k before =
      let first = up.0 in
      finds_after x xs k (λ is. omega arith) ∙ finds_none (suc (key x)) xs up.1 k (omega arith)

  pub ascend_lower : (low from : ℕ) (xs : List X) → Ascend key from xs → low ≤ from → Ascend key low xs
  ascend_lower low from [] up le = tt
  ascend_lower low from (x ∷ xs) up le =
      let first = up.0 in
      (omega arith, up.1)

  ascend_drop : (from : ℕ) (xs : List X) → Ascend key from xs → (at : ℕ) → Ascend key from (drop at xs)
  ascend_drop from xs up zero = up
  ascend_drop from [] up (suc at) = tt
  ascend_drop from (x ∷ xs) up (suc at) =
      let first = up.0 in
      ascend_lower from (suc (key x)) (drop at xs) (ascend_drop (suc (key x)) xs up.1 at) (omega arith)

  pub finds_none_from : (from : ℕ) (xs : List X) → Ascend key from xs → (at : ℕ) (x : X) (rest : List X) → drop at xs ≡ x ∷ rest → (k : ℕ) → k < key x → find (λ x. eqb (key x) k) (x ∷ rest) ≡ None
  finds_none_from from xs up at x rest is k before =
      let left = subst (Ascend key from) is (ascend_drop from xs up at) in
      finds_none (key x) (x ∷ rest) (omega arith, left.1) k before

  -- ---- an element at an index

  at_least : (from : ℕ) (xs : List X) → Ascend key from xs → (i : ℕ) (d : X) → i < length xs → from ≤ key (get_or xs i d)
  at_least from [] up i d within = absurd (omega arith)
  at_least from (x ∷ xs) up zero d within = up.0
  at_least from (x ∷ xs) up (suc i) d within =
      let first = up.0 in
      let others = at_least (suc (key x)) xs up.1 i d (omega arith) in
      omega arith

  pub finds_at : (from : ℕ) (xs : List X) → Ascend key from xs → (i : ℕ) (d : X) (k : ℕ) → i < length xs → key (get_or xs i d) ≡ k → find (λ x. eqb (key x) k) xs ≡ Some (get_or xs i d)
  finds_at from [] up i d k within is = absurd (omega arith)
  finds_at from (x ∷ xs) up zero d k within is = finds_here x xs k is
  finds_at from (x ∷ xs) up (suc i) d k within is =
      let others = at_least (suc (key x)) xs up.1 i d (omega arith) in
      finds_after x xs k (λ same. omega arith) ∙ finds_at (suc (key x)) xs up.1 i d k (omega arith) is

  -- as it is read
  pub finds_read : (from : ℕ) (xs : List X) → Ascend key from xs → (i : ℕ) (x : X) (k : ℕ) → i < length xs → x ≡ get_or xs i x → key x ≡ k → find (λ x. eqb (key x) k) xs ≡ Some x
  finds_read from xs up i x k within read is = finds_at from xs up i x k within (ap key (sym read) ∙ is) ∙ ap (λ (y : X). Some y) (sym read)

  -- ---- where a bisection ends

  module _ (from : ℕ) (xs : List X) (up : Ascend key from xs) (k at : ℕ) (passed : AllWithin (λ x. ltb (key x) k ≡ true) xs 0 at) where
    pub finds_no_more : length xs ≤ at → find (λ x. eqb (key x) k) xs ≡ None
    finds_no_more few = finds_passing xs k at passed ∙ ap (find (λ x. eqb (key x) k)) (drop_all at xs few)

    pub finds_greater : (x : X) → at < length xs → x ≡ get_or xs at x → k < key x → find (λ x. eqb (key x) k) xs ≡ None
    finds_greater x within read before =
        let left = others_from xs xs at x refl within read in
        finds_passing xs k at passed ∙ (ap (find (λ x. eqb (key x) k)) left ∙ finds_none_from from xs up at x (drop (at + 1) xs) left k before)

-- ---- lists that are lengthened

pub ascend_more : {X : Type 0} (key : X → ℕ) (from : ℕ) (xs : List X) (x : X) → Ascend key from xs → AllByRecursion (λ y. key y < key x) xs → from ≤ key x → Ascend key from (xs ++ x ∷ [])
ascend_more key from [] x up below le = (le, tt)
ascend_more key from (y ∷ xs) x up below le = (up.0, ascend_more key (suc (key y)) xs x up.1 below.1 (let k = below.0 in omega arith))

pub all_append : {X : Type 0} (P : X → Type 0) (xs ys : List X) → AllByRecursion P xs → AllByRecursion P ys → AllByRecursion P (xs ++ ys)
all_append P [] ys p q = q
all_append P (x ∷ xs) ys p q = (p.0, all_append P xs ys p.1 q)

pub all_implied : {X : Type 0} (P Q : X → Type 0) → ((x : X) → P x → Q x) → (xs : List X) → AllByRecursion P xs → AllByRecursion Q xs
all_implied P Q h [] p = tt
all_implied P Q h (x ∷ xs) p = (h x p.0, all_implied P Q h xs p.1)

-- ---- what is found

pub all_found : {X : Type 0} (P : X → Type 0) (key : X → ℕ) (k : ℕ) (xs : List X) (x : X) → AllByRecursion P xs → find (λ x. eqb (key x) k) xs ≡ Some x → P x
all_found P key k [] x all e = absurd cc
all_found {X} P key k (y ∷ xs) x all e =
    elim (eqb (key y) k) as (λ b. cond b (Some y) (find (λ x. eqb (key x) k) xs) ≡ Some x → P x) [
      | true ↦ λ e. let same : y ≡ x = cc in subst P same all.0
      | false ↦ λ e. all_found P key k xs x all.1 e
    ] e

-- of other values with the same keys
pub find_mapped : {X Y : Type 0} (key : X → ℕ) (other : Y → ℕ) (view : X → Y) → ((x : X) → other (view x) ≡ key x) → (k : ℕ) (xs : List X)
    → find (λ y. eqb (other y) k) (map view xs) ≡ option_map view (find (λ x. eqb (key x) k) xs)
find_mapped key other view same k [] = refl
find_mapped key other view same k (x ∷ xs) =
    rw (same x)
    (elim (eqb (key x) k) as (λ b. cond b (Some (view x)) (find (λ y. eqb (other y) k) (map view xs)) ≡ option_map view (cond b (Some x) (find (λ x. eqb (key x) k) xs))) [
      | true ↦ refl
      | false ↦ find_mapped key other view same k xs
    ])

pub ascend_mapped : {X Y : Type 0} (key : X → ℕ) (other : Y → ℕ) (view : X → Y) → ((x : X) → other (view x) ≡ key x) → (from : ℕ) (xs : List X) → Ascend other from (map view xs) → Ascend key from xs
ascend_mapped key other view same from [] up = tt
ascend_mapped key other view same from (x ∷ xs) up =
    let is = same x in
    let first = up.0 in
    (omega arith, subst (λ n. Ascend key (suc n) xs) is (ascend_mapped key other view same (suc (other (view x))) xs up.1))

-- what is true of the element that a reference leads to
pub if_copied : {X : Type 0} (P : X → Type 0) (r : Option (Bor X)) → ((x : X) → option_copied r ≡ Some x → P x) → IfSome r (λ x. P x.now)
if_copied P None h = tt
if_copied P (Some x) h = h x.now refl
