-- What a stable sort leaves is the sorted list.
use Rattle.std.proofs.Common.{◌≡◌, ℕ, suc, ◌<◌, ◌≤◌, true, false, cond, eqb, ltb, List, [], ◌∷◌, length, map, get_or, Option, Some, None, Bor, refl, sym, ap, ◌∙◌, inl, inr, arith}
use Rattle.std.specs.Fn.{Called, ComputesKey}
use Rattle.std.specs.List.{AllByRecursion, filter, find}
use Rattle.std.specs.List.Sorted.{IsNonDecreasingBy, IsSortedByKey, ties, IsStableByKey}
use Rattle.std.specs.Ordering.{is_lt, nat_cmp}
use Rattle.std.proofs.lemmas.Bool.{ltb-true, ltb-false, lt-ltb, le-ltb, eqb-true, eq-eqb, ne_eqb, cases_order}
use Rattle.std.proofs.lemmas.Fn.{always_returns_same}
use Rattle.std.proofs.lemmas.List.Elements.{filter_agree}
use Rattle.std.proofs.lemmas.List.Sorted.{IsNonDecreasingBy-from_sort_by_key}
use Rattle.dwarf_bytes.specs.Sorting.{inserted_by, sorted_by}
use denote.Param.Members.{Mut}

-- keys from this one on that don't fall
abbrev pub RiseFrom : {X : Type 0} → (key : X → ℕ) → (low : ℕ) → List X → Type 0
RiseFrom key low [] = Unit {0}
RiseFrom key low (x ∷ xs) = (low ≤ key x) × RiseFrom key (key x) xs

-- those of one key
abbrev with_key : {X : Type 0} → (key : X → ℕ) → ℕ → List X → List X
with_key key k = filter (λ x. eqb (key x) k)

module _ {X : Type 0} (key : X → ℕ) where
  rise_lower : (low from : ℕ) (xs : List X) → RiseFrom key from xs → low ≤ from → RiseFrom key low xs
  rise_lower low from [] up le = tt
  rise_lower low from (x ∷ xs) up le = let first = up.0 in (omega arith, up.1)

  with_here : (x : X) (xs : List X) → with_key key (key x) (x ∷ xs) ≡ x ∷ with_key key (key x) xs
  with_here x xs = rw (eq-eqb (key x) (key x) refl) refl

  with_other : (x : X) (xs : List X) (k : ℕ) → (key x ≡ k → ⊥) → with_key key k (x ∷ xs) ≡ with_key key k xs
  with_other x xs k other = rw (ne_eqb (key x) k other) refl

  none_below : (from k : ℕ) (xs : List X) → RiseFrom key from xs → k < from → with_key key k xs ≡ []
  none_below from k [] up less = refl
  none_below from k (x ∷ xs) up less =
      let first = up.0 in
      with_other x xs k (λ e. omega arith) ∙ none_below (key x) k xs up.1 (omega arith)

  -- ---- one sorted list

  heads : (x y : X) (xs ys : List X) → x ∷ xs ≡ y ∷ ys → x ≡ y
  heads x y xs ys e = cc

  tails : (x y : X) (xs ys : List X) → x ∷ xs ≡ y ∷ ys → xs ≡ ys
  tails x y xs ys e = cc

  -- the first ones have one key
  not_before : (x y : X) (xs ys : List X) → RiseFrom key (key y) ys → ((z : X) → with_key key (key z) (x ∷ xs) ≡ with_key key (key z) (y ∷ ys)) → key x < key y → ⊥
  not_before x y xs ys up same less =
      let none : with_key key (key x) (y ∷ ys) ≡ [] = none_below (key y) (key x) (y ∷ ys) (omega arith, up) less in
      let is : x ∷ with_key key (key x) xs ≡ [] = sym (with_here x xs) ∙ same x ∙ none in
      absurd cc

  same_key : (x y : X) (xs ys : List X) → RiseFrom key (key x) xs → RiseFrom key (key y) ys → ((z : X) → with_key key (key z) (x ∷ xs) ≡ with_key key (key z) (y ∷ ys)) → key x ≡ key y
  same_key x y xs ys up rises same =
      elim (ltb (key x) (key y)) as (λ b. ltb (key x) (key y) ≡ b → key x ≡ key y) [
        | true ↦ λ e. absurd (not_before x y xs ys rises same (ltb-true (key x) (key y) e))
        | false ↦ λ e.
            elim (ltb (key y) (key x)) as (λ b. ltb (key y) (key x) ≡ b → key x ≡ key y) [
              | true ↦ λ f. absurd (not_before y x ys xs up (λ z. sym (same z)) (ltb-true (key y) (key x) f))
              | false ↦ λ f. let a = ltb-false (key x) (key y) e in let b = ltb-false (key y) (key x) f in omega arith
            ] refl
      ] refl

  same_heads : (x y : X) (xs ys : List X) → key x ≡ key y → with_key key (key x) (x ∷ xs) ≡ with_key key (key x) (y ∷ ys) → x ∷ with_key key (key x) xs ≡ y ∷ with_key key (key x) ys
  same_heads x y xs ys is same =
      sym (with_here x xs) ∙ same ∙ (rw (eq-eqb (key y) (key x) (sym is)) refl)

  same_tails : (x y : X) (xs ys : List X) → key x ≡ key y → ((z : X) → with_key key (key z) (x ∷ xs) ≡ with_key key (key z) (y ∷ ys)) → (z : X) → with_key key (key z) xs ≡ with_key key (key z) ys
  same_tails x y xs ys is same z =
      let k = key z in
      elim (eqb (key x) k) as (λ b. eqb (key x) k ≡ b → with_key key k xs ≡ with_key key k ys) [
        | true ↦ λ e.
            let here = same z in
            let left : with_key key k (x ∷ xs) ≡ x ∷ with_key key k xs = rw e refl in
            let right : with_key key k (y ∷ ys) ≡ y ∷ with_key key k ys = rw (ap (λ (n : ℕ). eqb n k) (sym is) ∙ e) refl in
            tails x y (with_key key k xs) (with_key key k ys) (sym left ∙ here ∙ right)
        | false ↦ λ e.
            let left : with_key key k (x ∷ xs) ≡ with_key key k xs = rw e refl in
            let right : with_key key k (y ∷ ys) ≡ with_key key k ys = rw (ap (λ (n : ℕ). eqb n k) (sym is) ∙ e) refl in
            sym left ∙ same z ∙ right
      ] refl

  one_sorted : (low : ℕ) (xs ys : List X) → RiseFrom key low xs → RiseFrom key low ys → ((z : X) → with_key key (key z) xs ≡ with_key key (key z) ys) → xs ≡ ys
  one_sorted low [] [] up rises same = refl
  one_sorted low [] (y ∷ ys) up rises same = let is : [] ≡ y ∷ with_key key (key y) ys = same y ∙ with_here y ys in absurd cc
  one_sorted low (x ∷ xs) [] up rises same = let is : x ∷ with_key key (key x) xs ≡ [] = sym (with_here x xs) ∙ same x in absurd cc
  one_sorted low (x ∷ xs) (y ∷ ys) up rises same =
      let is = same_key x y xs ys up.1 rises.1 same in
      let head = heads x y (with_key key (key x) xs) (with_key key (key x) ys) (same_heads x y xs ys is (same x)) in
      let rest = one_sorted 0 xs ys (rise_lower 0 (key x) xs up.1 (omega arith)) (rise_lower 0 (key y) ys rises.1 (omega arith)) (same_tails x y xs ys is same) in
      cc

  -- ---- the sorted list

  inserted_rises : (low : ℕ) (x : X) (ys : List X) → low ≤ key x → RiseFrom key low ys → RiseFrom key low (inserted_by key x ys)
  unfolding inserted_by
  inserted_rises low x [] le up = (le, tt)
  inserted_rises low x (y ∷ ys) le up =
      elim (ltb (key y) (key x)) as (λ b. ltb (key y) (key x) ≡ b → RiseFrom key low (cond b (y ∷ inserted_by key x ys) (x ∷ y ∷ ys))) [
        | true ↦ λ e. let less = ltb-true (key y) (key x) e in (up.0, inserted_rises (key y) x ys (omega arith) up.1)
        | false ↦ λ e. (le, (ltb-false (key y) (key x) e, up.1))
      ] refl

  sorted_rises : (xs : List X) → RiseFrom key 0 (sorted_by key xs)
  unfolding sorted_by
  sorted_rises [] = tt
  sorted_rises (x ∷ xs) = inserted_rises 0 x (sorted_by key xs) (omega arith) (sorted_rises xs)

  with_inserted : (k : ℕ) (x : X) (ys : List X) → with_key key k (inserted_by key x ys) ≡ with_key key k (x ∷ ys)
  unfolding inserted_by
  with_inserted k x [] = refl
  with_inserted k x (y ∷ ys) =
      elim (ltb (key y) (key x)) as (λ b. ltb (key y) (key x) ≡ b → with_key key k (cond b (y ∷ inserted_by key x ys) (x ∷ y ∷ ys)) ≡ with_key key k (x ∷ y ∷ ys)) [
        | true ↦ λ e.
            let less = ltb-true (key y) (key x) e in
            let ih = with_inserted k x ys in
            elim (eqb (key x) k) as (λ b. eqb (key x) k ≡ b → with_key key k (y ∷ inserted_by key x ys) ≡ with_key key k (x ∷ y ∷ ys)) [
              | true ↦ λ f.
                  let is = eqb-true (key x) k f in
                  let other : key y ≡ k → ⊥ = λ q. omega arith in
                  with_other y (inserted_by key x ys) k other ∙ ih ∙ (rw f (ap (λ (zs : List X). x ∷ zs) (sym (with_other y ys k other))))
              | false ↦ λ f.
                  let rest : with_key key k (inserted_by key x ys) ≡ with_key key k ys = ih ∙ (rw f refl) in
                  ap (λ (zs : List X). cond (eqb (key y) k) (y ∷ zs) zs) rest ∙ (rw f refl)
            ] refl
        | false ↦ λ e. refl
      ] refl

  with_sorted : (k : ℕ) (xs : List X) → with_key key k (sorted_by key xs) ≡ with_key key k xs
  unfolding sorted_by
  with_sorted k [] = refl
  with_sorted k (x ∷ xs) = with_inserted k x (sorted_by key xs) ∙ ap (λ (zs : List X). cond (eqb (key x) k) (x ∷ zs) zs) (with_sorted k xs)

  -- what is found is the first of those with a key
  first_of : List X → Option X
  first_of [] = None
  first_of (x ∷ xs) = Some x

  find_first : (k : ℕ) (xs : List X) → find (λ x. eqb (key x) k) xs ≡ first_of (with_key key k xs)
  unfolding first_of
  find_first k [] = refl
  find_first k (x ∷ xs) =
      elim (eqb (key x) k) as (λ b. cond b (Some x) (find (λ x. eqb (key x) k) xs) ≡ first_of (cond b (x ∷ with_key key k xs) (with_key key k xs))) [
        | true ↦ refl
        | false ↦ find_first k xs
      ]

  pub find_sorted : (k : ℕ) (xs : List X) → find (λ x. eqb (key x) k) (sorted_by key xs) ≡ find (λ x. eqb (key x) k) xs
  find_sorted k xs = find_first k (sorted_by key xs) ∙ ap first_of (with_sorted k xs) ∙ sym (find_first k xs)

  -- ---- what a sort ensures

  pub rises_from : (low : ℕ) (xs : List X) → IsNonDecreasingBy key xs → ((d : X) → 0 < length xs → low ≤ key (get_or xs 0 d)) → RiseFrom key low xs
  rises_from low [] up first = tt
  rises_from low (x ∷ xs) up first =
      (first x (omega arith), rises_from (key x) xs (λ i j d le within. up (suc i) (suc j) d (omega arith) (omega arith)) (λ d some. up 0 1 d (omega arith) (omega arith)))

  ties_is : (x y : X) → ties (λ (a b : X). is_lt (nat_cmp (key a) (key b))) x y ≡ eqb (key y) (key x)
  ties_is x y = elim (cases_order (key x) (key y)) [
    | inl is ↦ rw (le-ltb (key x) (key y) (omega arith), le-ltb (key y) (key x) (omega arith), eq-eqb (key x) (key y) is, eq-eqb (key y) (key x) (sym is)) refl
    | inr (inl less) ↦ rw (lt-ltb (key x) (key y) less, ne_eqb (key y) (key x) (λ e. omega arith)) refl
    | inr (inr less) ↦ rw (le-ltb (key x) (key y) (omega arith), lt-ltb (key y) (key x) less, ne_eqb (key x) (key y) (λ e. omega arith), ne_eqb (key y) (key x) (λ e. omega arith)) refl
  ]

  pub sorted_is : (xs ys : List X) → IsNonDecreasingBy key ys → IsStableByKey key nat_cmp xs ys → ys ≡ sorted_by key xs
  sorted_is xs ys up stable =
      one_sorted 0 ys (sorted_by key xs) (rises_from 0 ys up (λ d some. omega arith)) (sorted_rises xs) (λ z.
      let lt = λ (a b : X). is_lt (nat_cmp (key a) (key b)) in
      sym (filter_agree (ties lt z) (λ x. eqb (key x) (key z)) (ties_is z) ys)
      ∙ stable z
      ∙ filter_agree (ties lt z) (λ x. eqb (key x) (key z)) (ties_is z) xs
      ∙ sym (with_sorted (key z) xs))

  -- by a closure, each call of which gives the key
  pub sorted_by_calls : {F : Type 0} {g : Mut F (Bor X × Unit {0}) ℕ} {f : F} (xs ys : List X)
      → ((k : X → ℕ) → ComputesKey g k f → IsSortedByKey k nat_cmp ys) → ((k : X → ℕ) → ComputesKey g k f → IsStableByKey k nat_cmp xs ys)
      → ((a : Bor X × Unit {0}) (r : ℕ) (f' : F) → Called g f a r f' → (r ≡ key a.0.now) × (f' ≡ f)) → ys ≡ sorted_by key xs
  sorted_by_calls {F} {g} {f} xs ys sorted stable calls =
      sorted_is xs ys (IsNonDecreasingBy-from_sort_by_key key ys sorted calls) (stable key (always_returns_same g (λ a r. r ≡ key a.0.now) f calls))

-- of other values with the same keys
module _ {X Y : Type 0} (key : X → ℕ) (other : Y → ℕ) (view : X → Y) (same : (x : X) → other (view x) ≡ key x) where
  inserted_mapped : (x : X) (ys : List X) → map view (inserted_by key x ys) ≡ inserted_by other (view x) (map view ys)
  unfolding inserted_by
  inserted_mapped x [] = refl
  inserted_mapped x (y ∷ ys) =
      rw (same x, same y)
      (elim (ltb (key y) (key x)) as (λ b. map view (cond b (y ∷ inserted_by key x ys) (x ∷ y ∷ ys)) ≡ cond b (view y ∷ inserted_by other (view x) (map view ys)) (view x ∷ view y ∷ map view ys)) [
        | true ↦ ap (λ (zs : List Y). view y ∷ zs) (inserted_mapped x ys)
        | false ↦ refl
      ])

  pub sorted_mapped : (xs : List X) → map view (sorted_by key xs) ≡ sorted_by other (map view xs)
  unfolding sorted_by
  sorted_mapped [] = refl
  sorted_mapped (x ∷ xs) = inserted_mapped x (sorted_by key xs) ∙ ap (inserted_by other (view x)) (sorted_mapped xs)

-- what is true of all
module _ {X : Type 0} (key : X → ℕ) (P : X → Type 0) where
  all_inserted : (x : X) (ys : List X) → P x → AllByRecursion P ys → AllByRecursion P (inserted_by key x ys)
  unfolding inserted_by
  all_inserted x [] p ps = (p, tt)
  all_inserted x (y ∷ ys) p ps =
      elim (ltb (key y) (key x)) as (λ b. AllByRecursion P (cond b (y ∷ inserted_by key x ys) (x ∷ y ∷ ys))) [
        | true ↦ (ps.0, all_inserted x ys p ps.1)
        | false ↦ (p, ps)
      ]

  pub all_sorted : (xs : List X) → AllByRecursion P xs → AllByRecursion P (sorted_by key xs)
  unfolding sorted_by
  all_sorted [] ps = tt
  all_sorted (x ∷ xs) ps = all_inserted x (sorted_by key xs) ps.0 (all_sorted xs ps.1)
