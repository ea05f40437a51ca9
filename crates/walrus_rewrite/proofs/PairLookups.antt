-- A pair found by its place, among pairs whose places strictly increase.
use Rattle.std.proofs.Common.{◌≡◌, ℕ, zero, suc, ◌+◌, ◌<◌, ◌≤◌, List, [], ◌∷◌, length, map, get_or, true, false, Option, Some, None, Result, Ok, Err, refl, sym, ap, subst, ◌∙◌, arith}
use Rattle.std.specs.Prelude.{◌==◌, nat_lt, if◌then◌else◌, slice_index}
use Rattle.std.specs.List.Sorted.{IsSearchInRange, IsBinarySearchResult, IsNonDecreasingBy}
use Rattle.std.specs.Ordering.{nat_cmp, ordering_index}
use Rattle.std.proofs.lemmas.Bool.{eqb-true, ltb-true}
use Rattle.std.proofs.lemmas.Bool.Decides.{nat_tests}
use Rattle.std.proofs.lemmas.Cmp.{ranked}
use Rattle.std.proofs.lemmas.List.{length-map}
use Rattle.std.proofs.lemmas.List.Sorted.{IsNonDecreasingBy-from_default}
use Rattle.wasm_body.specs.Pairs.{Pair, location_in}
use Rattle.walrus_rewrite.specs.RewrittenBodies.{PlacesRise}

abbrev place_of : Pair → ℕ
place_of p = p.1

abbrev pair_at : List Pair → ℕ → Pair
pair_at ps i = get_or ps i (0, 0)

-- inside the list, places beyond it make no difference
pub same_default : (ps : List Pair) (i : ℕ) (d e : Pair) → i < length ps → get_or ps i d ≡ get_or ps i e
same_default [] i d e l = absurd (omega arith)
same_default (p ∷ ps) zero d e l = refl
same_default (p ∷ ps) (suc i) d e l = same_default ps i d e (omega arith)

-- ---- if a pair is found, and if none is

pub found : (ps : List Pair) (place i : ℕ) → i < length ps → (pair_at ps i).1 ≡ place → ((j : ℕ) → j < i → (pair_at ps j).1 < place)
    → location_in ps place ≡ Some (pair_at ps i).0
found [] place i l e before = absurd (omega arith)
found (p ∷ ps) place zero l e before =
    let same : p.1 ≡ place = e in
    let here : (p.1 == place) ≡ true = grind arith in
    ap (λ b. if b then Some p.0 else location_in ps place) here
found (p ∷ ps) place (suc i) l e before =
    let first : p.1 < place = before zero (omega arith) in
    let other : (p.1 == place) ≡ false = grind arith in
    ap (λ b. if b then Some p.0 else location_in ps place) other ∙ found ps place i (omega arith) e (λ j lt. before (suc j) (omega arith))

pub absent : (ps : List Pair) (place : ℕ) → ((j : ℕ) → j < length ps → (pair_at ps j).1 ≡ place → ⊥) → location_in ps place ≡ None
absent [] place h = refl
absent (p ∷ ps) place h =
    elim (p.1 == place) as (λ b. (p.1 == place) ≡ b → (if b then Some p.0 else location_in ps place) ≡ None) [
      | true ↦ λ e. absurd (h zero (omega arith) (eqb-true p.1 place e))
      | false ↦ λ e. absent ps place (λ j l. h (suc j) (omega arith))
    ] refl

-- ---- places rise

place_at : (ps : List Pair) (k : ℕ) → slice_index (map place_of ps) k ≡ (pair_at ps k).1
place_at [] zero = refl
place_at [] (suc k) = refl
place_at (p ∷ ps) zero = refl
place_at (p ∷ ps) (suc k) = place_at ps k

module _ (ps : List Pair) (rises : PlacesRise ps) where
  next_above : (k : ℕ) → suc k < length ps → (pair_at ps k).1 < (pair_at ps (suc k)).1
  next_above k l =
      let e : k + 1 ≡ suc k = omega arith in
      let places = map place_of ps in
      let h : slice_index places k < slice_index places (suc k) = subst (λ n. slice_index places k < slice_index places n) e (rises k (omega (arith, l, length-map ps place_of))) in
      omega (arith, h, place_at ps k, place_at ps (suc k))

  above : (i j : ℕ) → i < j → j < length ps → (pair_at ps i).1 < (pair_at ps j).1
  above i zero lt l = absurd (omega arith)
  above i (suc j) lt l =
      elim (nat_lt i j) as (λ b. nat_lt i j ≡ b → (pair_at ps i).1 < (pair_at ps (suc j)).1) [
        | true ↦ λ e. omega (arith, next_above j l, above i j (ltb-true i j e) (omega arith))
        | false ↦ λ e. let same : i ≡ j = grind arith in subst (λ n. (pair_at ps n).1 < (pair_at ps (suc j)).1) (sym same) (next_above j l)
      ] refl

  module _ (place : ℕ) where
    comparisons_rise : IsNonDecreasingBy (λ (p : Pair). ordering_index (nat_cmp p.1 place)) ps
    comparisons_rise = IsNonDecreasingBy-from_default (λ (p : Pair). ordering_index (nat_cmp p.1 place)) ps (0, 0) (λ i j le l.
        let places_rise : (pair_at ps i).1 ≤ (pair_at ps j).1 = grind (arith, above i j, λ (same : i ≡ j). ap (λ n. (pair_at ps n).1) same) in
        grind (arith, nat_tests))

    -- the location at an index that a search gives
    abbrev pub location_at : Result ℕ ℕ → Option ℕ
    location_at (Ok i) = Some (pair_at ps i).0
    location_at (Err i) = None

    pub searched : (r : Result ℕ ℕ) → IsSearchInRange r (length ps) → IsBinarySearchResult (λ (p : Pair). nat_cmp p.1 place) ps r → location_at r ≡ location_in ps place
    searched (Ok i) in_range equal =
        let key : (pair_at ps i).1 ≡ place = ranked _ place _ (sym (equal (0, 0))) in
        sym (found ps place i in_range key (λ j lt. subst (λ n. (pair_at ps j).1 < n) key (above j i lt in_range)))
    searched (Err i) in_range partitioned = sym (absent ps place none)
      where
        none : (j : ℕ) → j < length ps → (pair_at ps j).1 ≡ place → ⊥
        none j l same =
            elim (nat_lt j i) as (λ b. nat_lt j i ≡ b → ⊥) [
              | true ↦ λ e.
                  let lt : j < i = ltb-true j i e in
                  let smaller : (pair_at ps j).1 < place = ranked _ place _ (sym ((partitioned comparisons_rise).0 j (0, 0) (omega arith) lt)) in
                  omega (arith, smaller, same)
              | false ↦ λ e.
                  let le : i ≤ j = grind arith in
                  let greater : place < (pair_at ps j).1 = ranked _ place _ (sym ((partitioned comparisons_rise).1 j (0, 0) le l)) in
                  omega (arith, greater, same)
            ] refl
