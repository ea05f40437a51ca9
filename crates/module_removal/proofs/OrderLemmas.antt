-- Parts of functions are in order after they are sorted, and stay so while their functions and numbers do.
use Rattle.std.proofs.Common.{◌≡◌, ◌≢◌, ◌⊎◌, ℕ, zero, suc, ◌+◌, ◌-◌, ◌<◌, ◌≤◌, Bool, true, false, cond, eqb, ltb, List, length, get_or, slice_set, refl, sym, ap, subst, ◌∙◌, inl, inr, arith}
use Rattle.std.proofs.Math.ListN.{get_or-map}
use Rattle.std.proofs.lemmas.Bool.{eqb-true, eqb-false, ltb-false, false≢true}
use Rattle.std.proofs.lemmas.List.{length-map}
use Rattle.std.proofs.Math.Seq.{map-set_same}
use Rattle.std.proofs.lemmas.Fn.{always_returns_same}
use Rattle.std.specs.declared.cmp.Ordering.TheVariants.{Less, Equal, Greater}
use Rattle.std.specs.Fn.{Called, ComputesKey}
use Rattle.std.specs.List.Sorted.{IsSortedByKey}
use denote.Param.Members.{Mut}
use denote.Ref.{Bor}
use Rattle.std.specs.Ordering.{nat_cmp, ordering_then, is_lt}
use Rattle.module_removal.specs.declared.followed.Part.{Part}
use Rattle.module_removal.specs.LeftParts.{IsAtMost, ArePartsInOrder, parts_numbered}

-- ---- after a sort

numbers_ordered :
    (a b c d : ℕ) → is_lt (ordering_then (nat_cmp b a) (nat_cmp d c)) ≡ false → (a < b) ⊎ ((a ≡ b) × (c ≤ d))
numbers_ordered a b c d e = by_tests (ltb b a) (eqb b a) (ltb d c) (eqb d c) refl refl refl e
  where
    by_tests :
        (x y z w : Bool) → ltb b a ≡ x → eqb b a ≡ y → ltb d c ≡ z →
        is_lt (ordering_then (cond x Less (cond y Equal Greater)) (cond z Less (cond w Equal Greater))) ≡ false → (a < b) ⊎ ((a ≡ b) × (c ≤ d))
    by_tests true y z w p q r e = absurd (false≢true (sym e))
    by_tests false true true w p q r e = absurd (false≢true (sym e))
    by_tests false true false w p q r e = inr (sym (eqb-true b a q), ltb-false d c r)
    by_tests false false z w p q r e =
        let le : a ≤ b = ltb-false b a p in
        let ne : b ≢ a = eqb-false b a q in
        inl (omega arith)

at_most_itself : (p : Part) → IsAtMost p p
at_most_itself p = inr (refl, omega arith)

at_most_then : (p q r : Part) → IsAtMost p q → IsAtMost q r → IsAtMost p r
at_most_then p q r (inl a) (inl b) = inl (omega arith)
at_most_then p q r (inl a) (inr b) = inl (omega (arith, b.0))
at_most_then p q r (inr a) (inl b) = inl (omega (arith, a.0))
at_most_then p q r (inr a) (inr b) = inr (a.0 ∙ b.0, omega (arith, a.1, b.1))

module _ (parts : List Part)
    (sorted : (k : ℕ) (d : Part) → 0 ≤ k → k + 1 < length parts →
    is_lt (ordering_then (nat_cmp (get_or parts (k + 1) d).func (get_or parts k d).func) (nat_cmp (get_or parts (k + 1) d).old (get_or parts k d).old)) ≡ false) where
  adjacent : (k : ℕ) (d : Part) → k + 1 < length parts → IsAtMost (get_or parts k d) (get_or parts (k + 1) d)
  adjacent k d less =
      numbers_ordered (get_or parts k d).func (get_or parts (k + 1) d).func (get_or parts k d).old (get_or parts (k + 1) d).old (sorted k d (omega arith) less)

  -- after so many more parts
  later : (n i : ℕ) (d : Part) → i + n < length parts → IsAtMost (get_or parts i d) (get_or parts (i + n) d)
  later zero i d less =
      let same : i ≡ i + 0 = omega arith in
      subst (λ (k : ℕ). IsAtMost (get_or parts i d) (get_or parts k d)) same (at_most_itself (get_or parts i d))
  later (suc n) i d less =
      let next : (i + n) + 1 ≡ i + suc n = omega arith in
      subst (λ (k : ℕ). IsAtMost (get_or parts i d) (get_or parts k d)) next
      (at_most_then (get_or parts i d) (get_or parts (i + n) d) (get_or parts ((i + n) + 1) d) (later n i d (omega arith)) (adjacent (i + n) d (omega arith)))

  pub sorted_in_order : ArePartsInOrder parts
  sorted_in_order i j d le less =
      let same : i + (j - i) ≡ j = omega arith in
      subst (λ (k : ℕ). IsAtMost (get_or parts i d) (get_or parts k d)) same (later (j - i) i d (omega arith))

abbrev numbers_of_part : Part → ℕ × ℕ
numbers_of_part p = (p.func, p.old)

-- from the clause `sorted` of a sort by these numbers
pub order_from_sort :
    {F : Type 0} {g : Mut F (Bor Part × Unit {0}) (ℕ × ℕ)} {f : F} (parts : List Part) →
    ((key : Part → ℕ × ℕ) → ComputesKey g key f → IsSortedByKey key (λ x y. ordering_then (nat_cmp x.0 y.0) (nat_cmp x.1 y.1)) parts) →
    ((a : Bor Part × Unit {0}) (r : ℕ × ℕ) (f' : F) → Called g f a r f' → (r ≡ numbers_of_part a.0.now) × (f' ≡ f)) → ArePartsInOrder parts
order_from_sort {g = g} {f = f} parts up h =
    sorted_in_order parts (up numbers_of_part (always_returns_same g (λ a r. r ≡ numbers_of_part a.0.now) f h))

-- ---- while new numbers are set

pub new_number_set : (parts : List Part) (i : ℕ) (old new : Part) → old ≡ get_or parts i old → new.func ≡ old.func → new.old ≡ old.old →
    parts_numbered (slice_set parts i new) ≡ parts_numbered parts
new_number_set parts i old new at func number =
    map-set_same numbers_of_part parts i new old (pair new.func new.old old.func old.old func number ∙ ap numbers_of_part at)
  where
    pair : (a b c d : ℕ) → a ≡ c → b ≡ d → ◌≡◌ {A = ℕ × ℕ} (a, b) (c, d)
    pair a b c d e f = cc

pub order_stays : (old new : List Part) → parts_numbered new ≡ parts_numbered old → ArePartsInOrder old → ArePartsInOrder new
order_stays old new same order i j d le less =
    let numbered : Part → ℕ × ℕ = λ p. (p.func, p.old) in
    let long : length new ≡ length old = sym (length-map new numbered) ∙ ap length same ∙ length-map old numbered in
    let at : (k : ℕ) → numbered (get_or new k d) ≡ numbered (get_or old k d) =
    λ k. sym (get_or-map numbered new k d) ∙ ap (λ (l : List (ℕ × ℕ)). get_or l k (numbered d)) same ∙ get_or-map numbered old k d in
    at_most_as (get_or new i d) (get_or new j d) (get_or old i d) (get_or old j d) (at i) (at j) (order i j d le (omega (arith, less)))
  where
    at_most_as :
        (p q r s : Part) → ◌≡◌ {A = ℕ × ℕ} (p.func, p.old) (r.func, r.old) → ◌≡◌ {A = ℕ × ℕ} (q.func, q.old) (s.func, s.old) → IsAtMost r s → IsAtMost p q
    at_most_as p q r s a b (inl less) =
        let f : p.func ≡ r.func = ap (λ (x : ℕ × ℕ). x.0) a in
        let g : q.func ≡ s.func = ap (λ (x : ℕ × ℕ). x.0) b in
        inl (omega arith)
    at_most_as p q r s a b (inr (same, le)) =
        let f : p.func ≡ r.func = ap (λ (x : ℕ × ℕ). x.0) a in
        let g : q.func ≡ s.func = ap (λ (x : ℕ × ℕ). x.0) b in
        let h : p.old ≡ r.old = ap (λ (x : ℕ × ℕ). x.1) a in
        let o : q.old ≡ s.old = ap (λ (x : ℕ × ℕ). x.1) b in
        inr (f ∙ same ∙ sym g, omega arith)
