-- Lists of which the items are changed one after the other.
use Rattle.std.specs.Prelude.{Some, slice_get, slice_set, Result, Ok, Err, OnErr}
use Rattle.std.proofs.Common.{◌≡◌, ℕ, zero, suc, ◌+◌, ◌≤◌, List, [], ◌∷◌, ◌++◌, map, length, take, drop, refl, sym, ap, ◌∙◌, subst, arith}
use Rattle.std.proofs.lemmas.List.{append-nil, take_all, drop_all}
use Rattle.walrus_ir.specs.Function.{Function}

module _ {X : Type 0} (f : X → X) where
  -- the items before a place are changed
  abbrev pub changed_below : ℕ → List X → List X
  changed_below i xs = map f (take i xs) ++ drop i xs

  pub next_is : (xs : List X) (i : ℕ) → slice_get (changed_below i xs) i ≡ slice_get xs i
  next_is [] zero = refl
  next_is [] (suc i) = refl
  next_is (x ∷ xs) zero = refl
  next_is (x ∷ xs) (suc i) = next_is xs i

  pub one_changed : (xs : List X) (i : ℕ) (x : X) → slice_get xs i ≡ Some x → slice_set (changed_below i xs) i (f x) ≡ changed_below (suc i) xs
  one_changed [] i x h = absurd (cc h)
  one_changed (y ∷ ys) zero x h = let e : x ≡ y = cc h in ap (λ z. f z ∷ ys) e
  one_changed (y ∷ ys) (suc i) x h = ap (λ l. f y ∷ l) (one_changed ys i x h)

  pub all_changed : (xs : List X) (i : ℕ) → length xs ≤ i → changed_below i xs ≡ map f xs
  all_changed xs i h = ap (λ l. map f (take i xs) ++ l) (drop_all i xs h) ∙ append-nil (map f (take i xs)) ∙ ap (map f) (take_all i xs h)

pub set_same : {X : Type 0} (xs : List X) (i : ℕ) (x : X) → slice_get xs i ≡ Some x → slice_set xs i x ≡ xs
set_same [] i x h = refl
set_same (y ∷ ys) zero x h = let e : x ≡ y = cc h in ap (λ z. z ∷ ys) e
set_same (y ∷ ys) (suc i) x h = ap (λ l. y ∷ l) (set_same ys i x h)

-- what holds in any case holds after an error
pub in_any_case : {T E : Type 0} {P : Type 0} (r : Result T E) → P → OnErr r P
in_any_case (Ok x) h = tt
in_any_case (Err e) h = h

pub same_function : (a b : Function) → a.type ≡ b.type → a.sequences ≡ b.sequences → a.entry ≡ b.entry → a ≡ b
same_function a b t s e =
    ap (λ x. record a { type = x }) t ∙ ap (λ x. record b { sequences = x; entry = a.entry }) s ∙ ap (λ x. record b { entry = x }) e
