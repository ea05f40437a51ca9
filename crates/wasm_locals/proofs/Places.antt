-- Locals that are set, and their places.
use Rattle.std.proofs.Common.{◌≡◌, ◌≢◌, ℕ, ◌+◌, ◌<◌, ◌≤◌, Bool, true, false, not, List, [], ◌∷◌, ◌++◌, length, reverse, get_or, set, Some, None, refl, sym, ap, subst, ◌∙◌, arith, inl, inr, suc, zero, Option, eq-eqb}
use Rattle.std.specs.Prelude.{slice_get, nat_eq, cond, ◌⊎◌}
use Rattle.std.specs.List.{list_any}
use Rattle.std.proofs.lemmas.Bool.{eqb-true, false≢true}
use Rattle.std.proofs.lemmas.List.Folds.{list_any_at, Any-from_list_any}
use Rattle.std.proofs.lemmas.List.Sorted.{list_any-IsPermutation, IsPermutation-reverse}
use Rattle.std.proofs.lemmas.Option.{slice_get_within, get_or_from_slice_get, slice_get-get_or}
use Rattle.wasm_body.specs.Validity.{set_locals}
use Rattle.wasm_typing.specs.Contexts.{contains}
use Rattle.wasm_locals.specs.Places.{holds_place, holds_at, is_placed, Lead, KeepsPlaces}

-- ---- what a list contains

pub contains-at : (n : ℕ) (xs : List ℕ) (k : ℕ) → slice_get xs k ≡ Some n → contains n xs ≡ true
contains-at n xs k h =
    list_any_at (λ m. nat_eq n m) xs k n (slice_get_within xs k n h) (eq-eqb n _ (sym (get_or_from_slice_get xs k n n h)))

pub at-contains : (n : ℕ) (xs : List ℕ) → contains n xs ≡ true → (k : ℕ) × (slice_get xs k ≡ Some n)
at-contains n xs h =
    let found = Any-from_list_any (λ m. nat_eq n m) xs h in
    let same : found.1 ≡ n = sym (eqb-true n found.1 found.4) in
    (found.0, slice_get-get_or xs found.0 found.1 found.2 ∙ ap (λ m. Some m) (found.3 ∙ same))

pub contains-reverse : (n : ℕ) (xs : List ℕ) → contains n (reverse xs) ≡ contains n xs
contains-reverse n xs = sym (list_any-IsPermutation (λ m. nat_eq n m) xs (reverse xs) (IsPermutation-reverse xs))

-- ---- the place of a number

pub same_test : (a b : Bool) → (a ≡ true → b ≡ true) → (b ≡ true → a ≡ true) → a ≡ b
same_test true b f g = sym (f refl)
same_test false true f g = g refl
same_test false false f g = refl

holds-some : (n : ℕ) (o : Option ℕ) → holds_place n o ≡ true → o ≡ Some n
holds-some n None h = absurd (false≢true h)
holds-some n (Some found) h = ap (λ m. Some m) (eqb-true found n h)

contains-placed : (xs : List ℕ) (n : ℕ) (place : Option ℕ) → holds_at xs n place ≡ true → contains n xs ≡ true
contains-placed xs n None h = absurd (false≢true h)
contains-placed xs n (Some place) h = contains-at n xs place (holds-some n (slice_get xs place) h)

placed-at : (places xs : List ℕ) (n k : ℕ) → slice_get places n ≡ Some k → slice_get xs k ≡ Some n → is_placed places xs n ≡ true
placed-at places xs n k place at = ap (holds_at xs n) place ∙ (ap (holds_place n) at ∙ eq-eqb n n refl)

pub placed-contains : (places xs : List ℕ) (n : ℕ) → Lead places xs → is_placed places xs n ≡ contains n (reverse xs)
placed-contains places xs n lead =
    same_test (is_placed places xs n) (contains n xs) (contains-placed xs n (slice_get places n))
    (λ h. let found = at-contains n xs h in placed-at places xs n found.0 (lead found.0 n found.1) found.1)
    ∙ sym (contains-reverse n xs)

-- ---- one more

pub set_local : (n : ℕ) (ls : List ℕ) (is_set : Bool) → contains n ls ≡ is_set → set_locals (n ∷ []) ls ≡ cond is_set ls (n ∷ ls)
set_local n ls true h = ap (λ b. cond (not b) (n ∷ []) [] ++ ls) h
set_local n ls false h = ap (λ b. cond (not b) (n ∷ []) [] ++ ls) h

at-push : (xs : List ℕ) (n k m : ℕ) → slice_get (xs ++ n ∷ []) k ≡ Some m → (slice_get xs k ≡ Some m) ⊎ ((k ≡ length xs) × (n ≡ m))
at-push [] n zero m h = inr (refl, cc)
at-push [] n (suc k) m h = absurd (cc)
at-push (x ∷ xs) n zero m h = inl h
at-push (x ∷ xs) n (suc k) m h =
    elim (at-push xs n k m h) as (λ _. (slice_get xs k ≡ Some m) ⊎ ((suc k ≡ suc (length xs)) × (n ≡ m))) [ inl e ↦ inl e | inr e ↦ inr (ap suc e.0, e.1) ]

other-place : (ps : List ℕ) (n m place : ℕ) → n ≢ m → slice_get (set ps n place) m ≡ slice_get ps m
other-place [] n m place ne = refl
other-place (p ∷ ps) zero zero place ne = absurd (ne refl)
other-place (p ∷ ps) zero (suc m) place ne = refl
other-place (p ∷ ps) (suc n) zero place ne = refl
other-place (p ∷ ps) (suc n) (suc m) place ne = other-place ps n m place (λ e. ne (ap suc e))

own-place : (ps : List ℕ) (n place : ℕ) → n < length ps → slice_get (set ps n place) n ≡ Some place
own-place [] n place h = absurd (omega arith)
own-place (p ∷ ps) zero place h = refl
own-place (p ∷ ps) (suc n) place h = own-place ps n place (omega arith)

pub leads-push : (places more xs : List ℕ) (n : ℕ) → Lead places xs → KeepsPlaces places more → n < length more → contains n (reverse xs) ≡ false
    → Lead (set more n (length xs)) (xs ++ n ∷ [])
leads-push places more xs n lead keeps room unset k m at =
    elim (at-push xs n k m at) as (λ _. slice_get (set more n (length xs)) m ≡ Some k) [
      | inl e ↦
          (let other : n ≢ m = λ same. false≢true (sym unset ∙ (contains-reverse n xs ∙ contains-at n xs k (e ∙ ap (λ i. Some i) (sym same)))) in
          other-place more n m (length xs) other ∙ keeps m k (lead k m e))
      | inr e ↦ (ap (slice_get (set more n (length xs))) (sym e.1) ∙ own-place more n (length xs) room) ∙ ap (λ i. Some i) (sym e.0)
    ]
