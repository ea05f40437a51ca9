-- Where a bisection ends of a list whose numbers rise.
use Rattle.std.proofs.Common.{◌≡◌, ℕ, zero, suc, ◌+◌, ◌<◌, ◌≤◌, Bool, true, false, ltb, List, [], ◌∷◌, length, get_or, drop, Bor, sym, ap, subst, ◌∙◌, arith}
use Rattle.std.specs.Prelude.{⊤}
use Rattle.std.specs.Fn.{Called, ComputesKey}
use Rattle.std.specs.List.{AllWithin}
use Rattle.std.specs.List.Sorted.{IsNonDecreasingBy, IsPartitionedBy, IsPartitionPoint}
use Rattle.std.proofs.lemmas.List.{drop_more}
use Rattle.std.proofs.lemmas.List.Sorted.{IsPartitionPoint-from_clause, IsPartitionedBy-leb, IsPartitionedBy-ltb}
use denote.Param.Members.{Mut}
use lib.Dec.{leb}

-- numbers from this one on that don't fall
abbrev pub RiseFrom : {X : Type 0} → (X → ℕ) → (low : ℕ) → List X → Type 0
RiseFrom n low [] = ⊤
RiseFrom n low (x ∷ xs) = (low ≤ n x) × RiseFrom n (n x) xs

rise_from : {X : Type 0} (n : X → ℕ) (low : ℕ) (xs : List X) → RiseFrom n low xs → (k : ℕ) (d : X) → k < length xs → low ≤ n (get_or xs k d)
rise_from n low [] up k d within = absurd (omega arith)
rise_from n low (x ∷ xs) up zero d within = up.0
rise_from n low (x ∷ xs) up (suc k) d within =
    let first = up.0 in
    let rest = rise_from n (n x) xs up.1 k d (omega arith) in
    omega arith

pub rise : {X : Type 0} (n : X → ℕ) (low : ℕ) (xs : List X) → RiseFrom n low xs → IsNonDecreasingBy n xs
rise n low [] up i j d le within = absurd (omega arith)
rise n low (x ∷ xs) up zero zero d le within = omega arith
rise n low (x ∷ xs) up zero (suc j) d le within = rise_from n (n x) xs up.1 j d (omega arith)
rise n low (x ∷ xs) up (suc i) zero d le within = absurd (omega arith)
rise n low (x ∷ xs) up (suc i) (suc j) d le within = rise n (n x) xs up.1 i j d (omega arith) (omega arith)

-- ---- the contents `xs` of a slice are the list `ys`

-- what `partition_point` gives at a test that computes `p`
abbrev pub PointClause : {X F : Type 0} → Mut F (Bor X × Unit {0}) Bool → F → List X → ℕ → Type 0
PointClause {X} g f xs i = (q : X → Bool) → ComputesKey g q f → IsPartitionedBy q xs → IsPartitionPoint (λ y. q y ≡ true) (λ y. q y ≡ false) xs i

-- the test `n(x) <= t`
pub point_until : {X : Type 0} (n : X → ℕ) (t : ℕ) {F : Type 0} {g : Mut F (Bor X × Unit {0}) Bool} {f : F} (xs ys : List X) (i : ℕ) → xs ≡ ys → IsNonDecreasingBy n ys → PointClause g f xs i
    → ((a : Bor X × Unit {0}) (r : Bool) (f' : F) → Called g f a r f' → (r ≡ leb (n a.0.now) t) × (f' ≡ f)) → IsPartitionPoint (λ y. leb (n y) t ≡ true) (λ y. leb (n y) t ≡ false) ys i
point_until n t xs ys i same up clause calls =
    subst (λ zs. IsPartitionPoint (λ y. leb (n y) t ≡ true) (λ y. leb (n y) t ≡ false) zs i) same
    (IsPartitionPoint-from_clause (λ y. leb (n y) t) xs i clause (IsPartitionedBy-leb n xs t (subst (λ zs. IsNonDecreasingBy n zs) (sym same) up)) calls)

-- the test `n(x) < t`
pub point_before : {X : Type 0} (n : X → ℕ) (t : ℕ) {F : Type 0} {g : Mut F (Bor X × Unit {0}) Bool} {f : F} (xs ys : List X) (i : ℕ) → xs ≡ ys → IsNonDecreasingBy n ys → PointClause g f xs i
    → ((a : Bor X × Unit {0}) (r : Bool) (f' : F) → Called g f a r f' → (r ≡ ltb (n a.0.now) t) × (f' ≡ f)) → IsPartitionPoint (λ y. ltb (n y) t ≡ true) (λ y. ltb (n y) t ≡ false) ys i
point_before n t xs ys i same up clause calls =
    subst (λ zs. IsPartitionPoint (λ y. ltb (n y) t ≡ true) (λ y. ltb (n y) t ≡ false) zs i) same
    (IsPartitionPoint-from_clause (λ y. ltb (n y) t) xs i clause (IsPartitionedBy-ltb n xs t (subst (λ zs. IsNonDecreasingBy n zs) (sym same) up)) calls)

-- the element that is found there is the first of the others
pub others_from : {X : Type 0} (xs ys : List X) (i : ℕ) (x : X) → xs ≡ ys → i < length xs → x ≡ get_or xs i x → drop i ys ≡ x ∷ drop (i + 1) ys
others_from xs ys i x same within is =
    subst (λ zs. drop i zs ≡ x ∷ drop (i + 1) zs) same (drop_more xs i x within ∙ ap (λ y. y ∷ drop (i + 1) xs) (sym is))

-- and fails the test
pub fails_at : {X : Type 0} (P : X → Type 0) (xs ys : List X) (i : ℕ) (x : X) → xs ≡ ys → i < length xs → x ≡ get_or xs i x → AllWithin P ys i (length ys) → P x
fails_at P xs ys i x same within is all =
    subst P (sym is) (subst (λ zs. AllWithin P zs i (length zs)) (sym same) all i x (omega arith) within)
