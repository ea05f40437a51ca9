-- One operation more.
use Rattle.std.proofs.Common.{◌≡◌, ℕ, Bool, true, false, ◌||◌, List, [], ◌∷◌, ◌++◌, Option, Some, None, option_map, option_and_then, ◌⊎◌, inl, inr, length, refl, sym, ap, ◌∙◌, subst, append_assoc}
use Rattle.std.proofs.lemmas.List.{append-nil, nil_from_length}
use Rattle.std.proofs.lemmas.Option.{same_Some}
use Rattle.std.specs.List.{list_any}
use Rattle.std.proofs.lemmas.List.Folds.{list_any-append}
use Rattle.dwarf_expressions.specs.Expressions.{BeginWith}
use Rattle.dwarf_expressions.specs.Moving.{expression_all_of, WritesOfExpression}

pub begin_more : {A : Type 0} (B : List ℕ → A → List ℕ → Type 0) (bytes next rest : List ℕ) (xs : List A) (x : A) → BeginWith B bytes xs next → B next x rest → BeginWith B bytes (xs ++ x ∷ []) rest
begin_more B bytes next rest [] x all one = (rest, subst (λ (l : List ℕ). B l x rest) (sym all) one, refl)
begin_more B bytes next rest (y ∷ xs) x all one = (all.0, all.1, begin_more B all.0 next rest xs x all.2 one)

or_none : (b : Bool) → (b || false) ≡ b
or_none true = refl
or_none false = refl

-- whether one of them passes a test
pub any_more : {A : Type 0} (p : A → Bool) (xs : List A) (x : A) (all one : Bool) → all ≡ list_any p xs → one ≡ p x → (all || one) ≡ list_any p (xs ++ x ∷ [])
any_more p xs x all one e f =
    ap (λ (b : Bool). b || one) e ∙ (ap (λ (b : Bool). list_any p xs || b) (f ∙ sym (or_none (p x))) ∙ sym (list_any-append p xs (x ∷ [])))

-- ---- two ways to read bytes are one

pub record IsOneWay {A : Type 0} (B : List ℕ → A → List ℕ → Type 0) : Type 0 where
  pub same : (bytes : List ℕ) (x y : A) (n m : List ℕ) → B bytes x n → B bytes y m → (x ≡ y) × (n ≡ m)
  pub some : (x : A) (n : List ℕ) → B [] x n → ⊥

-- what all bytes are read as begins with what some are read as
pub all_begin : {A : Type 0} (B : List ℕ → A → List ℕ → Type 0) → IsOneWay B → (bytes next : List ℕ) (xs all : List A) → BeginWith B bytes xs next → BeginWith B bytes all []
    → (more : List A) × (all ≡ xs ++ more) × BeginWith B next more []
all_begin B one bytes next [] all p q = (all, refl, subst (λ (l : List ℕ). BeginWith B l all []) p q)
all_begin B one bytes next (x ∷ xs) [] p q = absurd (one.some x p.0 (subst (λ (l : List ℕ). B l x p.0) q p.1))
all_begin B one bytes next (x ∷ xs) (y ∷ all) p q =
    let s = one.same bytes x y p.0 q.0 p.1 q.1 in
    let later = all_begin B one p.0 next xs all p.2 (subst (λ (l : List ℕ). BeginWith B l all []) (sym s.1) q.2) in
    (later.0, ap (λ z. z ∷ all) (sym s.0) ∙ ap (λ l. x ∷ l) later.1, later.2)

-- the bytes that are left begin with the next of all
pub next_of_all : {A : Type 0} (B : List ℕ → A → List ℕ → Type 0) → IsOneWay B → (bytes next rest : List ℕ) (xs all : List A) (x : A) → BeginWith B bytes xs next → B next x rest → BeginWith B bytes all []
    → (more : List A) × (all ≡ xs ++ x ∷ more)
next_of_all {A} B one bytes next rest xs all x p here q =
    let left = all_begin B one bytes next xs all p q in
    let first = first_is left.0 left.2 in
    (first.0, left.1 ∙ ap (λ l. xs ++ l) first.1)
  where
    first_is : (more : List A) → BeginWith B next more [] → (others : List A) × (more ≡ x ∷ others)
    first_is [] r = absurd (one.some x rest (subst (λ (l : List ℕ). B l x rest) r here))
    first_is (y ∷ others) r = (others, ap (λ z. z ∷ others) (one.same next y x r.0 rest r.1 here).0)

-- all bytes are read as those
pub all_are : {A : Type 0} (B : List ℕ → A → List ℕ → Type 0) → IsOneWay B → (bytes : List ℕ) (xs all : List A) → BeginWith B bytes xs [] → BeginWith B bytes all [] → all ≡ xs
all_are {A} B one bytes xs all p q =
    let left = all_begin B one bytes [] xs all p q in
    left.1 ∙ (ap (λ l. xs ++ l) (none_left left.0 left.2) ∙ append-nil xs)
  where
    none_left : (more : List A) → BeginWith B [] more [] → more ≡ []
    none_left [] r = refl
    none_left (x ∷ more) r = absurd (one.some x r.0 r.1)

-- ---- what is turned into others

abbrev with_others : {C : Type 0} → (others : Option (List C)) → C → Option (List C)
with_others others b = option_map (λ bs. b ∷ bs) others

more_of : {C : Type 0} (first : Option C) (others all : Option (List C)) (ys : List C) (y : C) → option_and_then (with_others others) first ≡ Some ys
    → ((bs : List C) → others ≡ Some bs → all ≡ Some (bs ++ y ∷ [])) → option_and_then (with_others all) first ≡ Some (ys ++ y ∷ [])
more_of None others all ys y e more = absurd cc
more_of (Some b) None all ys y e more = absurd cc
more_of (Some b) (Some bs) all ys y e more =
    let same : b ∷ bs ≡ ys = same_Some (b ∷ bs) ys e in
    rw (more bs refl, ← same) refl

pub all_more : {A C : Type 0} (f : A → Option C) (xs : List A) (ys : List C) (x : A) (y : C) → expression_all_of f xs ≡ Some ys → f x ≡ Some y → expression_all_of f (xs ++ x ∷ []) ≡ Some (ys ++ y ∷ [])
all_more f [] ys x y p q = let none : [] ≡ ys = same_Some [] ys p in rw (q, ← none) refl
all_more f (a ∷ xs) ys x y p q = more_of (f a) (expression_all_of f xs) (expression_all_of f (xs ++ x ∷ [])) ys y p (λ bs e. all_more f xs bs x y e q)

no_others : {C : Type 0} (first : Option C) → option_and_then (with_others None) first ≡ None
no_others None = refl
no_others (Some b) = refl

pub all_none : {A C : Type 0} (f : A → Option C) (xs more : List A) (x : A) → f x ≡ None → expression_all_of f (xs ++ x ∷ more) ≡ None
all_none f [] more x q = rw q refl
all_none f (a ∷ xs) more x q = rw (all_none f xs more x q) (no_others (f a))

-- ---- what is written

pub writes_none : {A : Type 0} (B : List ℕ → A → List ℕ → Type 0) → WritesOfExpression B [] []
writes_none B following = refl

pub writes_more : {A : Type 0} (B : List ℕ → A → List ℕ → Type 0) (text one : List ℕ) (xs : List A) (x : A) → WritesOfExpression B text xs → ((following : List ℕ) → B (one ++ following) x following) → WritesOfExpression B (text ++ one) (xs ++ x ∷ [])
writes_more B text one xs x all reads following =
    subst (λ (l : List ℕ). BeginWith B l (xs ++ x ∷ []) following) (sym (append_assoc text one following))
    (begin_more B (text ++ (one ++ following)) (one ++ following) following xs x (all (one ++ following)) (reads following))

-- What is left of bytes that are read as all of these is empty, or begins with one of them.
pub left_of_all : {A : Type 0} (B : List ℕ → A → List ℕ → Type 0) → IsOneWay B → (bytes next : List ℕ) (xs all : List A) → BeginWith B bytes xs next → BeginWith B bytes all []
    → (next ≡ []) ⊎ ((x : A) × (rest : List ℕ) × B next x rest × ((others : List A) × (all ≡ xs ++ x ∷ others)))
left_of_all {A} B one bytes next xs all p q = let left = all_begin B one bytes next xs all p q in begins left.0 left.1 left.2
  where
    begins : (more : List A) → all ≡ xs ++ more → BeginWith B next more [] → (next ≡ []) ⊎ ((x : A) × (rest : List ℕ) × B next x rest × ((others : List A) × (all ≡ xs ++ x ∷ others)))
    begins [] e r = inl r
    begins (x ∷ more) e r = inr (x, r.0, r.1, (more, e))

pub is_empty : (bytes : List ℕ) → length bytes ≡ 0 → bytes ≡ []
is_empty = nil_from_length
