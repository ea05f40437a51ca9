-- Results of several steps: the steps that a result came from, and steps with equal results.
use Rattle.std.proofs.Common.{◌≡◌, suc, length, List, [], ◌∷◌, Result, Ok, Err, refl, sym, ap, ◌∙◌}
use Rattle.std.specs.List.{AllByRecursion}
use Rattle.wasm_numbers.specs.Results.{◌>>=◌, each, infallible}

-- The value of the first step, and that the other steps gave q.
pub bound : {A P E : Type 0} → (r : Result A E) (next : A → Result P E) (q : P) → (r >>= next) ≡ Ok q → (x : A) × (r ≡ Ok x) × (next x ≡ Ok q)
bound (Ok x) next q e = (x, refl, e)
bound (Err f) next q e = absurd (cc)

-- the same, after one, two and three steps with equal results

pub after_one : {A C E : Type 0} → (r s : Result A E) (next : A → Result C E) → r ≡ s → (r >>= next) ≡ (s >>= next)
after_one r s next e = ap (λ t. t >>= next) e

pub after_two : {A B C E : Type 0} → (r s : Result A E) (t u : Result B E) (next : A → B → Result C E) → r ≡ s → t ≡ u
    → (r >>= λ a. t >>= λ b. next a b) ≡ (s >>= λ a. u >>= λ b. next a b)
after_two r s t u next e d = ap (λ x. x >>= λ a. t >>= λ b. next a b) e ∙ ap (λ x. s >>= λ a. x >>= λ b. next a b) d

pub after_three : {A B C D E : Type 0}
    → (r s : Result A E) (t u : Result B E) (v w : Result C E) (next : A → B → C → Result D E) → r ≡ s → t ≡ u → v ≡ w
    → (r >>= λ a. t >>= λ b. v >>= λ c. next a b c) ≡ (s >>= λ a. u >>= λ b. w >>= λ c. next a b c)
after_three r s t u v w next e d c =
    ap (λ x. x >>= λ a. t >>= λ b. v >>= λ c. next a b c) e
    ∙ (ap (λ x. s >>= λ a. x >>= λ b. v >>= λ c. next a b c) d ∙ ap (λ x. s >>= λ a. u >>= λ b. x >>= λ c. next a b c) c)

-- ---- lists of results

-- g has the same result for the value of f at a as h has for a
abbrev pub Leads : {A B C E F : Type 0} → (A → Result B E) → (B → Result C F) → (A → Result C F) → A → Type 0
Leads {B = B} f g h a = (b : B) → f a ≡ Ok b → g b ≡ h a

pub each_leads : {A B C E F : Type 0} → (f : A → Result B E) (g : B → Result C F) (h : A → Result C F) (xs : List A)
    → AllByRecursion (Leads f g h) xs → Leads (each f) (each g) (each h) xs
each_leads f g h [] a q e = let made : [] ≡ q = cc e in ap (each g) (sym made)
each_leads f g h (x ∷ xs) a q e =
    let first = bound (f x) (λ y. each f xs >>= λ ys. Ok (y ∷ ys)) q e in
    let others = bound (each f xs) (λ ys. Ok (first.0 ∷ ys)) q first.2 in
    let made : first.0 ∷ others.0 ≡ q = cc others.2 in
    ap (each g) (sym made)
    ∙ after_two (g first.0) (h x) (each g others.0) (each h xs) (λ b bs. Ok (b ∷ bs))
    (a.0 first.0 first.1) (each_leads f g h xs a.1 others.0 others.1)

pub length-each : {A B E : Type 0} → (f : A → Result B E) (xs : List A) (ys : List B) → each f xs ≡ Ok ys → length ys ≡ length xs
length-each f [] ys e = let made : [] ≡ ys = cc e in ap length (sym made)
length-each f (x ∷ xs) ys e =
    let first = bound (f x) (λ y. each f xs >>= λ zs. Ok (y ∷ zs)) ys e in
    let others = bound (each f xs) (λ zs. Ok (first.0 ∷ zs)) ys first.2 in
    let made : first.0 ∷ others.0 ≡ ys = cc others.2 in ap length (sym made) ∙ ap suc (length-each f xs others.0 others.1)

pub each-ok : {A E : Type 0} → (f : A → Result A E) → ((x : A) → f x ≡ Ok x) → (xs : List A) → each f xs ≡ Ok xs
each-ok f h [] = refl
each-ok f h (x ∷ xs) = after_two (f x) (Ok x) (each f xs) (Ok xs) (λ y ys. Ok (y ∷ ys)) (h x) (each-ok f h xs)

pub all_of : {A : Type 0} → (P : A → Type 0) → ((x : A) → P x) → (xs : List A) → AllByRecursion P xs
all_of P h [] = tt
all_of P h (x ∷ xs) = (h x, all_of P h xs)

-- a result that can't be a fault
pub ok-infallible : {A : Type 0} → (r : Result A ⊥) → r ≡ Ok (infallible r)
ok-infallible (Ok x) = refl
ok-infallible (Err e) = absurd e
