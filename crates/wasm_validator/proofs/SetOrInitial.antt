-- Locals that are initialised where the function begins, and those that were set.
use Rattle.std.proofs.Common.{not, ◌≡◌, ℕ, Bool, true, false, List, [], ◌∷◌, ◌++◌, refl, sym, ap, ◌∙◌}
use Rattle.std.specs.Prelude.{◌||◌, cond, nat_eq}
use Rattle.std.proofs.lemmas.List.Folds.{list_any-append}
use Rattle.wasm_body.specs.Validity.{set_locals}
use Rattle.wasm_typing.specs.Contexts.{contains}

or_true : (b : Bool) → (b || true) ≡ true
or_true true = refl
or_true false = refl

or_false : (b : Bool) → (b || false) ≡ b
or_false true = refl
or_false false = refl

pub contains_initial : (n : ℕ) (set initial : List ℕ) (found : Bool) → contains n initial ≡ found → found ≡ true → contains n (set ++ initial) ≡ found
contains_initial n set initial found e h =
    list_any-append (nat_eq n) set initial ∙ (ap (λ b. contains n set || b) (e ∙ h) ∙ (or_true (contains n set) ∙ sym h))

pub contains_set : (n : ℕ) (set initial : List ℕ) (found in_set : Bool) → contains n initial ≡ found → found ≡ false → contains n set ≡ in_set
    → contains n (set ++ initial) ≡ in_set
contains_set n set initial found in_set e h f =
    list_any-append (nat_eq n) set initial ∙ (ap (λ b. contains n set || b) (e ∙ h) ∙ (or_false (contains n set) ∙ f))

set_local : (n : ℕ) (ls : List ℕ) (is_set : Bool) → contains n ls ≡ is_set → set_locals (n ∷ []) ls ≡ cond is_set ls (n ∷ ls)
set_local n ls true h = ap (λ b. cond (not b) (n ∷ []) [] ++ ls) h
set_local n ls false h = ap (λ b. cond (not b) (n ∷ []) [] ++ ls) h

-- a local that is initialised from the begin
pub initial_stays : (n : ℕ) (set initial : List ℕ) → contains n initial ≡ true → set ++ initial ≡ set_locals (n ∷ []) (set ++ initial)
initial_stays n set initial h = sym (set_local n (set ++ initial) true (contains_initial n set initial true h refl))

both : (n : ℕ) (set initial : List ℕ) (is_set : Bool) → cond is_set set (n ∷ set) ++ initial ≡ cond is_set (set ++ initial) (n ∷ (set ++ initial))
both n set initial true = refl
both n set initial false = refl

-- another local
pub set_among : (n : ℕ) (set initial : List ℕ) → contains n initial ≡ false → set_locals (n ∷ []) set ++ initial ≡ set_locals (n ∷ []) (set ++ initial)
set_among n set initial h =
    let all = contains_set n set initial false (contains n set) h refl refl in
    ap (λ ls. ls ++ initial) (set_local n set (contains n set) refl)
    ∙ (both n set initial (contains n set) ∙ sym (set_local n (set ++ initial) (contains n set) all))
