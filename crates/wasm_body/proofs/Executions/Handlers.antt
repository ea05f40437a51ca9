-- Legacy `try` constructs whose bodies and handlers do the same.
use Rattle.std.proofs.Common.{◌≡◌, ℕ, suc, ◌≤◌, List, ◌∷◌, length, Bool, true, false, Some, None, refl, sym, ap, ◌∙◌, arith}
use Rattle.wasm_body.specs.Control.{Try, Catch, CatchAll, End, Delegate, Marked, with_control}
use Rattle.wasm_body.specs.Machine.{Outcome, Taken, Run, then, Tags, Found, seek, seek_at, Part, Label, label, handler, catches, has, try_responds}
use Rattle.wasm_body.proofs.Executions.Same.{Bound, the_count, Same, SameOutside, Agree}
use Rattle.wasm_body.proofs.Executions.Steps.{reacts}
use Rattle.wasm_body.proofs.Executions.Constructs.{Closes, exit_outside, passing_outside}

-- what a `try` does with an exception that leaves its body, by the clause that was found
abbrev try_reacts : {A : Type 0} → Bound A → (turns count : ℕ) → Tags → List Outcome → A → List (Marked A) → List (Label A) → Found A → Run A
try_reacts β u n tags outcomes a x ls f = reacts β u n tags (label a Try x) ls outcomes (try_responds tags f)

-- The clauses from c on, after i others, do the same with an exception as those from c' on.
abbrev pub Handled : {A : Type 0} → A → (t i : ℕ) → (x c : List (Marked A)) → List (Label A) → (x' c' : List (Marked A)) → List (Label A) → Type 0
Handled {A = A} a t i x c ls x' c' ls' = (β : Bound A) (u n m : ℕ) (tags : Tags) (outcomes : List Outcome) → u ≤ t → length c ≤ n → length c' ≤ m
    → try_reacts β u n tags outcomes a x ls (seek (catches tags) 0 i c) ≡ try_reacts the_count u m tags outcomes a x' ls' (seek (catches tags) 0 i c')

-- the label of the body
pub try_outside : {A : Type 0} → (a : A) (t : ℕ) (x x' c c' r r' : List (Marked A)) (labels labels' : List (Label A))
    → Closes x c r → Closes x' c' r'
    → ((tags : Tags) → seek (catches tags) 0 0 x ≡ seek (catches tags) 0 0 c)
    → ((tags : Tags) → seek (catches tags) 0 0 x' ≡ seek (catches tags) 0 0 c')
    → Agree t r labels r' labels' → Handled a t 0 x c labels x' c' labels'
    → SameOutside t (length c) (length c') (label a Try x ∷ labels) (label a Try x' ∷ labels')
try_outside a t x x' c c' r r' ls ls' cl cl' q q' agree h =
    exit_outside a Try None t x x' c c' r r' ls ls' (λ next on l ks o. refl) cl cl' agree λ β u n m g o hu hn hm.
    ap (try_reacts β u n g o a x ls) (q g) ∙ (h β u n m g o hu hn hm ∙ ap (try_reacts the_count u m g o a x' ls') (sym (q' g)))

-- the label of a handler
pub handler_outside : {A : Type 0}
    → (a : A) (tags : Tags) (t : ℕ) (x x' c c' r r' : List (Marked A)) (labels labels' : List (Label A)) → Closes x c r
    → Closes x' c' r' → Agree t r labels r' labels'
    → SameOutside t (length c) (length c') (handler (label a Try x) tags ∷ labels) (handler (label a Try x') tags ∷ labels')
handler_outside a g t x x' c c' r r' ls ls' cl cl' agree =
    passing_outside a Try (Some g) t x x' c c' r r' ls ls' (λ next on l ks o. refl) (λ s y. refl) cl cl' agree

-- ---- the clauses, from the last on

pub ended_handled : {A : Type 0} → (a e e' : A) (t i : ℕ) (x x' r r' : List (Marked A)) (labels labels' : List (Label A))
    → SameOutside t (length r) (length r') labels labels'
    → Handled a t i x (with_control e End ∷ r) labels x' (with_control e' End ∷ r') labels'
ended_handled a e e' t i x x' r r' ls ls' env β u n m g o hu hn hm = env.raises β u n m g o 0 hu (omega arith) (omega arith)

pub delegate_handled : {A : Type 0} → (a e e' : A) (k t i : ℕ) (x x' r r' : List (Marked A)) (labels labels' : List (Label A))
    → SameOutside t (length r) (length r') labels labels'
    → Handled a t i x (with_control e (Delegate k) ∷ r) labels x' (with_control e' (Delegate k) ∷ r') labels'
delegate_handled a e e' k t i x x' r r' ls ls' env β u n m g o hu hn hm = env.raises β u n m g o k hu (omega arith) (omega arith)

-- a `catch`, whose handler begins at c, with the clauses from d on after it
pub catch_handled : {A : Type 0} → (a h h' : A) (tag t i : ℕ) (x x' c c' d d' : List (Marked A)) (labels labels' : List (Label A))
    → length d ≤ length c → length d' ≤ length c'
    → ((tags : Tags) (j : ℕ) → seek (catches tags) 0 j c ≡ seek (catches tags) 0 j d)
    → ((tags : Tags) (j : ℕ) → seek (catches tags) 0 j c' ≡ seek (catches tags) 0 j d')
    → ((tags : Tags) → Same t c (handler (label a Try x) tags ∷ labels) c' (handler (label a Try x') tags ∷ labels'))
    → Handled a t (suc i) x d labels x' d' labels'
    → Handled a t i x (with_control h (Catch tag) ∷ c) labels x' (with_control h' (Catch tag) ∷ c') labels'
catch_handled {A = A} a h h' tag t i x x' c c' d d' ls ls' ld ld' q q' s next β u n m g o hu hn hm = by_tag (has g tag)
  where
    by_tag : (y : Bool)
        → try_reacts β u n g o a x ls (seek_at Part 0 y i (with_control h (Catch tag) ∷ c) (λ d j. seek (catches g) d j c))
        ≡ try_reacts the_count u m g o a x' ls' (seek_at Part 0 y i (with_control h' (Catch tag) ∷ c') (λ d j. seek (catches g) d j c'))
    by_tag true = ap (then (Taken a i (Some tag))) (s g β u n m o hu (omega arith) (omega arith))
    by_tag false =
        ap (try_reacts β u n g o a x ls) (q g (suc i))
        ∙ (next β u n m g o hu (omega arith) (omega arith) ∙ ap (try_reacts the_count u m g o a x' ls') (sym (q' g (suc i))))

pub catch_all_handled : {A : Type 0} → (a h h' : A) (t i : ℕ) (x x' c c' : List (Marked A)) (labels labels' : List (Label A))
    → ((tags : Tags) → Same t c (handler (label a Try x) tags ∷ labels) c' (handler (label a Try x') tags ∷ labels'))
    → Handled a t i x (with_control h CatchAll ∷ c) labels x' (with_control h' CatchAll ∷ c') labels'
catch_all_handled a h h' t i x x' c c' ls ls' s β u n m g o hu hn hm = ap (then (Taken a i None)) (s g β u n m o hu (omega arith) (omega arith))
