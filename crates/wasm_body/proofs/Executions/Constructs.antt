-- Constructs whose sequences do the same.
use Rattle.std.proofs.Common.{◌≡◌, ℕ, zero, suc, ◌≤◌, List, [], ◌∷◌, length, Bool, true, false, cond, Option, None, refl, sym, ap, ◌∙◌, arith}
use Rattle.wasm_body.specs.Control.{Clause, Construct, Block, Loop, TryTable, If, Try, Opens, Marked, with_control}
use Rattle.wasm_body.specs.SourceTree.{Wrapper, OfBlock, OfLoop, OfTryTable, construct_of}
use Rattle.wasm_body.specs.Machine.{Outcome, Executed, Taken, then, Tags, seek, after_closer, Label, label, From, Response, Passes, Jumps, arrive, branch, takes, jump, responds_as, enter, other_way, is_else}
use Rattle.wasm_body.proofs.Executions.Same.{Bound, the_count, again, go, bounded_run-go, Same, SameOutside, Agree}
use Rattle.wasm_body.proofs.Executions.Steps.{weaken, step_same, way_same, cond_same, reacts, push}

-- A construct whose inside begins at x, and whose first part or closer is at c: r is the place after its closer.
pub record Closes {A : Type 0} (x c r : List (Marked A)) : Type 0 where
  pub following : after_closer x ≡ r
  pub shorter : length r ≤ length c

-- ---- labels of constructs that a branch leaves

abbrev label_of : {A : Type 0} → A → Construct → Option Tags → List (Marked A) → Label A
label_of a k caught x = record { opener = a; construct = k; following = x; caught = caught }

-- A branch to a label of the construct goes to the place after the closer.
abbrev Exits : Type 0 → Construct → Type 0
Exits A k = (next on : From A) (l : Label A) (labels : List (Label A)) (outcomes : List Outcome)
    → arrive next on k l labels outcomes ≡ on (after_closer l.following) labels outcomes

-- if an exception that reaches the label does the same
pub exit_outside : {A : Type 0}
    → (a : A) (k : Construct) (caught : Option Tags) (t : ℕ) (x x' c c' r r' : List (Marked A)) (labels labels' : List (Label A))
    → Exits A k
    → Closes x c r → Closes x' c' r' → Agree t r labels r' labels'
    → ((β : Bound A) (u n m : ℕ) (tags : Tags) (outcomes : List Outcome) → u ≤ t → length c ≤ n → length c' ≤ m
    → reacts β u n tags (label_of a k caught x) labels outcomes (responds_as tags k caught x)
    ≡ reacts the_count u m tags (label_of a k caught x') labels' outcomes (responds_as tags k caught x'))
    → SameOutside t (length c) (length c') (label_of a k caught x ∷ labels) (label_of a k caught x' ∷ labels')
exit_outside a k caught t x x' c c' r r' ls ls' exits cl cl' agree own_raise =
    push t (length c) (length c') (label_of a k caught x) (label_of a k caught x') ls ls'
    (weaken t t (length r) (length r') (length c) (length c') ls ls' (omega arith) cl.shorter cl'.shorter agree.outside)
    (λ β u n m o hu hn hm.
    exits (again β u) (go β u n) (label_of a k caught x) ls o
    ∙ (ap (λ p. go β u n p ls o) cl.following
    ∙ (agree.same β u n m o hu (omega (arith, cl.shorter)) (omega (arith, cl'.shorter))
    ∙ (ap (λ p. go the_count u m p ls' o) (sym cl'.following) ∙ sym (exits (again the_count u) (go the_count u m) (label_of a k caught x') ls' o)))))
    own_raise refl

-- if the construct passes exceptions on
pub passing_outside : {A : Type 0}
    → (a : A) (k : Construct) (caught : Option Tags) (t : ℕ) (x x' c c' r r' : List (Marked A)) (labels labels' : List (Label A))
    → Exits A k
    → ((tags : Tags) (y : List (Marked A)) → responds_as tags k caught y ≡ Passes)
    → Closes x c r → Closes x' c' r' → Agree t r labels r' labels'
    → SameOutside t (length c) (length c') (label_of a k caught x ∷ labels) (label_of a k caught x' ∷ labels')
passing_outside a k caught t x x' c c' r r' ls ls' exits passes cl cl' agree =
    exit_outside a k caught t x x' c c' r r' ls ls' exits cl cl' agree λ β u n m s o hu hn hm.
    ap (reacts β u n s (label_of a k caught x) ls o) (passes s x)
    ∙ (agree.outside.raises β u n m s o 0 hu (omega (arith, cl.shorter)) (omega (arith, cl'.shorter))
    ∙ sym (ap (reacts the_count u m s (label_of a k caught x') ls' o) (passes s x')))

-- the clauses of a `try_table`
jump_same : {A : Type 0}
    → (cs : List Clause) (i : ℕ) (tags : Tags) (l l' : Label A) (β : Bound A) (t u n m b b' : ℕ) (outcomes : List Outcome) (labels labels' : List (Label A))
    → l.opener ≡ l'.opener → SameOutside t b b' labels labels' → u ≤ t → b ≤ n → b' ≤ m
    → reacts β u n tags l labels outcomes (jump tags i cs) ≡ reacts the_count u m tags l' labels' outcomes (jump tags i cs)
jump_same [] i s l l' β t u n m b b' o ls ls' a e hu hn hm = e.raises β u n m s o 0 hu hn hm
jump_same {A = A} (c ∷ cs) i s l l' β t u n m b b' o ls ls' a e hu hn hm =
    by_clause (takes s c.tag) (jump s (suc i) cs) (jump s (suc i) cs) (jump_same cs (suc i) s l l' β t u n m b b' o ls ls' a e hu hn hm)
  where
    by_clause : (y : Bool) (q q' : Response A) → reacts β u n s l ls o q ≡ reacts the_count u m s l' ls' o q'
        → reacts β u n s l ls o (cond y (Jumps i c.tag c.label) q) ≡ reacts the_count u m s l' ls' o (cond y (Jumps i c.tag c.label) q')
    by_clause true q q' h =
        ap (then (Taken l.opener i c.tag)) (e.branches β u n m c.label o hu hn hm)
        ∙ ap (λ x. then (Taken x i c.tag) (branch (again the_count u) (go the_count u m) c.label ls' o)) a
    by_clause false q q' h = h

-- ---- openers that ask for no outcome

abbrev TakesNoOutcome : Construct → Type 0
TakesNoOutcome If = ⊥
TakesNoOutcome _ = Unit {0}

enters : {A : Type 0} → (k : Construct) → TakesNoOutcome k
    → (β : Bound A) (u n : ℕ) (a : A) (x : List (Marked A)) (labels : List (Label A)) (outcomes : List Outcome)
    → enter (go β u n) k a x labels outcomes ≡ then (Executed a) (go β u n x (label a k x ∷ labels) outcomes)
enters If h β u n a x ls o = absurd h
enters _ h β u n a x ls o = refl

-- the same from the place after an opener
abbrev SameInside : {A : Type 0} → A → Construct → ℕ → List (Marked A) → List (Label A) → List (Marked A) → List (Label A) → Type 0
SameInside a k t x ls x' ls' = Same t x (label a k x ∷ ls) x' (label a k x' ∷ ls')

opened_same : {A : Type 0} → (k : Construct) → TakesNoOutcome k
    → (a : A) (t : ℕ) (x x' : List (Marked A)) (labels labels' : List (Label A)) → SameInside a k t x labels x' labels'
    → Same t (with_control a (Opens k) ∷ x) labels (with_control a (Opens k) ∷ x') labels'
opened_same k h a t x x' ls ls' s =
    step_same (with_control a (Opens k)) (with_control a (Opens k)) t x x' ls ls' λ β u n m o hu hn hm.
    enters k h β u n a x ls o ∙ (ap (then (Executed a)) (s β u n m o hu hn hm) ∙ sym (enters k h the_count u m a x' ls' o))

pub try_same : {A : Type 0} → (a : A) (t : ℕ) (x x' : List (Marked A)) (labels labels' : List (Label A))
    → SameInside a Try t x labels x' labels'
    → Same t (with_control a (Opens Try) ∷ x) labels (with_control a (Opens Try) ∷ x') labels'
try_same = opened_same Try tt

-- ---- blocks, loops and `try_table`

loop_outside : {A : Type 0} → (a : A) (t v b b' : ℕ) (x x' : List (Marked A)) (labels labels' : List (Label A)) → v ≤ t
    → SameOutside t b b' labels labels'
    → ((β : Bound A) (u : ℕ) (outcomes : List Outcome) → u ≤ v
    → again β u x (label a Loop x ∷ labels) outcomes ≡ again the_count u x' (label a Loop x' ∷ labels') outcomes)
    → SameOutside v b b' (label a Loop x ∷ labels) (label a Loop x' ∷ labels')
loop_outside a t v b b' x x' ls ls' hv e h =
    push v b b' (label a Loop x) (label a Loop x') ls ls' (weaken t v b b' b b' ls ls' hv (omega arith) (omega arith) e)
    (λ β u n m o hu hn hm. h β u o hu) (λ β u n m s o hu hn hm. e.raises β u n m s o 0 (omega arith) hn hm) refl

-- the turns of a loop that are paid: its inside does the same with fewer turns left
turns_same : {A : Type 0} → (a : A) (t b b' : ℕ) (x x' : List (Marked A)) (labels labels' : List (Label A))
    → SameOutside t b b' labels labels'
    → ((v : ℕ) → v ≤ t → SameOutside v b b' (label a Loop x ∷ labels) (label a Loop x' ∷ labels') → SameInside a Loop v x labels x' labels')
    → (v : ℕ) → v ≤ t → (β : Bound A) (u : ℕ) (outcomes : List Outcome) → u ≤ v
    → again β u x (label a Loop x ∷ labels) outcomes ≡ again the_count u x' (label a Loop x' ∷ labels') outcomes
turns_same a t b b' x x' ls ls' e inside v hv β zero o hu = refl
turns_same a t b b' x x' ls ls' e inside zero hv β (suc u) o hu = absurd (omega arith)
turns_same a t b b' x x' ls ls' e inside (suc v) hv β (suc u) o hu =
    bounded_run-go β u x (label a Loop x ∷ ls) o
    ∙ (inside v (omega arith) (loop_outside a t v b b' x x' ls ls' (omega arith) e (turns_same a t b b' x x' ls ls' e inside v (omega arith)))
    β u (β.of x) (length x') o (omega arith) (β.suffices x) (omega arith)
    ∙ sym (bounded_run-go the_count u x' (label a Loop x' ∷ ls') o))

wrapper_outside : {A : Type 0}
    → (w : Wrapper) (a : A) (t : ℕ) (x x' c c' r r' : List (Marked A)) (labels labels' : List (Label A)) → Closes x c r
    → Closes x' c' r' → Agree t r labels r' labels'
    → ((v : ℕ) → v ≤ t → SameOutside v (length c) (length c') (label a (construct_of w) x ∷ labels) (label a (construct_of w) x' ∷ labels')
    → SameInside a (construct_of w) v x labels x' labels')
    → SameOutside t (length c) (length c') (label a (construct_of w) x ∷ labels) (label a (construct_of w) x' ∷ labels')
wrapper_outside OfBlock a t x x' c c' r r' ls ls' cl cl' agree inside =
    passing_outside a Block None t x x' c c' r r' ls ls' (λ next on l ks o. refl) (λ s y. refl) cl cl' agree
wrapper_outside OfLoop a t x x' c c' r r' ls ls' cl cl' agree inside =
    let e = weaken t t (length r) (length r') (length c) (length c') ls ls' (omega arith) cl.shorter cl'.shorter agree.outside in
    loop_outside a t t (length c) (length c') x x' ls ls' (omega arith) e
    (turns_same a t (length c) (length c') x x' ls ls' e inside t (omega arith))
wrapper_outside (OfTryTable cs) a t x x' c c' r r' ls ls' cl cl' agree inside =
    exit_outside a (TryTable cs) None t x x' c c' r r' ls ls' (λ next on l ks o. refl) cl cl' agree λ β u n m s o hu hn hm.
    jump_same cs 0 s (label a (TryTable cs) x) (label a (TryTable cs) x') β t u n m (length r) (length r') o ls ls' refl agree.outside hu
    (omega (arith, cl.shorter)) (omega (arith, cl'.shorter))

wrapper_takes_none : (w : Wrapper) → TakesNoOutcome (construct_of w)
wrapper_takes_none OfBlock = tt
wrapper_takes_none OfLoop = tt
wrapper_takes_none (OfTryTable cs) = tt

pub wrapped_same : {A : Type 0}
    → (w : Wrapper) (a : A) (t : ℕ) (x x' c c' r r' : List (Marked A)) (labels labels' : List (Label A)) → Closes x c r
    → Closes x' c' r' → Agree t r labels r' labels'
    → ((v : ℕ) → v ≤ t → SameOutside v (length c) (length c') (label a (construct_of w) x ∷ labels) (label a (construct_of w) x' ∷ labels')
    → SameInside a (construct_of w) v x labels x' labels')
    → Same t (with_control a (Opens (construct_of w)) ∷ x) labels (with_control a (Opens (construct_of w)) ∷ x') labels'
wrapped_same w a t x x' c c' r r' ls ls' cl cl' agree inside =
    opened_same (construct_of w) (wrapper_takes_none w) a t x x' ls ls'
    (inside t (omega arith) (wrapper_outside w a t x x' c c' r r' ls ls' cl cl' agree inside))

-- ---- `if`

pub if_outside : {A : Type 0} → (a : A) (t : ℕ) (x x' c c' r r' : List (Marked A)) (labels labels' : List (Label A))
    → Closes x c r → Closes x' c' r' → Agree t r labels r' labels'
    → SameOutside t (length c) (length c') (label a If x ∷ labels) (label a If x' ∷ labels')
if_outside a t x x' c c' r r' ls ls' cl cl' agree =
    passing_outside a If None t x x' c c' r r' ls ls' (λ next on l ks o. refl) (λ s y. refl) cl cl' agree

-- by its consequent, and by the other way
pub if_same : {A : Type 0} → (a : A) (t : ℕ) (x x' : List (Marked A)) (labels labels' : List (Label A))
    → SameInside a If t x labels x' labels'
    → ((β : Bound A) (u n m : ℕ) (outcomes : List Outcome) → u ≤ t → length x ≤ n → length x' ≤ m
    → other_way (go β u n) (label a If x) labels outcomes (seek is_else 0 0 x)
    ≡ other_way (go the_count u m) (label a If x') labels' outcomes (seek is_else 0 0 x'))
    → Same t (with_control a (Opens If) ∷ x) labels (with_control a (Opens If) ∷ x') labels'
if_same a t x x' ls ls' s q =
    step_same (with_control a (Opens If)) (with_control a (Opens If)) t x x' ls ls' λ β u n m o hu hn hm.
    way_same a _ _ (λ w o. cond_same w _ _ _ _ (s β u n m o hu hn hm) (q β u n m o hu hn hm)) o
