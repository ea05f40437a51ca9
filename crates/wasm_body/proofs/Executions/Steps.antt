-- One step from two places at which the machine does the same.
use Rattle.std.proofs.Common.{◌≡◌, ℕ, zero, suc, ◌≤◌, List, [], ◌∷◌, length, Bool, true, false, cond, Option, Some, None, refl, sym, ap, ◌∙◌, arith}
use Rattle.wasm_body.specs.Control.{Action, Nop, Plain, Branch, ConditionalBranch, TableBranch, Return, Unreachable, Throw, ThrowRef, Rethrow, TailCall, Control, Does, Opens, End, Marked, with_control}
use Rattle.wasm_body.specs.NormalForm.{fate, MakesUnreachable}
use Rattle.wasm_body.specs.TextLaws.{EndsSequence}
use Rattle.wasm_body.specs.Machine.{Outcome, Go, Trap, Raise, Way, Entry, Executed, Mismatch, Run, ends, then, Tags, after_closer, Label, Response, branch, raise, caught_at, rethrow, take_outcome, take_way, take_entry, act, step, leave, has, target, arrive, react, responds}
use Rattle.wasm_body.proofs.Executions.Same.{Bound, the_count, again, go, Same, SameOutside}

pub weaken : {A : Type 0} → (t v b b' c c' : ℕ) (labels labels' : List (Label A)) → v ≤ t → b ≤ c → b' ≤ c'
    → SameOutside t b b' labels labels' → SameOutside v c c' labels labels'
weaken t v b b' c c' ls ls' lt lb lb' e = record {
  branches = λ β u n m j o hu hn hm. e.branches β u n m j o (omega arith) (omega arith) (omega arith);
  raises = λ β u n m s o k hu hn hm. e.raises β u n m s o k (omega arith) (omega arith) (omega arith);
  handlers = e.handlers;
}

-- the same step from two operators
pub step_same : {A : Type 0} → (x x' : Marked A) (t : ℕ) (r r' : List (Marked A)) (labels labels' : List (Label A))
    → ((β : Bound A) (u n m : ℕ) (outcomes : List Outcome) → u ≤ t → length r ≤ n → length r' ≤ m
    → step (again β u) (go β u n) x.control x.shown r labels outcomes ≡ step (again the_count u) (go the_count u m) x'.control x'.shown r' labels' outcomes)
    → Same t (x ∷ r) labels (x' ∷ r') labels'
step_same x x' t r r' ls ls' h β u zero m o hu hn hm = absurd (omega arith)
step_same x x' t r r' ls ls' h β u (suc n) zero o hu hn hm = absurd (omega arith)
step_same x x' t r r' ls ls' h β u (suc n) (suc m) o hu hn hm = h β u n m o hu (omega arith) (omega arith)

-- ---- the ways to ask

take_outcome_same : {A : Type 0}
    → (may_raise : Tags → Bool) (may_trap : Bool) (a : A) (on on' : List Outcome → Run A) (raised raised' : Tags → List Outcome → Run A)
    → ((outcomes : List Outcome) → on outcomes ≡ on' outcomes)
    → ((tags : Tags) (outcomes : List Outcome) → raised tags outcomes ≡ raised' tags outcomes)
    → (outcomes : List Outcome) → take_outcome may_raise may_trap a on raised outcomes ≡ take_outcome may_raise may_trap a on' raised' outcomes
take_outcome_same p q a on on' out out' h k [] = refl
take_outcome_same p q a on on' out out' h k (Go ∷ o) = h o
take_outcome_same p q a on on' out out' h k (Trap ∷ o) = refl
take_outcome_same p q a on on' out out' h k (Raise s ∷ o) = ap (λ r. cond (p s) (then (Executed a) r) (ends Mismatch)) (k s o)
take_outcome_same p q a on on' out out' h k (Way w ∷ o) = refl
take_outcome_same p q a on on' out out' h k (Entry n ∷ o) = refl

pub way_same : {A : Type 0} → (a : A) (on on' : Bool → List Outcome → Run A)
    → ((w : Bool) (outcomes : List Outcome) → on w outcomes ≡ on' w outcomes)
    → (outcomes : List Outcome) → take_way a on outcomes ≡ take_way a on' outcomes
way_same a on on' h [] = refl
way_same a on on' h (Way w ∷ o) = ap (then (Executed a)) (h w o)
way_same a on on' h (Go ∷ o) = refl
way_same a on on' h (Trap ∷ o) = refl
way_same a on on' h (Raise s ∷ o) = refl
way_same a on on' h (Entry n ∷ o) = refl

entry_same : {A : Type 0} → (a : A) (on on' : ℕ → List Outcome → Run A)
    → ((k : ℕ) (outcomes : List Outcome) → on k outcomes ≡ on' k outcomes)
    → (outcomes : List Outcome) → take_entry a on outcomes ≡ take_entry a on' outcomes
entry_same a on on' h [] = refl
entry_same a on on' h (Entry k ∷ o) = ap (then (Executed a)) (h k o)
entry_same a on on' h (Go ∷ o) = refl
entry_same a on on' h (Trap ∷ o) = refl
entry_same a on on' h (Raise s ∷ o) = refl
entry_same a on on' h (Way w ∷ o) = refl

pub cond_same : {X : Type 0} → (w : Bool) (a a' b b' : X) → a ≡ a' → b ≡ b' → cond w a b ≡ cond w a' b'
cond_same true a a' b b' p q = p
cond_same false a a' b b' p q = q

rethrow_same : {A : Type 0} → (f f' : Tags → Run A) (c : Option Tags) → ((tags : Tags) → f tags ≡ f' tags) → rethrow f c ≡ rethrow f' c
rethrow_same f f' None h = refl
rethrow_same f f' (Some s) h = h s

-- ---- operators by themselves

-- an operator that cuts, whatever comes after it
unreachable_after_same : {A : Type 0} → (action : Action) (a : A) (t : ℕ) (r r' : List (Marked A)) (labels labels' : List (Label A))
    → SameOutside t (length r) (length r') labels labels' → fate action ≡ MakesUnreachable
    → (β : Bound A) (u n m : ℕ) (outcomes : List Outcome) → u ≤ t → length r ≤ n → length r' ≤ m
    → act (again β u) (go β u n) action a r labels outcomes ≡ act (again the_count u) (go the_count u m) action a r' labels' outcomes
unreachable_after_same (Branch j) a t r r' ls ls' e c β u n m o hu hn hm = ap (then (Executed a)) (e.branches β u n m j o hu hn hm)
unreachable_after_same (TableBranch ts d) a t r r' ls ls' e c β u n m o hu hn hm = entry_same a _ _ (λ k o. e.branches β u n m (target ts d k) o hu hn hm) o
unreachable_after_same Return a t r r' ls ls' e c β u n m o hu hn hm = refl
unreachable_after_same Unreachable a t r r' ls ls' e c β u n m o hu hn hm = refl
unreachable_after_same (Throw g) a t r r' ls ls' e c β u n m o hu hn hm =
    take_outcome_same (λ s. has s g) false a _ _ _ _ (λ o. refl) (λ s o. e.raises β u n m s o 0 hu hn hm) o
unreachable_after_same ThrowRef a t r r' ls ls' e c β u n m o hu hn hm = take_outcome_same (λ s. true) true a _ _ _ _ (λ o. refl) (λ s o. e.raises β u n m s o 0 hu hn hm) o
unreachable_after_same (Rethrow j) a t r r' ls ls' e c β u n m o hu hn hm =
    ap (then (Executed a))
    (ap (rethrow (λ s. raise (again β u) (go β u n) s ls o 0)) (e.handlers j)
    ∙ rethrow_same (λ s. raise (again β u) (go β u n) s ls o 0) (λ s. raise (again the_count u) (go the_count u m) s ls' o 0) (caught_at ls' j)
    (λ s. e.raises β u n m s o 0 hu hn hm))
unreachable_after_same _ a t r r' ls ls' e c β u n m o hu hn hm = absurd (cc c)

-- an operator after which the same follows
act_same : {A : Type 0} → (action : Action) (a : A) (t : ℕ) (r r' : List (Marked A)) (labels labels' : List (Label A))
    → SameOutside t (length r) (length r') labels labels' → Same t r labels r' labels'
    → (β : Bound A) (u n m : ℕ) (outcomes : List Outcome) → u ≤ t → length r ≤ n → length r' ≤ m
    → act (again β u) (go β u n) action a r labels outcomes ≡ act (again the_count u) (go the_count u m) action a r' labels' outcomes
act_same Nop a t r r' ls ls' e s β u n m o hu hn hm = s β u n m o hu hn hm
act_same Plain a t r r' ls ls' e s β u n m o hu hn hm =
    take_outcome_same (λ s. true) true a _ _ _ _ (λ o. ap (then (Executed a)) (s β u n m o hu hn hm)) (λ g o. e.raises β u n m g o 0 hu hn hm) o
act_same (ConditionalBranch j) a t r r' ls ls' e s β u n m o hu hn hm =
    way_same a _ _ (λ w o. cond_same w _ _ _ _ (e.branches β u n m j o hu hn hm) (s β u n m o hu hn hm)) o
act_same TailCall a t r r' ls ls' e s β u n m o hu hn hm = refl
act_same action a t r r' ls ls' e s β u n m o hu hn hm = unreachable_after_same action a t r r' ls ls' e refl β u n m o hu hn hm

pub nop_same : {A : Type 0} → (a : A) (t : ℕ) (r r' : List (Marked A)) (labels labels' : List (Label A))
    → Same t r labels r' labels' → Same t (with_control a (Does Nop) ∷ r) labels r' labels'
nop_same a t r r' ls ls' s β u zero m o hu hn hm = absurd (omega arith)
nop_same a t r r' ls ls' s β u (suc n) m o hu hn hm = s β u n m o hu (omega arith) hm

pub kept_same : {A : Type 0} → (action : Action) (a : A) (t : ℕ) (r r' : List (Marked A)) (labels labels' : List (Label A))
    → SameOutside t (length r) (length r') labels labels' → Same t r labels r' labels'
    → Same t (with_control a (Does action) ∷ r) labels (with_control a (Does action) ∷ r') labels'
kept_same action a t r r' ls ls' e s =
    step_same (with_control a (Does action)) (with_control a (Does action)) t r r' ls ls' (act_same action a t r r' ls ls' e s)

pub last_same : {A : Type 0} → (action : Action) (a : A) (t : ℕ) (r r' : List (Marked A)) (labels labels' : List (Label A))
    → fate action ≡ MakesUnreachable → SameOutside t (length r) (length r') labels labels'
    → Same t (with_control a (Does action) ∷ r) labels (with_control a (Does action) ∷ r') labels'
last_same action a t r r' ls ls' c e =
    step_same (with_control a (Does action)) (with_control a (Does action)) t r r' ls ls' (unreachable_after_same action a t r r' ls ls' e c)

-- ---- a label more

-- what a construct does with an exception, by its response
abbrev pub reacts : {A : Type 0} → Bound A → (turns count : ℕ) → Tags → Label A → List (Label A) → List Outcome → Response A → Run A
reacts β u n tags l ls outcomes response = react (again β u) (go β u n) (raise (again β u) (go β u n) tags ls outcomes) tags l ls outcomes response

-- if a branch to it, an exception that reaches it and a `rethrow` of it do the same
pub push : {A : Type 0} → (t b b' : ℕ) (l l' : Label A) (labels labels' : List (Label A)) → SameOutside t b b' labels labels'
    → ((β : Bound A) (u n m : ℕ) (outcomes : List Outcome) → u ≤ t → b ≤ n → b' ≤ m
    → arrive (again β u) (go β u n) l.construct l labels outcomes ≡ arrive (again the_count u) (go the_count u m) l'.construct l' labels' outcomes)
    → ((β : Bound A) (u n m : ℕ) (tags : Tags) (outcomes : List Outcome) → u ≤ t → b ≤ n → b' ≤ m
    → reacts β u n tags l labels outcomes (responds tags l) ≡ reacts the_count u m tags l' labels' outcomes (responds tags l'))
    → l.caught ≡ l'.caught → SameOutside t b b' (l ∷ labels) (l' ∷ labels')
push {A = A} t b b' l l' ls ls' e own_branch own_raise own_caught = record { branches = branches; raises = raises; handlers = handlers }
  where
    branches : (β : Bound A) (u n m j : ℕ) (o : List Outcome) → u ≤ t → b ≤ n → b' ≤ m
        → branch (again β u) (go β u n) j (l ∷ ls) o ≡ branch (again the_count u) (go the_count u m) j (l' ∷ ls') o
    branches β u n m zero o hu hn hm = own_branch β u n m o hu hn hm
    branches β u n m (suc j) o hu hn hm = e.branches β u n m j o hu hn hm

    raises : (β : Bound A) (u n m : ℕ) (s : Tags) (o : List Outcome) (k : ℕ) → u ≤ t → b ≤ n → b' ≤ m
        → raise (again β u) (go β u n) s (l ∷ ls) o k ≡ raise (again the_count u) (go the_count u m) s (l' ∷ ls') o k
    raises β u n m s o zero hu hn hm = own_raise β u n m s o hu hn hm
    raises β u n m s o (suc k) hu hn hm = e.raises β u n m s o k hu hn hm

    handlers : (j : ℕ) → caught_at (l ∷ ls) j ≡ caught_at (l' ∷ ls') j
    handlers zero = own_caught
    handlers (suc j) = e.handlers j

-- ---- the end of a sequence

step_stops : {A : Type 0} → (c : Control) → EndsSequence c
    → (β : Bound A) (u n : ℕ) (a : A) (r : List (Marked A)) (labels : List (Label A)) (outcomes : List Outcome)
    → step (again β u) (go β u n) c a r labels outcomes ≡ leave (go β u n) labels outcomes
step_stops (Does action) h β u n a r ls o = absurd h
step_stops (Opens construct) h β u n a r ls o = absurd h
step_stops _ h β u n a r ls o = refl

pub stop_same : {A : Type 0}
    → (c c' : Control) (a a' : A) (t : ℕ) (x x' r r' : List (Marked A)) (l l' : Label A) (labels labels' : List (Label A))
    → EndsSequence c → EndsSequence c'
    → after_closer l.following ≡ r → after_closer l'.following ≡ r' → length r ≤ length x → length r' ≤ length x' → Same t r labels r' labels'
    → Same t (with_control a c ∷ x) (l ∷ labels) (with_control a' c' ∷ x') (l' ∷ labels')
stop_same c c' a a' t x x' r r' l l' ls ls' h h' e e' lx lx' s =
    step_same (with_control a c) (with_control a' c') t x x' (l ∷ ls) (l' ∷ ls') λ β u n m o hu hn hm.
    step_stops c h β u n a x (l ∷ ls) o
    ∙ (ap (λ k. go β u n k ls o) e
    ∙ (s β u n m o hu (omega arith) (omega arith)
    ∙ (ap (λ k. go the_count u m k ls' o) (sym e')
    ∙ sym (step_stops c' h' the_count u m a' x' (l' ∷ ls') o))))

-- the last `end` of a body
pub last_end : {A : Type 0} → (a a' : A) (t : ℕ) → Same t (with_control a End ∷ []) [] (with_control a' End ∷ []) []
last_end a a' t = step_same (with_control a End) (with_control a' End) t [] [] [] [] (λ β u n m o hu hn hm. refl)

pub no_labels : {A : Type 0} → (t b b' : ℕ) → SameOutside {A = A} t b b' [] []
no_labels t b b' = record { branches = λ β u n m j o hu hn hm. refl; raises = λ β u n m s o k hu hn hm. refl; handlers = λ j. refl }
