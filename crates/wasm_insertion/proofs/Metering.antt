-- Each run of a metered body is paid.
use Rattle.std.proofs.Common.{◌≡◌, ℕ, zero, suc, ◌+◌, ◌-◌, ◌≤◌, List, [], ◌∷◌, length, Bool, true, false, cond, Option, Some, None, refl, ap, subst, arith}
use Rattle.std.specs.List.{AllByRecursion}
use Rattle.wasm_body.specs.Control.{Action, Nop, Plain, Branch, ConditionalBranch, TableBranch, Return, Unreachable, Throw, ThrowRef, Rethrow, TailCall, Clause, Construct, Block, Loop, TryTable, If, Try, Control, Does, Opens, Else, Catch, CatchAll, End, Delegate, Marked, with_control}
use Rattle.wasm_body.specs.SourceTree.{Sequence, Empty, Single, Wrapped, IfThen, IfElse, TryCatch, TryDelegate, Clauses, Ended, Catches, CatchesAll, construct_of, text, clauses_text, Body, body_text}
use Rattle.wasm_body.specs.Machine.{control_shape, Found, seek_at, seek, tail, after_closer, Tags, has, Outcome, Go, Trap, Raise, Way, Entry, Executed, Returned, TailCalled, Trapped, TurnsOut, Mismatch, Run, ends, then, Label, label, handler, From, Response, Passes, Hands, Jumps, Enters, takes, jump, catches, clause_at, clause_found, responds_as, responds, arrive, branch, react, raise, caught_at, rethrow, target, take_outcome, take_way, take_entry, act, is_else, other_at, other_way, enter, leave, step, straight, bounded_run, run}
use Rattle.wasm_insertion.specs.Insertion.{Origin, Own, Added, Inserted, empty, insert, single, wrapped, if_then, if_else, try_catch, try_delegate, ClausesInserted, ended, catches_one, catches_all, goes_straight, rest_of_piece, piece_cost, with_charge, metered, metered_clauses, metered_body, IsPaid, MeteredIsPaid, MeteredIsInserted}

-- ---- it inserts and changes nothing else

charge_inserted : {A : Type 0} (y : Bool) (n : ℕ) {s : Sequence A} {t : Sequence (Origin A ℕ)} → Inserted s t → Inserted s (with_charge y n t)
charge_inserted true n h = h
charge_inserted false zero h = h
charge_inserted false (suc n) h = insert h

mutual
  metered_inserted : {A : Type 0} → (cost : A → ℕ) (s : Sequence A) → Inserted s (metered cost s)
  metered_inserted cost Empty = empty
  metered_inserted cost (Single a action r) = single (charge_inserted (goes_straight action) (piece_cost cost r) (metered_inserted cost r))
  metered_inserted cost (Wrapped a w b e r) = wrapped (charge_inserted false (piece_cost cost b) (metered_inserted cost b)) (charge_inserted false (piece_cost cost r) (metered_inserted cost r))
  metered_inserted cost (IfThen a b e r) = if_then (charge_inserted false (piece_cost cost b) (metered_inserted cost b)) (charge_inserted false (piece_cost cost r) (metered_inserted cost r))
  metered_inserted cost (IfElse a b l c e r) = if_else (charge_inserted false (piece_cost cost b) (metered_inserted cost b)) (charge_inserted false (piece_cost cost c) (metered_inserted cost c)) (charge_inserted false (piece_cost cost r) (metered_inserted cost r))
  metered_inserted cost (TryCatch a b cs r) = try_catch (charge_inserted false (piece_cost cost b) (metered_inserted cost b)) (clauses_inserted cost cs) (charge_inserted false (piece_cost cost r) (metered_inserted cost r))
  metered_inserted cost (TryDelegate a b e n r) = try_delegate (charge_inserted false (piece_cost cost b) (metered_inserted cost b)) (charge_inserted false (piece_cost cost r) (metered_inserted cost r))

  clauses_inserted : {A : Type 0} → (cost : A → ℕ) (cs : Clauses A) → ClausesInserted cs (metered_clauses cost cs)
  clauses_inserted cost (Ended e) = ended
  clauses_inserted cost (Catches a t b cs) = catches_one (charge_inserted false (piece_cost cost b) (metered_inserted cost b)) (clauses_inserted cost cs)
  clauses_inserted cost (CatchesAll a b e) = catches_all (charge_inserted false (piece_cost cost b) (metered_inserted cost b))

pub metered_is_inserted : (A : Type 0) → MeteredIsInserted A
metered_is_inserted A cost b = record { sequence = charge_inserted false (piece_cost cost b.sequence) (metered_inserted cost b.sequence); close = refl }

-- ---- what is needed at a place, on any list

module _ (A : Type 0) (cost : A → ℕ) where
  abbrev O : Type 0
  O = Origin A ℕ

  -- what is needed before an operator, if k is needed after it
  abbrev owes : O → ℕ → ℕ
  owes (Own a) k = cost a + k
  owes (Added n) k = k - n

  abbrev pub is_straight : Control → Bool
  is_straight (Does action) = goes_straight action
  is_straight _ = false

  abbrev pub needs : O → Control → ℕ → ℕ
  needs x (Does Nop) k = k
  needs x (Does action) k = owes x (rest_of_piece (goes_straight action) k)
  needs x (Opens construct) k = owes x 0
  needs x _ k = 0

  abbrev pub needed : List (Marked O) → ℕ
  needed [] = 0
  needed (x ∷ xs) = needs x.shown x.control (needed xs)

  abbrev pub After : Bool → ℕ → Type 0
  After true n = Unit {0}
  After false n = n ≡ 0

  -- an added operator charges what is needed after it
  abbrev pub Fits : O → Control → ℕ → Type 0
  Fits (Own a) c k = Unit {0}
  Fits (Added n) (Does Plain) k = k ≡ n
  Fits (Added n) _ k = ⊥

  -- a piece begins after each operator that isn't straight
  abbrev pub Pieced : List (Marked O) → Type 0
  Pieced [] = Unit {0}
  Pieced (x ∷ xs) = (After (is_straight x.control) (needed xs) × Fits x.shown x.control (needed xs)) × Pieced xs

  abbrev pub Fresh : List (Marked O) → Type 0
  Fresh xs = Pieced xs × (needed xs ≡ 0)

  abbrev pub FreshLabels : List (Label O) → Type 0
  FreshLabels ls = AllByRecursion (λ l. Fresh l.following) ls

  -- the place of a part or a closer
  abbrev pub Parted : List (Marked O) → Type 0
  Parted [] = Unit {0}
  Parted (x ∷ xs) = Fresh xs

  one_parted : (c : Control) (d : ℕ) (y : Bool) (i : ℕ) (here : List (Marked O)) (on : ℕ → ℕ → Found O) → (is_straight c ≡ false → Parted here)
      → ((d j : ℕ) → Parted (on d j).rest) → Parted (seek_at (control_shape c) d y i here on).rest
  one_parted (Does action) d y i here on g h = h d i
  one_parted (Opens k) d y i here on g h = h (suc d) i
  one_parted Else zero true i here on g h = g refl
  one_parted Else zero false i here on g h = h zero (suc i)
  one_parted Else (suc d) y i here on g h = h (suc d) i
  one_parted (Catch t) zero true i here on g h = g refl
  one_parted (Catch t) zero false i here on g h = h zero (suc i)
  one_parted (Catch t) (suc d) y i here on g h = h (suc d) i
  one_parted CatchAll zero true i here on g h = g refl
  one_parted CatchAll zero false i here on g h = h zero (suc i)
  one_parted CatchAll (suc d) y i here on g h = h (suc d) i
  one_parted End zero y i here on g h = g refl
  one_parted End (suc d) y i here on g h = h d i
  one_parted (Delegate n) zero y i here on g h = g refl
  one_parted (Delegate n) (suc d) y i here on g h = h d i

  pub seek_parted : (test : Control → Bool) (d i : ℕ) (xs : List (Marked O)) → Pieced xs → Parted (seek test d i xs).rest
  seek_parted test d i [] g = tt
  seek_parted test d i (x ∷ xs) g =
      one_parted x.control d (test x.control) i (x ∷ xs) (λ d j. seek test d j xs)
      (λ e. (g.1, subst (λ b. After b (needed xs)) e g.0.0)) (λ d j. seek_parted test d j xs g.1)

  tail_fresh : (xs : List (Marked O)) → Parted xs → Fresh (tail xs)
  tail_fresh [] g = (tt, refl)
  tail_fresh (x ∷ xs) g = g

  pub closer_fresh : (xs : List (Marked O)) → Pieced xs → Fresh (after_closer xs)
  closer_fresh xs g = tail_fresh (seek (λ c. false) 0 0 xs).rest (seek_parted (λ c. false) 0 0 xs g)

  abbrev FreshResponse : Response O → Type 0
  FreshResponse (Enters i t r) = Fresh r
  FreshResponse _ = Unit {0}

  clause_fresh : (i : ℕ) (c : Control) (r : List (Marked O)) → Fresh r → FreshResponse (clause_at i c r)
  clause_fresh i (Does action) r g = tt
  clause_fresh i (Opens k) r g = tt
  clause_fresh i Else r g = tt
  clause_fresh i (Catch t) r g = g
  clause_fresh i CatchAll r g = g
  clause_fresh i End r g = tt
  clause_fresh i (Delegate n) r g = tt

  found_fresh : (i : ℕ) (r : List (Marked O)) → Parted r → FreshResponse (clause_found i r)
  found_fresh i [] g = tt
  found_fresh i (x ∷ xs) g = clause_fresh i x.control xs g

  jump_fresh : (tags : Tags) (i : ℕ) (cs : List Clause) → FreshResponse (jump tags i cs)
  jump_fresh g i [] = tt
  jump_fresh g i (c ∷ cs) = by_clause (takes g c.tag) (jump g (suc i) cs) (jump_fresh g (suc i) cs)
    where
      by_clause : (y : Bool) (q : Response O) → FreshResponse q → FreshResponse (cond y (Jumps i c.tag c.label) q)
      by_clause true q h = tt
      by_clause false q h = h

  responds_fresh : (tags : Tags) (k : Construct) (c : Option Tags) (y : List (Marked O)) → Pieced y → FreshResponse (responds_as tags k c y)
  responds_fresh s Block c y g = tt
  responds_fresh s Loop c y g = tt
  responds_fresh s If c y g = tt
  responds_fresh s (TryTable cs) c y g = jump_fresh s 0 cs
  responds_fresh s Try (Some t) y g = tt
  responds_fresh s Try None y g = found_fresh (seek (catches s) 0 0 y).passed (seek (catches s) 0 0 y).rest (seek_parted (catches s) 0 0 y g)

  -- ---- runs

  abbrev Paid : ℕ → ℕ → Run O → Type 0
  Paid added used r = IsPaid cost added used r.events

  -- paid, whenever k more than what was used was added
  abbrev PaidAfter : ℕ → Run O → Type 0
  PaidAfter k r = (added used : ℕ) → used + k ≤ added → Paid added used r

  executed_paid : (x : O) (k : ℕ) (r : Run O) → PaidAfter k r → PaidAfter (owes x k) (then (Executed x) r)
  executed_paid (Own a) k r h added used le = (omega (arith, le), h added (used + cost a) (omega (arith, le)))
  executed_paid (Added n) k r h added used le = h (added + n) used (omega (arith, le))

  less : (k : ℕ) (r : Run O) → PaidAfter 0 r → PaidAfter k r
  less k r h added used le = h added used (omega (arith, le))

  abbrev Safe : From O → Type 0
  Safe go = (r : List (Marked O)) (labels : List (Label O)) → Pieced r → FreshLabels labels → (os : List Outcome) → PaidAfter (needed r) (go r labels os)

  cond_paid : (w : Bool) (k : ℕ) (p q : Run O) → PaidAfter k p → PaidAfter k q → PaidAfter k (cond w p q)
  cond_paid true k p q h i = h
  cond_paid false k p q h i = i

  -- a run that ends executes nothing
  nothing : (k added used : ℕ) → used + k ≤ added → Unit {0}
  nothing k added used le = tt

  going_paid : (may_raise : Tags → Bool) (may_trap : Bool) (x : O) (k : ℕ) (f : List Outcome → Run O) (raised : Tags → List Outcome → Run O)
      → ((os : List Outcome) → PaidAfter k (f os)) → ((s : Tags) (os : List Outcome) → PaidAfter k (raised s os))
      → (os : List Outcome) → PaidAfter (owes x k) (take_outcome may_raise may_trap x (λ o. then (Executed x) (f o)) raised os)
  going_paid p q x k f raised h i [] = nothing (owes x k)
  going_paid p q x k f raised h i (Go ∷ os) = executed_paid x k (f os) (h os)
  going_paid p q x k f raised h i (Trap ∷ os) = cond_paid q (owes x k) (then (Executed x) (ends Trapped)) (ends Mismatch) (executed_paid x k (ends Trapped) (nothing k)) (nothing (owes x k))
  going_paid p q x k f raised h i (Raise s ∷ os) = cond_paid (p s) (owes x k) (then (Executed x) (raised s os)) (ends Mismatch) (executed_paid x k (raised s os) (i s os)) (nothing (owes x k))
  going_paid p q x k f raised h i (Way w ∷ os) = nothing (owes x k)
  going_paid p q x k f raised h i (Entry n ∷ os) = nothing (owes x k)

  throwing_paid : (may_raise : Tags → Bool) (may_trap : Bool) (x : O) (k : ℕ) (raised : Tags → List Outcome → Run O)
      → ((s : Tags) (os : List Outcome) → PaidAfter k (raised s os))
      → (os : List Outcome) → PaidAfter (owes x k) (take_outcome may_raise may_trap x (λ o. ends Mismatch) raised os)
  throwing_paid p q x k raised i [] = nothing (owes x k)
  throwing_paid p q x k raised i (Go ∷ os) = nothing (owes x k)
  throwing_paid p q x k raised i (Trap ∷ os) = cond_paid q (owes x k) (then (Executed x) (ends Trapped)) (ends Mismatch) (executed_paid x k (ends Trapped) (nothing k)) (nothing (owes x k))
  throwing_paid p q x k raised i (Raise s ∷ os) = cond_paid (p s) (owes x k) (then (Executed x) (raised s os)) (ends Mismatch) (executed_paid x k (raised s os) (i s os)) (nothing (owes x k))
  throwing_paid p q x k raised i (Way w ∷ os) = nothing (owes x k)
  throwing_paid p q x k raised i (Entry n ∷ os) = nothing (owes x k)

  way_paid : (x : O) (k : ℕ) (on : Bool → List Outcome → Run O) → ((w : Bool) (os : List Outcome) → PaidAfter k (on w os))
      → (os : List Outcome) → PaidAfter (owes x k) (take_way x on os)
  way_paid x k on h [] = nothing (owes x k)
  way_paid x k on h (Way w ∷ os) = executed_paid x k (on w os) (h w os)
  way_paid x k on h (Go ∷ os) = nothing (owes x k)
  way_paid x k on h (Trap ∷ os) = nothing (owes x k)
  way_paid x k on h (Raise s ∷ os) = nothing (owes x k)
  way_paid x k on h (Entry n ∷ os) = nothing (owes x k)

  entry_paid : (x : O) (k : ℕ) (on : ℕ → List Outcome → Run O) → ((n : ℕ) (os : List Outcome) → PaidAfter k (on n os))
      → (os : List Outcome) → PaidAfter (owes x k) (take_entry x on os)
  entry_paid x k on h [] = nothing (owes x k)
  entry_paid x k on h (Entry n ∷ os) = executed_paid x k (on n os) (h n os)
  entry_paid x k on h (Go ∷ os) = nothing (owes x k)
  entry_paid x k on h (Trap ∷ os) = nothing (owes x k)
  entry_paid x k on h (Raise s ∷ os) = nothing (owes x k)
  entry_paid x k on h (Way w ∷ os) = nothing (owes x k)

  module _ (again go : From O) (ha : Safe again) (hg : Safe go) where
    -- a place where a piece begins
    fresh_paid : (go : From O) → Safe go → (r : List (Marked O)) (ls : List (Label O)) → Fresh r → FreshLabels ls → (os : List Outcome) → PaidAfter 0 (go r ls os)
    fresh_paid go hg r ls g gs os = subst (λ k. PaidAfter k (go r ls os)) g.1 (hg r ls g.0 gs os)

    after_paid : (l : Label O) (ls : List (Label O)) → Fresh l.following → FreshLabels ls → (os : List Outcome) → PaidAfter 0 (go (after_closer l.following) ls os)
    after_paid l ls g gs os = fresh_paid go hg (after_closer l.following) ls (closer_fresh l.following g.0) gs os

    arrive_paid : (k : Construct) (l : Label O) (ls : List (Label O)) → Fresh l.following → FreshLabels ls → (os : List Outcome)
        → PaidAfter 0 (arrive again go k l ls os)
    arrive_paid Loop l ls g gs os = fresh_paid again ha l.following (l ∷ ls) g (g, gs) os
    arrive_paid Block l ls g gs os = after_paid l ls g gs os
    arrive_paid If l ls g gs os = after_paid l ls g gs os
    arrive_paid Try l ls g gs os = after_paid l ls g gs os
    arrive_paid (TryTable cs) l ls g gs os = after_paid l ls g gs os

    branch_paid : (n : ℕ) (ls : List (Label O)) → FreshLabels ls → (os : List Outcome) → PaidAfter 0 (branch again go n ls os)
    branch_paid n [] gs os = nothing 0
    branch_paid zero (l ∷ ls) gs os = arrive_paid l.construct l ls gs.0 gs.1 os
    branch_paid (suc n) (l ∷ ls) gs os = branch_paid n ls gs.1 os

    react_paid : (outward : ℕ → Run O) (s : Tags) (l : Label O) (ls : List (Label O)) → Fresh l.following → FreshLabels ls → (os : List Outcome)
        → ((n : ℕ) → PaidAfter 0 (outward n)) → (q : Response O) → FreshResponse q → PaidAfter 0 (react again go outward s l ls os q)
    react_paid out s l ls g gs os h Passes gq = h 0
    react_paid out s l ls g gs os h (Hands n) gq = h n
    react_paid out s l ls g gs os h (Jumps i t n) gq = branch_paid n ls gs os
    react_paid out s l ls g gs os h (Enters i t r) gq = fresh_paid go hg r (handler l s ∷ ls) gq (g, gs) os

    raise_paid : (s : Tags) (ls : List (Label O)) (n : ℕ) → FreshLabels ls → (os : List Outcome) → PaidAfter 0 (raise again go s ls os n)
    raise_paid s [] n gs os = nothing 0
    raise_paid s (l ∷ ls) zero gs os =
        react_paid (raise again go s ls os) s l ls gs.0 gs.1 os (λ n. raise_paid s ls n gs.1 os) (responds s l)
        (responds_fresh s l.construct l.caught l.following gs.0.0)
    raise_paid s (l ∷ ls) (suc n) gs os = raise_paid s ls n gs.1 os

    rethrow_paid : (raised : Tags → Run O) → ((s : Tags) → PaidAfter 0 (raised s)) → (c : Option Tags) → PaidAfter 0 (rethrow raised c)
    rethrow_paid raised h None = nothing 0
    rethrow_paid raised h (Some s) = h s

    act_paid : (action : Action) (x : O) (r : List (Marked O)) (ls : List (Label O)) → After (goes_straight action) (needed r) → Pieced r → FreshLabels ls
        → (os : List Outcome) → PaidAfter (needs x (Does action) (needed r)) (act again go action x r ls os)
    act_paid Nop x r ls f g gs os = hg r ls g gs os
    act_paid Plain x r ls f g gs os =
        going_paid (λ s. true) true x (needed r) (λ o. go r ls o) (λ s o. raise again go s ls o 0) (λ o. hg r ls g gs o)
        (λ s o. less (needed r) (raise again go s ls o 0) (raise_paid s ls 0 gs o)) os
    act_paid (Branch n) x r ls f g gs os = executed_paid x 0 (branch again go n ls os) (branch_paid n ls gs os)
    act_paid (ConditionalBranch n) x r ls f g gs os =
        way_paid x 0 (λ w o. cond w (branch again go n ls o) (go r ls o))
        (λ w o. cond_paid w 0 (branch again go n ls o) (go r ls o) (branch_paid n ls gs o) (fresh_paid go hg r ls (g, f) gs o)) os
    act_paid (TableBranch ts d) x r ls f g gs os =
        entry_paid x 0 (λ k o. branch again go (target ts d k) ls o) (λ k o. branch_paid (target ts d k) ls gs o) os
    act_paid Return x r ls f g gs os = executed_paid x 0 (ends Returned) (nothing 0)
    act_paid Unreachable x r ls f g gs os = executed_paid x 0 (ends Trapped) (nothing 0)
    act_paid (Throw t) x r ls f g gs os =
        throwing_paid (λ s. has s t) false x 0 (λ s o. raise again go s ls o 0) (λ s o. raise_paid s ls 0 gs o) os
    act_paid ThrowRef x r ls f g gs os =
        throwing_paid (λ s. true) true x 0 (λ s o. raise again go s ls o 0) (λ s o. raise_paid s ls 0 gs o) os
    act_paid (Rethrow n) x r ls f g gs os =
        executed_paid x 0 (rethrow (λ s. raise again go s ls os 0) (caught_at ls n)) (rethrow_paid (λ s. raise again go s ls os 0) (λ s. raise_paid s ls 0 gs os) (caught_at ls n))
    act_paid TailCall x r ls f g gs os =
        going_paid (λ s. false) true x 0 (λ o. ends TailCalled) (λ s o. ends Mismatch) (λ o. nothing 0) (λ s o. nothing 0) os

    other_one : (c : Control) (xs : List (Marked O)) (l : Label O) (ls : List (Label O)) → Fresh xs → FreshLabels (l ∷ ls) → (os : List Outcome)
        → PaidAfter 0 (cond (is_else c) (go xs (l ∷ ls) os) (go xs ls os))
    other_one c xs l ls g gs os = cond_paid (is_else c) 0 (go xs (l ∷ ls) os) (go xs ls os) (fresh_paid go hg xs (l ∷ ls) g gs os) (fresh_paid go hg xs ls g gs.1 os)

    other_paid : (l : Label O) (ls : List (Label O)) (r : List (Marked O)) → Parted r → FreshLabels (l ∷ ls) → (os : List Outcome)
        → PaidAfter 0 (other_at go l ls os r)
    other_paid l ls [] g gs os = nothing 0
    other_paid l ls (x ∷ xs) g gs os = other_one x.control xs l ls g gs os

    enter_paid : (k : Construct) (x : O) (r : List (Marked O)) (ls : List (Label O)) → Fresh r → FreshLabels ls → (os : List Outcome)
        → PaidAfter (owes x 0) (enter go k x r ls os)
    enter_paid Block x r ls g gs os = let l = label x Block r in executed_paid x 0 (go r (l ∷ ls) os) (fresh_paid go hg r (l ∷ ls) g (g, gs) os)
    enter_paid Loop x r ls g gs os = let l = label x Loop r in executed_paid x 0 (go r (l ∷ ls) os) (fresh_paid go hg r (l ∷ ls) g (g, gs) os)
    enter_paid (TryTable cs) x r ls g gs os =
        let l = label x (TryTable cs) r in executed_paid x 0 (go r (l ∷ ls) os) (fresh_paid go hg r (l ∷ ls) g (g, gs) os)
    enter_paid Try x r ls g gs os = let l = label x Try r in executed_paid x 0 (go r (l ∷ ls) os) (fresh_paid go hg r (l ∷ ls) g (g, gs) os)
    enter_paid If x r ls g gs os =
        let l = label x If r in
        way_paid x 0 (λ w o. cond w (go r (l ∷ ls) o) (other_way go l ls o (seek is_else 0 0 r)))
        (λ w o. cond_paid w 0 (go r (l ∷ ls) o) (other_way go l ls o (seek is_else 0 0 r)) (fresh_paid go hg r (l ∷ ls) g (g, gs) o)
        (other_paid l ls (seek is_else 0 0 r).rest (seek_parted is_else 0 0 r g.0) (g, gs) o)) os

    leave_paid : (ls : List (Label O)) → FreshLabels ls → (os : List Outcome) → PaidAfter 0 (leave go ls os)
    leave_paid [] gs os = nothing 0
    leave_paid (l ∷ ls) gs os = after_paid l ls gs.0 gs.1 os

    step_paid : (c : Control) (x : O) (r : List (Marked O)) (ls : List (Label O)) → After (is_straight c) (needed r) → Pieced r → FreshLabels ls
        → (os : List Outcome) → PaidAfter (needs x c (needed r)) (step again go c x r ls os)
    step_paid (Does action) x r ls f g gs os = act_paid action x r ls f g gs os
    step_paid (Opens k) x r ls f g gs os = enter_paid k x r ls (g, f) gs os
    step_paid Else x r ls f g gs os = leave_paid ls gs os
    step_paid (Catch t) x r ls f g gs os = leave_paid ls gs os
    step_paid CatchAll x r ls f g gs os = leave_paid ls gs os
    step_paid End x r ls f g gs os = leave_paid ls gs os
    step_paid (Delegate n) x r ls f g gs os = leave_paid ls gs os

  straight_paid : (again : From O) → Safe again → (n : ℕ) → Safe (straight again n)
  straight_paid again ha zero r ls g gs os = nothing (needed r)
  straight_paid again ha (suc n) [] ls g gs os = nothing 0
  straight_paid again ha (suc n) (x ∷ xs) ls g gs os =
      step_paid again (straight again n) ha (straight_paid again ha n) x.control x.shown xs ls g.0.0 g.1 gs os

  from_paid : (t : ℕ) → Safe (bounded_run length t)
  from_paid zero r ls g gs os = straight_paid (λ r l o. ends TurnsOut) (λ r ls g gs os. nothing (needed r)) (length r) r ls g gs os
  from_paid (suc t) r ls g gs os = straight_paid (bounded_run length t) (from_paid t) (length r) r ls g gs os

  -- ---- the text of a metered body

  charge_fresh : (n : ℕ) (s : Sequence O) (k : List (Marked O)) → Pieced (text s k) → needed (text s k) ≡ n → Fresh (text (with_charge false n s) k)
  charge_fresh zero s k g h = (g, h)
  charge_fresh (suc n) s k g h = (((tt, h), g), omega (arith, h))

  abbrev Pays : Sequence A → List (Marked O) → Type 0
  Pays s k = Pieced k × (needed k ≡ piece_cost cost s)

  -- the text of the rest, after an operator
  single_pays : (a : A) (action : Action) (r : Sequence A) (k : List (Marked O)) → Pays r (text (metered cost r) k)
      → Pays (Single a action r) (text (metered cost (Single a action r)) k)
  single_pays a Nop r k h = (((tt, tt), h.0), h.1)
  single_pays a Plain r k h = (((tt, tt), h.0), ap (λ n. cost a + n) h.1)
  single_pays a (Branch n) r k h = let f = charge_fresh (piece_cost cost r) (metered cost r) k h.0 h.1 in (((f.1, tt), f.0), refl)
  single_pays a (ConditionalBranch n) r k h = let f = charge_fresh (piece_cost cost r) (metered cost r) k h.0 h.1 in (((f.1, tt), f.0), refl)
  single_pays a (TableBranch ts d) r k h = let f = charge_fresh (piece_cost cost r) (metered cost r) k h.0 h.1 in (((f.1, tt), f.0), refl)
  single_pays a Return r k h = let f = charge_fresh (piece_cost cost r) (metered cost r) k h.0 h.1 in (((f.1, tt), f.0), refl)
  single_pays a Unreachable r k h = let f = charge_fresh (piece_cost cost r) (metered cost r) k h.0 h.1 in (((f.1, tt), f.0), refl)
  single_pays a (Throw t) r k h = let f = charge_fresh (piece_cost cost r) (metered cost r) k h.0 h.1 in (((f.1, tt), f.0), refl)
  single_pays a ThrowRef r k h = let f = charge_fresh (piece_cost cost r) (metered cost r) k h.0 h.1 in (((f.1, tt), f.0), refl)
  single_pays a (Rethrow n) r k h = let f = charge_fresh (piece_cost cost r) (metered cost r) k h.0 h.1 in (((f.1, tt), f.0), refl)
  single_pays a TailCall r k h = let f = charge_fresh (piece_cost cost r) (metered cost r) k h.0 h.1 in (((f.1, tt), f.0), refl)

  -- after what opens a construct
  opened_pays : (a : A) (k : Construct) (x : List (Marked O)) → Fresh x → Pieced (with_control (Own a) (Opens k) ∷ x) × (needed (with_control (Own a) (Opens k) ∷ x) ≡ cost a)
  opened_pays a k x f = (((f.1, tt), f.0), omega arith)

  -- a sequence that begins with what pays for its first piece
  abbrev paid_text : Sequence A → List (Marked O) → List (Marked O)
  paid_text s k = text (with_charge false (piece_cost cost s) (metered cost s)) k

  paid_fresh : (s : Sequence A) (k : List (Marked O)) → Pays s (text (metered cost s) k) → Fresh (paid_text s k)
  paid_fresh s k h = charge_fresh (piece_cost cost s) (metered cost s) k h.0 h.1

  mutual
    text_pays : (s : Sequence A) (k : List (Marked O)) → Fresh k → Pays s (text (metered cost s) k)
    text_pays Empty k f = f
    text_pays (Single a action r) k f = single_pays a action r k (text_pays r k f)
    text_pays (Wrapped a w b e r) k f =
        let rest = paid_fresh r k (text_pays r k f) in opened_pays a (construct_of w) (paid_text b (with_control (Own e) End ∷ paid_text r k)) (let z = with_control (Own e) End ∷ paid_text r k in paid_fresh b z (text_pays b z (((rest.1, tt), rest.0), refl)))
    text_pays (IfThen a b e r) k f =
        let rest = paid_fresh r k (text_pays r k f) in opened_pays a If (paid_text b (with_control (Own e) End ∷ paid_text r k)) (let z = with_control (Own e) End ∷ paid_text r k in paid_fresh b z (text_pays b z (((rest.1, tt), rest.0), refl)))
    text_pays (IfElse a b l c e r) k f =
        let rest = paid_fresh r k (text_pays r k f) in
        let z = with_control (Own e) End ∷ paid_text r k in
        let other = paid_fresh c z (text_pays c z (((rest.1, tt), rest.0), refl)) in
        opened_pays a If (paid_text b (with_control (Own l) Else ∷ paid_text c z)) (let y = with_control (Own l) Else ∷ paid_text c z in paid_fresh b y (text_pays b y (((other.1, tt), other.0), refl)))
    text_pays (TryCatch a b cs r) k f =
        let z = clauses_text (metered_clauses cost cs) (paid_text r k) in
        opened_pays a Try (paid_text b z) (paid_fresh b z (text_pays b z (clauses_pay cs (paid_text r k) (paid_fresh r k (text_pays r k f)))))
    text_pays (TryDelegate a b e n r) k f =
        let rest = paid_fresh r k (text_pays r k f) in
        let z = with_control (Own e) (Delegate n) ∷ paid_text r k in
        opened_pays a Try (paid_text b z) (paid_fresh b z (text_pays b z (((rest.1, tt), rest.0), refl)))

    clauses_pay : (cs : Clauses A) (k : List (Marked O)) → Fresh k → Fresh (clauses_text (metered_clauses cost cs) k)
    clauses_pay (Ended e) k f = (((f.1, tt), f.0), refl)
    clauses_pay (Catches a t b cs) k f =
        let z = clauses_text (metered_clauses cost cs) k in
        let h = paid_fresh b z (text_pays b z (clauses_pay cs k f)) in (((h.1, tt), h.0), refl)
    clauses_pay (CatchesAll a b e) k f =
        let h = paid_fresh b (with_control (Own e) End ∷ k) (text_pays b (with_control (Own e) End ∷ k) (((f.1, tt), f.0), refl)) in (((h.1, tt), h.0), refl)

  pub metered_fresh : (b : Body A) → Fresh (body_text (metered_body cost b))
  metered_fresh b = let z = with_control (Own b.close) End ∷ [] in paid_fresh b.sequence z (text_pays b.sequence z (((refl, tt), tt), refl))

pub metered_is_paid : (A : Type 0) → MeteredIsPaid A
metered_is_paid A cost b os t =
    let f = metered_fresh A cost b in
    subst (λ k. PaidAfter A cost k (run (body_text (metered_body cost b)) os t)) f.1
    (from_paid A cost t (body_text (metered_body cost b)) [] f.0 tt os) 0 0 (omega arith)
