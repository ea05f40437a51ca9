-- Each run of a metered body is charged exactly: at each charge, and where it returns, what was charged is what was used. Nothing is said after
-- an exception is caught, so that an exception is either caught or escapes. A run returns where its operators end, and not because the count of
-- operators of a turn runs out: after each step fewer operators are left (`Nested`).
use Rattle.std.proofs.Common.{◌≡◌, ℕ, zero, suc, ◌+◌, ◌-◌, ◌≤◌, List, [], ◌∷◌, length, Bool, true, false, cond, Option, Some, None, refl, sym, ap, ◌∙◌, subst, arith}
use Rattle.wasm_body.specs.Control.{Action, Nop, Plain, Branch, ConditionalBranch, TableBranch, Return, Unreachable, Throw, ThrowRef, Rethrow, TailCall, Construct, Block, Loop, TryTable, If, Try, Control, Does, Opens, Else, Catch, CatchAll, End, Delegate, Marked, with_control}
use Rattle.wasm_body.specs.SourceTree.{body_text}
use Rattle.wasm_body.specs.Machine.{Shape, Opener, Part, Closer, Other, control_shape, Found, seek_at, seek, tail, after_closer, Tags, has, Outcome, Go, Trap, Raise, Way, Entry, Executed, Returned, TailCalled, Trapped, TurnsOut, Mismatch, Run, ends, then, Label, label, From, Response, Passes, Hands, Jumps, Enters, responds, arrive, branch, react, raise, caught_at, rethrow, target, take_outcome, take_way, take_entry, act, is_else, other_at, other_way, enter, leave, step, straight, bounded_run, run}
use Rattle.wasm_insertion.specs.Insertion.{Origin, Own, Added, goes_straight, metered_body, IsExact, MeteredIsExact}
use Rattle.wasm_insertion.proofs.Metering.{needs, needed, After, Fits, Pieced, Fresh, FreshLabels, Parted, is_straight, seek_parted, closer_fresh, metered_fresh}

-- ---- lengths

shorter_yet : (k m n : ℕ) → k ≤ m → m ≤ n → k ≤ n
shorter_yet k m n h i = omega (arith, h, i)

none_shorter : (m : ℕ) → suc m ≤ 0 → ⊥
none_shorter m h = omega (arith, h)

tail_shorter : {X : Type 0} → (xs : List X) → length (tail xs) ≤ length xs
tail_shorter [] = omega arith
tail_shorter (x ∷ xs) = omega arith

module _ (A : Type 0) (cost : A → ℕ) where
  abbrev O : Type 0
  O = Origin A ℕ

  -- ---- places

  abbrev none : Control → Bool
  none c = false

  at_shorter : (n : ℕ) (s : Shape) (d : ℕ) (p : Bool) (i : ℕ) (here : List (Marked O)) (on : ℕ → ℕ → Found O) → length here ≤ n
      → ((d i : ℕ) → length (on d i).rest ≤ n) → length (seek_at s d p i here on).rest ≤ n
  at_shorter n Opener d p i here on g h = h (suc d) i
  at_shorter n Other d p i here on g h = h d i
  at_shorter n Closer zero p i here on g h = g
  at_shorter n Closer (suc d) p i here on g h = h d i
  at_shorter n Part zero true i here on g h = g
  at_shorter n Part zero false i here on g h = h zero (suc i)
  at_shorter n Part (suc d) p i here on g h = h (suc d) i

  seek_shorter : (test : Control → Bool) (d i : ℕ) (xs : List (Marked O)) → length (seek test d i xs).rest ≤ length xs
  seek_shorter test d i [] = omega arith
  seek_shorter test d i (x ∷ xs) =
      at_shorter (length (x ∷ xs)) (control_shape x.control) d (test x.control) i (x ∷ xs) (λ d j. seek test d j xs) (omega arith)
      (λ d j. shorter_yet (length (seek test d j xs).rest) (length xs) (length (x ∷ xs)) (seek_shorter test d j xs) (omega arith))

  closer_shorter : (i : ℕ) (xs : List (Marked O)) → length (tail (seek none 0 i xs).rest) ≤ length xs
  closer_shorter i xs =
      shorter_yet (length (tail (seek none 0 i xs).rest)) (length (seek none 0 i xs).rest) (length xs) (tail_shorter (seek none 0 i xs).rest)
      (seek_shorter none 0 i xs)

  -- the parts that a search counts don't change the place that it finds
  at_same : (s : Shape) (d : ℕ) (p : Bool) (i j : ℕ) (here : List (Marked O)) (on : ℕ → ℕ → Found O) → ((d i j : ℕ) → (on d i).rest ≡ (on d j).rest)
      → (seek_at s d p i here on).rest ≡ (seek_at s d p j here on).rest
  at_same Opener d p i j here on h = h (suc d) i j
  at_same Other d p i j here on h = h d i j
  at_same Closer zero p i j here on h = refl
  at_same Closer (suc d) p i j here on h = h d i j
  at_same Part zero true i j here on h = refl
  at_same Part zero false i j here on h = h zero (suc i) (suc j)
  at_same Part (suc d) p i j here on h = h (suc d) i j

  count_same : (test : Control → Bool) (d i j : ℕ) (xs : List (Marked O)) → (seek test d i xs).rest ≡ (seek test d j xs).rest
  count_same test d i j [] = refl
  count_same test d i j (x ∷ xs) =
      at_same (control_shape x.control) d (test x.control) i j (x ∷ xs) (λ d j. seek test d j xs) (λ d i j. count_same test d i j xs)

  -- after a construct, the closer of the construct around it is found as from within
  outer_at : (s : Shape) (d i j : ℕ) (x : Marked O) (xs : List (Marked O))
      → ((d i j : ℕ) → tail (seek none (suc d) i xs).rest ≡ after_closer (tail (seek none d j xs).rest))
      → tail (seek_at s (suc d) false i (x ∷ xs) (λ d j. seek none d j xs)).rest
      ≡ after_closer (tail (seek_at s d false j (x ∷ xs) (λ d j. seek none d j xs)).rest)
  outer_at Opener d i j x xs h = h (suc d) i j
  outer_at Other d i j x xs h = h d i j
  outer_at Closer zero i j x xs h = ap tail (count_same none 0 i 0 xs)
  outer_at Closer (suc d) i j x xs h = h d i j
  outer_at Part zero i j x xs h = h zero i (suc j)
  outer_at Part (suc d) i j x xs h = h (suc d) i j

  outer_closer : (d i j : ℕ) (xs : List (Marked O)) → tail (seek none (suc d) i xs).rest ≡ after_closer (tail (seek none d j xs).rest)
  outer_closer d i j [] = refl
  outer_closer d i j (x ∷ xs) = outer_at (control_shape x.control) d i j x xs (λ d i j. outer_closer d i j xs)

  -- the place is in the constructs of these labels: each closes where its label says
  abbrev Nested : List (Marked O) → List (Label O) → Type 0
  Nested r [] = Unit {0}
  Nested r (l ∷ ls) = (after_closer l.following ≡ after_closer r) × Nested (after_closer r) ls

  does_nested : (x : O) (action : Action) (r : List (Marked O)) (ls : List (Label O)) → Nested (with_control x (Does action) ∷ r) ls → Nested r ls
  does_nested x action r [] g = tt
  does_nested x action r (l ∷ ls) g = g

  opens_nested : (x : O) (k : Construct) (r : List (Marked O)) (ls : List (Label O)) → Nested (with_control x (Opens k) ∷ r) ls → Nested (after_closer r) ls
  opens_nested x k r [] g = tt
  opens_nested x k r (l ∷ ls) g = let e = outer_closer 0 0 0 r in (g.0 ∙ e, subst (λ z. Nested z ls) e g.1)

  -- What a search for `else` finds in a construct that closes before z.
  abbrev IsElseOrEnd : Control → (z xs : List (Marked O)) → Type 0
  IsElseOrEnd Else z xs = z ≡ after_closer xs
  IsElseOrEnd End z xs = z ≡ xs
  IsElseOrEnd (Delegate n) z xs = z ≡ xs
  IsElseOrEnd _ z xs = ⊥

  abbrev ElseOrEnd : (z q : List (Marked O)) → Type 0
  ElseOrEnd z [] = Unit {0}
  ElseOrEnd z (x ∷ xs) = IsElseOrEnd x.control z xs

  else_at : (c : Control) (d i j : ℕ) (x : O) (xs : List (Marked O)) → ((d i j : ℕ) → ElseOrEnd (tail (seek none d i xs).rest) (seek is_else d j xs).rest)
      → ElseOrEnd (tail (seek_at (control_shape c) d false i (with_control x c ∷ xs) (λ d j. seek none d j xs)).rest)
      (seek_at (control_shape c) d (is_else c) j (with_control x c ∷ xs) (λ d j. seek is_else d j xs)).rest
  else_at (Does action) d i j x xs h = h d i j
  else_at (Opens k) d i j x xs h = h (suc d) i j
  else_at Else zero i j x xs h = ap tail (count_same none 0 (suc i) 0 xs)
  else_at Else (suc d) i j x xs h = h (suc d) i j
  else_at (Catch t) zero i j x xs h = h zero (suc i) (suc j)
  else_at (Catch t) (suc d) i j x xs h = h (suc d) i j
  else_at CatchAll zero i j x xs h = h zero (suc i) (suc j)
  else_at CatchAll (suc d) i j x xs h = h (suc d) i j
  else_at End zero i j x xs h = refl
  else_at End (suc d) i j x xs h = h d i j
  else_at (Delegate n) zero i j x xs h = refl
  else_at (Delegate n) (suc d) i j x xs h = h d i j

  else_found : (d i j : ℕ) (xs : List (Marked O)) → ElseOrEnd (tail (seek none d i xs).rest) (seek is_else d j xs).rest
  else_found d i j [] = tt
  else_found d i j (x ∷ xs) = else_at x.control d i j x.shown xs (λ d i j. else_found d i j xs)

  -- ---- runs

  abbrev Exact : ℕ → ℕ → Run O → Type 0
  Exact charged used r = IsExact cost r.ending charged used r.events

  -- exact, whenever k more was charged than what was used
  abbrev ExactAfter : ℕ → Run O → Type 0
  ExactAfter k r = (charged used : ℕ) → used + k ≡ charged → Exact charged used r

  -- an exception that is caught, or that escapes
  abbrev Silent : Run O → Type 0
  Silent r = (charged used : ℕ) → Exact charged used r

  settled : ExactAfter 0 (ends Returned)
  settled charged used e = omega (arith, e)

  own_exact : (a : A) (k : ℕ) (r : Run O) → ExactAfter k r → ExactAfter (cost a + k) (then (Executed (Own a)) r)
  own_exact a k r h charged used e = h charged (used + cost a) (omega (arith, e))

  cond_exact : (w : Bool) (k : ℕ) (p q : Run O) → ExactAfter k p → ExactAfter k q → ExactAfter k (cond w p q)
  cond_exact true k p q h i = h
  cond_exact false k p q h i = i

  outcome_exact : (may_raise : Tags → Bool) (may_trap : Bool) (a : A) (k : ℕ) (on : List Outcome → Run O) (raised : Tags → List Outcome → Run O)
      → ((os : List Outcome) → ExactAfter (cost a + k) (on os)) → ((s : Tags) (os : List Outcome) → Silent (raised s os))
      → (os : List Outcome) → ExactAfter (cost a + k) (take_outcome may_raise may_trap (Own a) on raised os)
  outcome_exact p y a k on raised h i [] = λ charged used e. tt
  outcome_exact p y a k on raised h i (Go ∷ os) = h os
  outcome_exact p y a k on raised h i (Trap ∷ os) =
      cond_exact y (cost a + k) (then (Executed (Own a)) (ends Trapped)) (ends Mismatch) (λ charged used e. tt) (λ charged used e. tt)
  outcome_exact p y a k on raised h i (Raise s ∷ os) =
      cond_exact (p s) (cost a + k) (then (Executed (Own a)) (raised s os)) (ends Mismatch) (λ charged used e. i s os charged (used + cost a))
      (λ charged used e. tt)
  outcome_exact p y a k on raised h i (Way w ∷ os) = λ charged used e. tt
  outcome_exact p y a k on raised h i (Entry n ∷ os) = λ charged used e. tt

  way_exact : (a : A) (k : ℕ) (on : Bool → List Outcome → Run O) → ((w : Bool) (os : List Outcome) → ExactAfter k (on w os))
      → (os : List Outcome) → ExactAfter (cost a + k) (take_way (Own a) on os)
  way_exact a k on h [] = λ charged used e. tt
  way_exact a k on h (Way w ∷ os) = own_exact a k (on w os) (h w os)
  way_exact a k on h (Go ∷ os) = λ charged used e. tt
  way_exact a k on h (Trap ∷ os) = λ charged used e. tt
  way_exact a k on h (Raise s ∷ os) = λ charged used e. tt
  way_exact a k on h (Entry n ∷ os) = λ charged used e. tt

  entry_exact : (a : A) (k : ℕ) (on : ℕ → List Outcome → Run O) → ((n : ℕ) (os : List Outcome) → ExactAfter k (on n os))
      → (os : List Outcome) → ExactAfter (cost a + k) (take_entry (Own a) on os)
  entry_exact a k on h [] = λ charged used e. tt
  entry_exact a k on h (Entry n ∷ os) = own_exact a k (on n os) (h n os)
  entry_exact a k on h (Go ∷ os) = λ charged used e. tt
  entry_exact a k on h (Trap ∷ os) = λ charged used e. tt
  entry_exact a k on h (Raise s ∷ os) = λ charged used e. tt
  entry_exact a k on h (Way w ∷ os) = λ charged used e. tt

  -- from each place with at most so many operators, and from each place
  abbrev SafeWithin : ℕ → From O → Type 0
  SafeWithin n go =
      (r : List (Marked O)) (ls : List (Label O)) → length r ≤ n → Nested r ls → Pieced A cost r → FreshLabels A cost ls → (os : List Outcome)
      → ExactAfter (needed A cost r) (go r ls os)

  abbrev SafeAgain : From O → Type 0
  SafeAgain again =
      (r : List (Marked O)) (ls : List (Label O)) → Nested r ls → Pieced A cost r → FreshLabels A cost ls → (os : List Outcome)
      → ExactAfter (needed A cost r) (again r ls os)

  module _ (n : ℕ) (again go : From O) (ha : SafeAgain again) (hg : SafeWithin n go) where
    -- a place where a piece begins
    fresh_exact : (r : List (Marked O)) (ls : List (Label O)) → length r ≤ n → Nested r ls → Fresh A cost r → FreshLabels A cost ls → (os : List Outcome)
        → ExactAfter 0 (go r ls os)
    fresh_exact r ls le ns g gs os = subst (λ k. ExactAfter k (go r ls os)) g.1 (hg r ls le ns g.0 gs os)

    after_exact : (l : Label O) (ls : List (Label O)) (r : List (Marked O)) → length (after_closer r) ≤ n → Nested r (l ∷ ls) → Fresh A cost l.following
        → FreshLabels A cost ls → (os : List Outcome) → ExactAfter 0 (go (after_closer l.following) ls os)
    after_exact l ls r le ns g gs os =
        fresh_exact (after_closer l.following) ls (subst (λ z. length z ≤ n) (sym ns.0) le) (subst (λ z. Nested z ls) (sym ns.0) ns.1)
        (closer_fresh A cost l.following g.0) gs os

    arrive_exact : (k : Construct) (l : Label O) (ls : List (Label O)) (r : List (Marked O)) → length (after_closer r) ≤ n → Nested r (l ∷ ls)
        → Fresh A cost l.following → FreshLabels A cost ls → (os : List Outcome) → ExactAfter 0 (arrive again go k l ls os)
    arrive_exact Loop l ls r le ns g gs os =
        subst (λ k. ExactAfter k (again l.following (l ∷ ls) os)) g.1
        (ha l.following (l ∷ ls) (refl, subst (λ z. Nested z ls) (sym ns.0) ns.1) g.0 (g, gs) os)
    arrive_exact Block l ls r le ns g gs os = after_exact l ls r le ns g gs os
    arrive_exact If l ls r le ns g gs os = after_exact l ls r le ns g gs os
    arrive_exact Try l ls r le ns g gs os = after_exact l ls r le ns g gs os
    arrive_exact (TryTable cs) l ls r le ns g gs os = after_exact l ls r le ns g gs os

    within : (i : ℕ) (r : List (Marked O)) → length r ≤ n → length (tail (seek none 0 i r).rest) ≤ n
    within i r le = shorter_yet (length (tail (seek none 0 i r).rest)) (length r) n (closer_shorter i r) le

    branch_exact : (m : ℕ) (ls : List (Label O)) (r : List (Marked O)) → length r ≤ n → Nested r ls → FreshLabels A cost ls → (os : List Outcome)
        → ExactAfter 0 (branch again go m ls os)
    branch_exact m [] r le ns gs os = settled
    branch_exact zero (l ∷ ls) r le ns gs os =
        arrive_exact l.construct l ls r (within 0 r le) ns gs.0 gs.1 os
    branch_exact (suc m) (l ∷ ls) r le ns gs os =
        branch_exact m ls (after_closer r) (within 0 r le) ns.1 gs.1 os

    react_silent : (outward : ℕ → Run O) (s : Tags) (l : Label O) (ls : List (Label O)) (os : List Outcome) → ((m : ℕ) → Silent (outward m)) → (q : Response O)
        → Silent (react again go outward s l ls os q)
    react_silent out s l ls os h Passes = h 0
    react_silent out s l ls os h (Hands m) = h m
    react_silent out s l ls os h (Jumps i t m) = λ charged used. tt
    react_silent out s l ls os h (Enters i t r) = λ charged used. tt

    raise_silent : (s : Tags) (ls : List (Label O)) (m : ℕ) (os : List Outcome) → Silent (raise again go s ls os m)
    raise_silent s [] m os = λ charged used. tt
    raise_silent s (l ∷ ls) zero os = react_silent (raise again go s ls os) s l ls os (λ m. raise_silent s ls m os) (responds s l)
    raise_silent s (l ∷ ls) (suc m) os = raise_silent s ls m os

    rethrow_silent : (raised : Tags → Run O) → ((s : Tags) → Silent (raised s)) → (c : Option Tags) → Silent (rethrow raised c)
    rethrow_silent raised h None = λ charged used. tt
    rethrow_silent raised h (Some s) = h s

    act_exact : (action : Action) (a : A) (r : List (Marked O)) (ls : List (Label O)) → length r ≤ n → Nested r ls
        → After A cost (goes_straight action) (needed A cost r) → Pieced A cost r → FreshLabels A cost ls → (os : List Outcome)
        → ExactAfter (needs A cost (Own a) (Does action) (needed A cost r)) (act again go action (Own a) r ls os)
    act_exact Nop a r ls le ns f g gs os = hg r ls le ns g gs os
    act_exact Plain a r ls le ns f g gs os =
        outcome_exact (λ s. true) true a (needed A cost r) (λ o. then (Executed (Own a)) (go r ls o)) (λ s o. raise again go s ls o 0)
        (λ o. own_exact a (needed A cost r) (go r ls o) (hg r ls le ns g gs o)) (λ s o. raise_silent s ls 0 o) os
    act_exact (Branch m) a r ls le ns f g gs os = own_exact a 0 (branch again go m ls os) (branch_exact m ls r le ns gs os)
    act_exact (ConditionalBranch m) a r ls le ns f g gs os =
        way_exact a 0 (λ w o. cond w (branch again go m ls o) (go r ls o))
        (λ w o. cond_exact w 0 (branch again go m ls o) (go r ls o) (branch_exact m ls r le ns gs o) (fresh_exact r ls le ns (g, f) gs o)) os
    act_exact (TableBranch ts d) a r ls le ns f g gs os =
        entry_exact a 0 (λ k o. branch again go (target ts d k) ls o) (λ k o. branch_exact (target ts d k) ls r le ns gs o) os
    act_exact Return a r ls le ns f g gs os = own_exact a 0 (ends Returned) settled
    act_exact Unreachable a r ls le ns f g gs os = λ charged used e. tt
    act_exact (Throw t) a r ls le ns f g gs os =
        outcome_exact (λ s. has s t) false a 0 (λ o. ends Mismatch) (λ s o. raise again go s ls o 0) (λ o charged used e. tt)
        (λ s o. raise_silent s ls 0 o) os
    act_exact ThrowRef a r ls le ns f g gs os =
        outcome_exact (λ s. true) true a 0 (λ o. ends Mismatch) (λ s o. raise again go s ls o 0) (λ o charged used e. tt)
        (λ s o. raise_silent s ls 0 o) os
    act_exact (Rethrow m) a r ls le ns f g gs os =
        λ charged used e. rethrow_silent (λ s. raise again go s ls os 0) (λ s. raise_silent s ls 0 os) (caught_at ls m) charged (used + cost a)
    act_exact TailCall a r ls le ns f g gs os =
        outcome_exact (λ s. false) true a 0 (λ o. then (Executed (Own a)) (ends TailCalled)) (λ s o. ends Mismatch)
        (λ o. own_exact a 0 (ends TailCalled) (λ charged used e. omega (arith, e))) (λ s o charged used. tt) os

    -- a charge
    charge_exact : (m : ℕ) (r : List (Marked O)) (ls : List (Label O)) → length r ≤ n → Nested r ls → needed A cost r ≡ m → Pieced A cost r
        → FreshLabels A cost ls → (os : List Outcome) → ExactAfter (needed A cost r - m) (act again go Plain (Added m) r ls os)
    charge_exact m r ls le ns f g gs [] = λ charged used e. tt
    charge_exact m r ls le ns f g gs (Go ∷ os) =
        λ charged used e. (omega (arith, e, f), hg r ls le ns g gs os (charged + m) used (omega (arith, e, f)))
    charge_exact m r ls le ns f g gs (Trap ∷ os) = λ charged used e. (omega (arith, e, f), tt)
    charge_exact m r ls le ns f g gs (Raise s ∷ os) = λ charged used e. (omega (arith, e, f), raise_silent s ls 0 os (charged + m) used)
    charge_exact m r ls le ns f g gs (Way w ∷ os) = λ charged used e. tt
    charge_exact m r ls le ns f g gs (Entry k ∷ os) = λ charged used e. tt

    added_exact : (action : Action) (m : ℕ) (r : List (Marked O)) (ls : List (Label O)) → length r ≤ n → Nested r ls
        → Fits A cost (Added m) (Does action) (needed A cost r) → Pieced A cost r → FreshLabels A cost ls → (os : List Outcome)
        → ExactAfter (needs A cost (Added m) (Does action) (needed A cost r)) (act again go action (Added m) r ls os)
    added_exact Plain m r ls le ns f g gs os = charge_exact m r ls le ns f g gs os
    added_exact Nop m r ls le ns f g gs os = absurd f
    added_exact (Branch k) m r ls le ns f g gs os = absurd f
    added_exact (ConditionalBranch k) m r ls le ns f g gs os = absurd f
    added_exact (TableBranch ts d) m r ls le ns f g gs os = absurd f
    added_exact Return m r ls le ns f g gs os = absurd f
    added_exact Unreachable m r ls le ns f g gs os = absurd f
    added_exact (Throw t) m r ls le ns f g gs os = absurd f
    added_exact ThrowRef m r ls le ns f g gs os = absurd f
    added_exact (Rethrow k) m r ls le ns f g gs os = absurd f
    added_exact TailCall m r ls le ns f g gs os = absurd f

    other_one : (c : Control) (xs : List (Marked O)) (l : Label O) (ls : List (Label O)) (r : List (Marked O)) → l.following ≡ r
        → IsElseOrEnd c (after_closer r) xs → length xs ≤ n → Nested (after_closer r) ls → Fresh A cost xs → FreshLabels A cost (l ∷ ls) → (os : List Outcome)
        → ExactAfter 0 (cond (is_else c) (go xs (l ∷ ls) os) (go xs ls os))
    other_one Else xs l ls r h e le ns g gs os =
        fresh_exact xs (l ∷ ls) le (ap after_closer h ∙ e, subst (λ z. Nested z ls) e ns) g gs os
    other_one End xs l ls r h e le ns g gs os = fresh_exact xs ls le (subst (λ z. Nested z ls) e ns) g gs.1 os
    other_one (Delegate k) xs l ls r h e le ns g gs os = fresh_exact xs ls le (subst (λ z. Nested z ls) e ns) g gs.1 os
    other_one (Does action) xs l ls r h e le ns g gs os = absurd e
    other_one (Opens k) xs l ls r h e le ns g gs os = absurd e
    other_one (Catch t) xs l ls r h e le ns g gs os = absurd e
    other_one CatchAll xs l ls r h e le ns g gs os = absurd e

    other_exact : (q : List (Marked O)) (l : Label O) (ls : List (Label O)) (r : List (Marked O)) → l.following ≡ r → ElseOrEnd (after_closer r) q
        → length q ≤ n → Nested (after_closer r) ls → Parted A cost q → FreshLabels A cost (l ∷ ls) → (os : List Outcome)
        → ExactAfter 0 (other_at go l ls os q)
    other_exact [] l ls r h e le ns g gs os = settled
    other_exact (x ∷ xs) l ls r h e le ns g gs os =
        other_one x.control xs l ls r h e (shorter_yet (length xs) (length (x ∷ xs)) n (omega arith) le) ns g gs os

    -- into a construct
    into_exact : (a : A) (l : Label O) (r : List (Marked O)) (ls : List (Label O)) → l.following ≡ r → length r ≤ n → Nested (after_closer r) ls → Fresh A cost r
        → FreshLabels A cost ls → (os : List Outcome) → ExactAfter 0 (go r (l ∷ ls) os)
    into_exact a l r ls h le ns g gs os = fresh_exact r (l ∷ ls) le (ap after_closer h, ns) g (subst (Fresh A cost) (sym h) g, gs) os

    enter_exact : (k : Construct) (a : A) (r : List (Marked O)) (ls : List (Label O)) → length r ≤ n → Nested (after_closer r) ls → Fresh A cost r
        → FreshLabels A cost ls → (os : List Outcome) → ExactAfter (cost a + 0) (enter go k (Own a) r ls os)
    enter_exact Block a r ls le ns g gs os =
        let l = label (Own a) Block r in own_exact a 0 (go r (l ∷ ls) os) (into_exact a l r ls refl le ns g gs os)
    enter_exact Loop a r ls le ns g gs os =
        let l = label (Own a) Loop r in own_exact a 0 (go r (l ∷ ls) os) (into_exact a l r ls refl le ns g gs os)
    enter_exact Try a r ls le ns g gs os =
        let l = label (Own a) Try r in own_exact a 0 (go r (l ∷ ls) os) (into_exact a l r ls refl le ns g gs os)
    enter_exact (TryTable cs) a r ls le ns g gs os =
        let l = label (Own a) (TryTable cs) r in own_exact a 0 (go r (l ∷ ls) os) (into_exact a l r ls refl le ns g gs os)
    enter_exact If a r ls le ns g gs os =
        let l = label (Own a) If r in
        let q = (seek is_else 0 0 r).rest in
        way_exact a 0 (λ w o. cond w (go r (l ∷ ls) o) (other_way go l ls o (seek is_else 0 0 r)))
        (λ w o. cond_exact w 0 (go r (l ∷ ls) o) (other_way go l ls o (seek is_else 0 0 r)) (into_exact a l r ls refl le ns g gs o)
        (other_exact q l ls r refl (else_found 0 0 0 r) (shorter_yet (length q) (length r) n (seek_shorter is_else 0 0 r) le) ns
        (seek_parted A cost is_else 0 0 r g.0) (g, gs) o)) os

    leave_exact : (ls : List (Label O)) (r : List (Marked O)) → length (after_closer r) ≤ n → Nested r ls → FreshLabels A cost ls → (os : List Outcome)
        → ExactAfter 0 (leave go ls os)
    leave_exact [] r le ns gs os = settled
    leave_exact (l ∷ ls) r le ns gs os = after_exact l ls r le ns gs.0 gs.1 os

    step_exact : (c : Control) (x : O) (r : List (Marked O)) (ls : List (Label O)) → length r ≤ n → Nested (with_control x c ∷ r) ls
        → After A cost (is_straight A cost c) (needed A cost r) → Fits A cost x c (needed A cost r) → Pieced A cost r → FreshLabels A cost ls → (os : List Outcome)
        → ExactAfter (needs A cost x c (needed A cost r)) (step again go c x r ls os)
    step_exact (Does action) (Own a) r ls le ns f w g gs os = act_exact action a r ls le (does_nested (Own a) action r ls ns) f g gs os
    step_exact (Does action) (Added m) r ls le ns f w g gs os = added_exact action m r ls le (does_nested (Added m) action r ls ns) w g gs os
    step_exact (Opens k) (Own a) r ls le ns f w g gs os = enter_exact k a r ls le (opens_nested (Own a) k r ls ns) (g, f) gs os
    step_exact (Opens k) (Added m) r ls le ns f w g gs os = absurd w
    step_exact Else x r ls le ns f w g gs os = leave_exact ls (with_control x Else ∷ r) (within 1 r le) ns gs os
    step_exact (Catch t) x r ls le ns f w g gs os = leave_exact ls (with_control x (Catch t) ∷ r) (within 1 r le) ns gs os
    step_exact CatchAll x r ls le ns f w g gs os = leave_exact ls (with_control x CatchAll ∷ r) (within 1 r le) ns gs os
    step_exact End x r ls le ns f w g gs os = leave_exact ls (with_control x End ∷ r) le ns gs os
    step_exact (Delegate k) x r ls le ns f w g gs os = leave_exact ls (with_control x (Delegate k) ∷ r) le ns gs os

  straight_exact : (again : From O) → SafeAgain again → (n : ℕ) → SafeWithin n (straight again n)
  straight_exact again ha zero [] ls le ns g gs os = settled
  straight_exact again ha zero (x ∷ xs) ls le ns g gs os = absurd (none_shorter (length xs) le)
  straight_exact again ha (suc n) [] ls le ns g gs os = settled
  straight_exact again ha (suc n) (x ∷ xs) ls le ns g gs os =
      step_exact n again (straight again n) ha (straight_exact again ha n) x.control x.shown xs ls (omega (arith, le)) ns g.0.0 g.0.1 g.1 gs os

  from_exact : (t : ℕ) → SafeAgain (bounded_run length t)
  from_exact zero r ls ns g gs os =
      straight_exact (λ r l o. ends TurnsOut) (λ r ls ns g gs os charged used e. tt) (length r) r ls (omega arith) ns g gs os
  from_exact (suc t) r ls ns g gs os = straight_exact (bounded_run length t) (from_exact t) (length r) r ls (omega arith) ns g gs os

pub metered_is_exact : (A : Type 0) → MeteredIsExact A
metered_is_exact A cost b os t =
    let f = metered_fresh A cost b in
    subst (λ k. ExactAfter A cost k (run (body_text (metered_body cost b)) os t)) f.1
    (from_exact A cost t (body_text (metered_body cost b)) [] tt f.0 tt os) 0 0 (omega arith)
