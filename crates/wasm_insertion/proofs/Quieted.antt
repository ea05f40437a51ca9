-- Some plain operators of a list are made into `nop`, which asks for no outcome and gives no event, and each operator is shown in another
-- way. The runs of the two lists are in any relation that is kept by the ways in which the machine makes runs.
use Rattle.std.proofs.Common.{◌≡◌, ℕ, zero, suc, List, [], ◌∷◌, length, map, Bool, true, false, cond, Option, Some, None, refl, sym, ap, ◌∙◌, subst}
use Rattle.std.specs.List.{AllByRecursion}
use Rattle.wasm_insertion.specs.Insertion.{asks_outcome, SaysIfAsks}
use Rattle.wasm_body.specs.Control.{Action, Nop, Plain, Branch, ConditionalBranch, TableBranch, Return, Unreachable, Throw, ThrowRef, Rethrow, TailCall, Clause, Construct, Block, Loop, TryTable, If, Try, Control, Does, Opens, Else, Catch, CatchAll, End, Delegate, Marked, with_control}
use Rattle.wasm_body.specs.Machine.{Shape, Opener, Part, Closer, Other, control_shape, Found, found, seek_at, seek, tail, after_closer, Tags, has, Outcome, Executed, Taken, Ending, Returned, TailCalled, Trapped, Escaped, TurnsOut, Mismatch, Run, ends, then, Label, label, handler, From, Response, Passes, Hands, Jumps, Enters, takes, jump, catches, clause_at, clause_found, try_responds, responds_as, responds, arrive, branch, react, raise, caught_at, rethrow, target, take_outcome, take_way, take_entry, act, is_else, other_at, other_way, enter, leave, step, straight, bounded_run, run}

-- ---- what becomes of an operator

abbrev pub quiet_action : Bool → Action → Action
quiet_action true Plain = Nop
quiet_action b action = action

abbrev pub quiet : Bool → Control → Control
quiet b (Does action) = Does (quiet_action b action)
quiet b c = c

-- The runs from one place, one for each list of outcomes.
abbrev pub Runs : Type 0 → Type 0
Runs B = List Outcome → Run B

-- A relation on runs, of operators and of what is shown for them in the second list, that is kept by the ways in which the machine makes
-- runs. An operator that is added gets Go and goes on, or stops.
pub record Kept {B C : Type 0} (show : B → C) (added asks : B → Bool) (R : Runs B → Runs C → Type 0) : Type 0 where
  pub ended : (e : Ending) → R (λ o. ends e) (λ o. ends e)
  pub caught : (a : B) (i : ℕ) (t : Option ℕ) (f' : Runs B) (f : Runs C) → R f' f
      → R (λ o. then (Taken a i t) (f' o)) (λ o. then (Taken (show a) i t) (f o))
  -- an operator that asks for no outcome
  pub executed : (a : B) → asks a ≡ false → (f' : Runs B) (f : Runs C) → R f' f
      → R (λ o. then (Executed a) (f' o)) (λ o. then (Executed (show a)) (f o))
  -- one that may go on, and one that may not
  pub going : (may_raise : Tags → Bool) (may_trap : Bool) (a : B) → asks a ≡ true → (f' : Runs B) (f : Runs C) (raised' : Tags → Runs B)
      (raised : Tags → Runs C) → R f' f → ((tags : Tags) → R (raised' tags) (raised tags))
      → R (take_outcome may_raise may_trap a (λ o. then (Executed a) (f' o)) raised')
      (take_outcome may_raise may_trap (show a) (λ o. then (Executed (show a)) (f o)) raised)
  pub throwing : (may_raise : Tags → Bool) (may_trap : Bool) (a : B) → asks a ≡ true → (raised' : Tags → Runs B) (raised : Tags → Runs C)
      → ((tags : Tags) → R (raised' tags) (raised tags))
      → R (take_outcome may_raise may_trap a (λ o. ends Mismatch) raised') (take_outcome may_raise may_trap (show a) (λ o. ends Mismatch) raised)
  pub way : (a : B) → asks a ≡ true → (on' : Bool → Runs B) (on : Bool → Runs C) → ((w : Bool) → R (on' w) (on w))
      → R (take_way a on') (take_way (show a) on)
  pub entry : (a : B) → asks a ≡ true → (on' : ℕ → Runs B) (on : ℕ → Runs C) → ((k : ℕ) → R (on' k) (on k))
      → R (take_entry a on') (take_entry (show a) on)
  pub goes_on : (a : B) → added a ≡ true → (f' : Runs B) (f : Runs C) (raised' : Tags → Runs B) → R f' f
      → R (take_outcome (λ s. true) true a (λ o. then (Executed a) (f' o)) raised') f

module _ (B C : Type 0) (show : B → C) (added : B → Bool) where
  abbrev pub quieted : Marked B → Marked C
  quieted x = with_control (show x.shown) (quiet (added x.shown) x.control)

  abbrev pub moved : List (Marked B) → List (Marked C)
  moved xs = map quieted xs

  abbrev relabel : Label B → Label C
  relabel l = record { opener = show l.opener; construct = l.construct; following = moved l.following; caught = l.caught }

  abbrev relabels : List (Label B) → List (Label C)
  relabels ls = map relabel ls

  abbrev move_found : Found B → Found C
  move_found g = found g.passed (moved g.rest)

  abbrev move_response : Response B → Response C
  move_response Passes = Passes
  move_response (Hands n) = Hands n
  move_response (Jumps i t n) = Jumps i t n
  move_response (Enters i t r) = Enters i t (moved r)

  at_moved : (s : Shape) (d : ℕ) (y : Bool) (i : ℕ) (here : List (Marked B)) (on : ℕ → ℕ → Found B) (on' : ℕ → ℕ → Found C)
      → ((d j : ℕ) → on' d j ≡ move_found (on d j)) → seek_at s d y i (moved here) on' ≡ move_found (seek_at s d y i here on)
  at_moved Opener d y i here on on' h = h (suc d) i
  at_moved Other d y i here on on' h = h d i
  at_moved Closer zero y i here on on' h = refl
  at_moved Closer (suc d) y i here on on' h = h d i
  at_moved Part zero true i here on on' h = refl
  at_moved Part zero false i here on on' h = h zero (suc i)
  at_moved Part (suc d) y i here on on' h = h (suc d) i

  -- a search takes no notice of what an operator by itself does
  one_moved : (b : Bool) (c : Control) (test : Control → Bool) (d i : ℕ) (here : List (Marked B)) (on : ℕ → ℕ → Found B) (on' : ℕ → ℕ → Found C)
      → ((d j : ℕ) → on' d j ≡ move_found (on d j))
      → seek_at (control_shape (quiet b c)) d (test (quiet b c)) i (moved here) on' ≡ move_found (seek_at (control_shape c) d (test c) i here on)
  one_moved b (Does action) test d i here on on' h = h d i
  one_moved b (Opens k) test d i here on on' h = at_moved Opener d (test (Opens k)) i here on on' h
  one_moved b Else test d i here on on' h = at_moved Part d (test Else) i here on on' h
  one_moved b (Catch t) test d i here on on' h = at_moved Part d (test (Catch t)) i here on on' h
  one_moved b CatchAll test d i here on on' h = at_moved Part d (test CatchAll) i here on on' h
  one_moved b End test d i here on on' h = at_moved Closer d (test End) i here on on' h
  one_moved b (Delegate n) test d i here on on' h = at_moved Closer d (test (Delegate n)) i here on on' h

  seek_moved : (test : Control → Bool) (d i : ℕ) (xs : List (Marked B)) → seek test d i (moved xs) ≡ move_found (seek test d i xs)
  seek_moved test d i [] = refl
  seek_moved test d i (x ∷ xs) =
      one_moved (added x.shown) x.control test d i (x ∷ xs) (λ d j. seek test d j xs) (λ d j. seek test d j (moved xs))
      (λ d j. seek_moved test d j xs)

  tail_moved : (xs : List (Marked B)) → tail (moved xs) ≡ moved (tail xs)
  tail_moved [] = refl
  tail_moved (x ∷ xs) = refl

  closer_moved : (xs : List (Marked B)) → after_closer (moved xs) ≡ moved (after_closer xs)
  closer_moved xs = ap (λ g. tail g.rest) (seek_moved (λ c. false) 0 0 xs) ∙ tail_moved (seek (λ c. false) 0 0 xs).rest

  cond_moved : {X Y : Type 0} → (move : X → Y) (y : Bool) (p q : X) (p' q' : Y) → p' ≡ move p → q' ≡ move q
      → cond y p' q' ≡ move (cond y p q)
  cond_moved move true p q p' q' h k = h
  cond_moved move false p q p' q' h k = k

  jump_moved : (tags : Tags) (i : ℕ) (cs : List Clause) → jump tags i cs ≡ move_response (jump tags i cs)
  jump_moved g i [] = refl
  jump_moved g i (c ∷ cs) = cond_moved move_response (takes g c.tag) _ _ _ _ refl (jump_moved g (suc i) cs)

  clause_moved : (b : Bool) (i : ℕ) (c : Control) (r : List (Marked B)) → clause_at i (quiet b c) (moved r) ≡ move_response (clause_at i c r)
  clause_moved b i (Does action) r = refl
  clause_moved b i (Opens k) r = refl
  clause_moved b i Else r = refl
  clause_moved b i (Catch t) r = refl
  clause_moved b i CatchAll r = refl
  clause_moved b i End r = refl
  clause_moved b i (Delegate n) r = refl

  found_moved : (i : ℕ) (r : List (Marked B)) → clause_found i (moved r) ≡ move_response (clause_found i r)
  found_moved i [] = refl
  found_moved i (x ∷ xs) = clause_moved (added x.shown) i x.control xs

  responds_moved : (tags : Tags) (k : Construct) (c : Option Tags) (y : List (Marked B))
      → responds_as tags k c (moved y) ≡ move_response (responds_as tags k c y)
  responds_moved g Block c y = refl
  responds_moved g Loop c y = refl
  responds_moved g If c y = refl
  responds_moved g (TryTable cs) c y = jump_moved g 0 cs
  responds_moved g Try (Some t) y = refl
  responds_moved g Try None y =
      ap (try_responds g) (seek_moved (catches g) 0 0 y) ∙ found_moved (seek (catches g) 0 0 y).passed (seek (catches g) 0 0 y).rest

  caught_moved : (labels : List (Label B)) (n : ℕ) → caught_at (relabels labels) n ≡ caught_at labels n
  caught_moved [] n = refl
  caught_moved (l ∷ ls) zero = refl
  caught_moved (l ∷ ls) (suc n) = caught_moved ls n

  length_moved : (xs : List (Marked B)) → length (moved xs) ≡ length xs
  length_moved [] = refl
  length_moved (x ∷ xs) = ap suc (length_moved xs)

  module _ (asks : B → Bool) where
    -- What is shown for each operator says whether it asks for an outcome.
    abbrev pub Good : List (Marked B) → Type 0
    Good xs = AllByRecursion (λ x. SaysIfAsks (asks x.shown) x.control) xs

    abbrev GoodLabels : List (Label B) → Type 0
    GoodLabels ls = AllByRecursion (λ l. Good l.following) ls

    at_good : (s : Shape) (d : ℕ) (y : Bool) (i : ℕ) (here : List (Marked B)) (on : ℕ → ℕ → Found B) → Good here
        → ((d j : ℕ) → Good (on d j).rest) → Good (seek_at s d y i here on).rest
    at_good Opener d y i here on g h = h (suc d) i
    at_good Other d y i here on g h = h d i
    at_good Closer zero y i here on g h = g
    at_good Closer (suc d) y i here on g h = h d i
    at_good Part zero true i here on g h = g
    at_good Part zero false i here on g h = h zero (suc i)
    at_good Part (suc d) y i here on g h = h (suc d) i

    seek_good : (test : Control → Bool) (d i : ℕ) (xs : List (Marked B)) → Good xs → Good (seek test d i xs).rest
    seek_good test d i [] g = tt
    seek_good test d i (x ∷ xs) g =
        at_good (control_shape x.control) d (test x.control) i (x ∷ xs) (λ d j. seek test d j xs) g (λ d j. seek_good test d j xs g.1)

    tail_good : (xs : List (Marked B)) → Good xs → Good (tail xs)
    tail_good [] g = tt
    tail_good (x ∷ xs) g = g.1

    closer_good : (xs : List (Marked B)) → Good xs → Good (after_closer xs)
    closer_good xs g = tail_good (seek (λ c. false) 0 0 xs).rest (seek_good (λ c. false) 0 0 xs g)

    -- a response enters a good place
    abbrev GoodResponse : Response B → Type 0
    GoodResponse (Enters i t r) = Good r
    GoodResponse _ = Unit {0}

    clause_good : (i : ℕ) (c : Control) (r : List (Marked B)) → Good r → GoodResponse (clause_at i c r)
    clause_good i (Does action) r g = tt
    clause_good i (Opens k) r g = tt
    clause_good i Else r g = tt
    clause_good i (Catch t) r g = g
    clause_good i CatchAll r g = g
    clause_good i End r g = tt
    clause_good i (Delegate n) r g = tt

    found_good : (i : ℕ) (r : List (Marked B)) → Good r → GoodResponse (clause_found i r)
    found_good i [] g = tt
    found_good i (x ∷ xs) g = clause_good i x.control xs g.1

    jump_good : (tags : Tags) (i : ℕ) (cs : List Clause) → GoodResponse (jump tags i cs)
    jump_good g i [] = tt
    jump_good g i (c ∷ cs) = by_clause (takes g c.tag) (jump g (suc i) cs) (jump_good g (suc i) cs)
      where
        by_clause : (y : Bool) (q : Response B) → GoodResponse q → GoodResponse (cond y (Jumps i c.tag c.label) q)
        by_clause true q h = tt
        by_clause false q h = h

    responds_good : (tags : Tags) (k : Construct) (c : Option Tags) (y : List (Marked B)) → Good y → GoodResponse (responds_as tags k c y)
    responds_good s Block c y g = tt
    responds_good s Loop c y g = tt
    responds_good s If c y g = tt
    responds_good s (TryTable cs) c y g = jump_good s 0 cs
    responds_good s Try (Some t) y g = tt
    responds_good s Try None y g = found_good (seek (catches s) 0 0 y).passed (seek (catches s) 0 0 y).rest (seek_good (catches s) 0 0 y g)

    module _ (R : Runs B → Runs C → Type 0) (kept : Kept show added asks R) where
      -- from each place, and from the same place of the other list
      abbrev Related : From B → From C → Type 0
      Related go' go = (r : List (Marked B)) (labels : List (Label B)) → Good r → GoodLabels labels → R (go' r labels) (go (moved r) (relabels labels))

      cond_kept : (w : Bool) (p' q' : Runs B) (p q : Runs C) → R p' p → R q' q → R (λ o. cond w (p' o) (q' o)) (λ o. cond w (p o) (q o))
      cond_kept true p' q' p q h k = h
      cond_kept false p' q' p q h k = k

      module _ (again' go' : From B) (again go : From C) (ha : Related again' again) (hg : Related go' go) where
        after_kept : (y : List (Marked B)) (labels : List (Label B)) → Good y → GoodLabels labels
            → R (go' (after_closer y) labels) (go (after_closer (moved y)) (relabels labels))
        after_kept y ls g gs = subst (λ z. R (go' (after_closer y) ls) (go z (relabels ls))) (sym (closer_moved y)) (hg (after_closer y) ls (closer_good y g) gs)

        arrive_kept : (k : Construct) (l : Label B) (labels : List (Label B)) → Good l.following → GoodLabels labels
            → R (arrive again' go' k l labels) (arrive again go k (relabel l) (relabels labels))
        arrive_kept Loop l ls g gs = ha l.following (l ∷ ls) g (g, gs)
        arrive_kept Block l ls g gs = after_kept l.following ls g gs
        arrive_kept If l ls g gs = after_kept l.following ls g gs
        arrive_kept Try l ls g gs = after_kept l.following ls g gs
        arrive_kept (TryTable cs) l ls g gs = after_kept l.following ls g gs

        branch_kept : (n : ℕ) (labels : List (Label B)) → GoodLabels labels → R (branch again' go' n labels) (branch again go n (relabels labels))
        branch_kept n [] gs = kept.ended Returned
        branch_kept zero (l ∷ ls) gs = arrive_kept l.construct l ls gs.0 gs.1
        branch_kept (suc n) (l ∷ ls) gs = branch_kept n ls gs.1

        react_kept : (outward' : List Outcome → ℕ → Run B) (outward : List Outcome → ℕ → Run C) (tags : Tags) (l : Label B) (labels : List (Label B)) → Good l.following → GoodLabels labels
            → ((n : ℕ) → R (λ o. outward' o n) (λ o. outward o n)) → (q : Response B) → GoodResponse q
            → R (λ o. react again' go' (outward' o) tags l labels o q) (λ o. react again go (outward o) tags (relabel l) (relabels labels) o (move_response q))
        react_kept out' out g l ls gl gs h Passes gq = h 0
        react_kept out' out g l ls gl gs h (Hands n) gq = h n
        react_kept out' out g l ls gl gs h (Jumps i t n) gq =
            kept.caught l.opener i t (branch again' go' n ls) (branch again go n (relabels ls)) (branch_kept n ls gs)
        react_kept out' out g l ls gl gs h (Enters i t r) gq =
            kept.caught l.opener i t (go' r (handler l g ∷ ls)) (go (moved r) (relabels (handler l g ∷ ls))) (hg r (handler l g ∷ ls) gq (gl, gs))

        raise_kept : (tags : Tags) (labels : List (Label B)) (n : ℕ) → GoodLabels labels
            → R (λ o. raise again' go' tags labels o n) (λ o. raise again go tags (relabels labels) o n)
        raise_kept g [] n gs = kept.ended (Escaped g)
        raise_kept g (l ∷ ls) zero gs =
            subst
            (λ q. R (λ o. react again' go' (raise again' go' g ls o) g l ls o (responds g l))
            (λ o. react again go (raise again go g (relabels ls) o) g (relabel l) (relabels ls) o q))
            (sym (responds_moved g l.construct l.caught l.following))
            (react_kept (raise again' go' g ls) (raise again go g (relabels ls)) g l ls gs.0 gs.1 (λ n. raise_kept g ls n gs.1) (responds g l)
            (responds_good g l.construct l.caught l.following gs.0))
        raise_kept g (l ∷ ls) (suc n) gs = raise_kept g ls n gs.1

        rethrow_kept : (raised' : List Outcome → Tags → Run B) (raised : List Outcome → Tags → Run C) → ((tags : Tags) → R (λ o. raised' o tags) (λ o. raised o tags)) → (c : Option Tags)
            → R (λ o. rethrow (raised' o) c) (λ o. rethrow (raised o) c)
        rethrow_kept raised' raised h None = kept.ended Mismatch
        rethrow_kept raised' raised h (Some g) = h g

        act_kept : (action : Action) (a : B) → asks a ≡ asks_outcome (Does action) → (r : List (Marked B)) (labels : List (Label B)) → Good r → GoodLabels labels
            → R (act again' go' action a r labels) (act again go action (show a) (moved r) (relabels labels))
        act_kept Nop a q r ls g gs = hg r ls g gs
        act_kept Plain a q r ls g gs =
            kept.going (λ s. true) true a q (go' r ls) (go (moved r) (relabels ls))
            (λ s o. raise again' go' s ls o 0) (λ s o. raise again go s (relabels ls) o 0) (hg r ls g gs) (λ s. raise_kept s ls 0 gs)
        act_kept (Branch n) a q r ls g gs = kept.executed a q (branch again' go' n ls) (branch again go n (relabels ls)) (branch_kept n ls gs)
        act_kept (ConditionalBranch n) a q r ls g gs =
            kept.way a q (λ w o. cond w (branch again' go' n ls o) (go' r ls o)) (λ w o. cond w (branch again go n (relabels ls) o) (go (moved r) (relabels ls) o))
            (λ w. cond_kept w (branch again' go' n ls) (go' r ls) (branch again go n (relabels ls)) (go (moved r) (relabels ls)) (branch_kept n ls gs) (hg r ls g gs))
        act_kept (TableBranch ts d) a q r ls g gs =
            kept.entry a q (λ k o. branch again' go' (target ts d k) ls o) (λ k o. branch again go (target ts d k) (relabels ls) o)
            (λ k. branch_kept (target ts d k) ls gs)
        act_kept Return a q r ls g gs = kept.executed a q (λ o. ends Returned) (λ o. ends Returned) (kept.ended Returned)
        act_kept Unreachable a q r ls g gs = kept.executed a q (λ o. ends Trapped) (λ o. ends Trapped) (kept.ended Trapped)
        act_kept (Throw t) a q r ls g gs =
            kept.throwing (λ s. has s t) false a q (λ s o. raise again' go' s ls o 0) (λ s o. raise again go s (relabels ls) o 0) (λ s. raise_kept s ls 0 gs)
        act_kept ThrowRef a q r ls g gs =
            kept.throwing (λ s. true) true a q (λ s o. raise again' go' s ls o 0) (λ s o. raise again go s (relabels ls) o 0) (λ s. raise_kept s ls 0 gs)
        act_kept (Rethrow n) a q r ls g gs =
            kept.executed a q (λ o. rethrow (λ s. raise again' go' s ls o 0) (caught_at ls n))
            (λ o. rethrow (λ s. raise again go s (relabels ls) o 0) (caught_at (relabels ls) n))
            (subst
            (λ c. R (λ o. rethrow (λ s. raise again' go' s ls o 0) (caught_at ls n)) (λ o. rethrow (λ s. raise again go s (relabels ls) o 0) c))
            (sym (caught_moved ls n))
            (rethrow_kept (λ o s. raise again' go' s ls o 0) (λ o s. raise again go s (relabels ls) o 0) (λ s. raise_kept s ls 0 gs) (caught_at ls n)))
        act_kept TailCall a q r ls g gs =
            kept.going (λ s. false) true a q (λ o. ends TailCalled) (λ o. ends TailCalled)
            (λ s o. ends Mismatch) (λ s o. ends Mismatch) (kept.ended TailCalled) (λ s. kept.ended Mismatch)

        other_one : (b : Bool) (c : Control) (xs : List (Marked B)) (l : Label B) (labels : List (Label B)) → Good xs → GoodLabels (l ∷ labels)
            → R (λ o. cond (is_else c) (go' xs (l ∷ labels) o) (go' xs labels o))
            (λ o. cond (is_else (quiet b c)) (go (moved xs) (relabels (l ∷ labels)) o) (go (moved xs) (relabels labels) o))
        other_one b Else xs l ls g gs = hg xs (l ∷ ls) g gs
        other_one b (Does action) xs l ls g gs = hg xs ls g gs.1
        other_one b (Opens k) xs l ls g gs = hg xs ls g gs.1
        other_one b (Catch t) xs l ls g gs = hg xs ls g gs.1
        other_one b CatchAll xs l ls g gs = hg xs ls g gs.1
        other_one b End xs l ls g gs = hg xs ls g gs.1
        other_one b (Delegate n) xs l ls g gs = hg xs ls g gs.1

        other_kept : (l : Label B) (labels : List (Label B)) (r : List (Marked B)) → Good r → GoodLabels (l ∷ labels)
            → R (λ o. other_at go' l labels o r) (λ o. other_at go (relabel l) (relabels labels) o (moved r))
        other_kept l ls [] g gs = kept.ended Returned
        other_kept l ls (x ∷ xs) g gs = other_one (added x.shown) x.control xs l ls g.1 gs

        enter_kept : (k : Construct) (a : B) → asks a ≡ asks_outcome (Opens k) → (r : List (Marked B)) (labels : List (Label B)) → Good r → GoodLabels labels
            → R (enter go' k a r labels) (enter go k (show a) (moved r) (relabels labels))
        enter_kept Block a q r ls g gs =
            let l = label a Block r in kept.executed a q (go' r (l ∷ ls)) (go (moved r) (relabels (l ∷ ls))) (hg r (l ∷ ls) g (g, gs))
        enter_kept Loop a q r ls g gs =
            let l = label a Loop r in kept.executed a q (go' r (l ∷ ls)) (go (moved r) (relabels (l ∷ ls))) (hg r (l ∷ ls) g (g, gs))
        enter_kept (TryTable cs) a q r ls g gs =
            let l = label a (TryTable cs) r in kept.executed a q (go' r (l ∷ ls)) (go (moved r) (relabels (l ∷ ls))) (hg r (l ∷ ls) g (g, gs))
        enter_kept Try a q r ls g gs =
            let l = label a Try r in kept.executed a q (go' r (l ∷ ls)) (go (moved r) (relabels (l ∷ ls))) (hg r (l ∷ ls) g (g, gs))
        enter_kept If a q r ls g gs =
            let l = label a If r in
            kept.way a q (λ w o. cond w (go' r (l ∷ ls) o) (other_way go' l ls o (seek is_else 0 0 r)))
            (λ w o. cond w (go (moved r) (relabels (l ∷ ls)) o) (other_way go (relabel l) (relabels ls) o (seek is_else 0 0 (moved r))))
            (λ w. cond_kept w (go' r (l ∷ ls)) (λ o. other_way go' l ls o (seek is_else 0 0 r)) (go (moved r) (relabels (l ∷ ls)))
            (λ o. other_way go (relabel l) (relabels ls) o (seek is_else 0 0 (moved r))) (hg r (l ∷ ls) g (g, gs))
            (subst (λ f. R (λ o. other_way go' l ls o (seek is_else 0 0 r)) (λ o. other_way go (relabel l) (relabels ls) o f)) (sym (seek_moved is_else 0 0 r))
            (other_kept l ls (seek is_else 0 0 r).rest (seek_good is_else 0 0 r g) (g, gs))))

        leave_kept : (labels : List (Label B)) → GoodLabels labels → R (leave go' labels) (leave go (relabels labels))
        leave_kept [] gs = kept.ended Returned
        leave_kept (l ∷ ls) gs = after_kept l.following ls gs.0 gs.1

        does_kept : (b : Bool) (action : Action) (a : B) → added a ≡ b → asks a ≡ asks_outcome (Does action) → (r : List (Marked B)) (labels : List (Label B))
            → Good r → GoodLabels labels → R (act again' go' action a r labels) (act again go (quiet_action b action) (show a) (moved r) (relabels labels))
        does_kept true Plain a h q r ls g gs = kept.goes_on a h (go' r ls) (go (moved r) (relabels ls)) (λ s o. raise again' go' s ls o 0) (hg r ls g gs)
        does_kept true Nop a h q r ls g gs = act_kept Nop a q r ls g gs
        does_kept true (Branch n) a h q r ls g gs = act_kept (Branch n) a q r ls g gs
        does_kept true (ConditionalBranch n) a h q r ls g gs = act_kept (ConditionalBranch n) a q r ls g gs
        does_kept true (TableBranch ts d) a h q r ls g gs = act_kept (TableBranch ts d) a q r ls g gs
        does_kept true Return a h q r ls g gs = act_kept Return a q r ls g gs
        does_kept true Unreachable a h q r ls g gs = act_kept Unreachable a q r ls g gs
        does_kept true (Throw t) a h q r ls g gs = act_kept (Throw t) a q r ls g gs
        does_kept true ThrowRef a h q r ls g gs = act_kept ThrowRef a q r ls g gs
        does_kept true (Rethrow n) a h q r ls g gs = act_kept (Rethrow n) a q r ls g gs
        does_kept true TailCall a h q r ls g gs = act_kept TailCall a q r ls g gs
        does_kept false action a h q r ls g gs = act_kept action a q r ls g gs

        step_kept : (c : Control) (a : B) → SaysIfAsks (asks a) c → (r : List (Marked B)) (labels : List (Label B)) → Good r → GoodLabels labels
            → R (step again' go' c a r labels) (step again go (quiet (added a) c) (show a) (moved r) (relabels labels))
        step_kept (Does action) a q r ls g gs = does_kept (added a) action a refl q r ls g gs
        step_kept (Opens k) a q r ls g gs = enter_kept k a q r ls g gs
        step_kept Else a q r ls g gs = leave_kept ls gs
        step_kept (Catch t) a q r ls g gs = leave_kept ls gs
        step_kept CatchAll a q r ls g gs = leave_kept ls gs
        step_kept End a q r ls g gs = leave_kept ls gs
        step_kept (Delegate n) a q r ls g gs = leave_kept ls gs

      straight_kept : (again' : From B) (again : From C) → Related again' again → (n : ℕ) → Related (straight again' n) (straight again n)
      straight_kept again' again ha zero r ls g gs = kept.ended Returned
      straight_kept again' again ha (suc n) [] ls g gs = kept.ended Returned
      straight_kept again' again ha (suc n) (x ∷ xs) ls g gs =
          step_kept again' (straight again' n) again (straight again n) ha (straight_kept again' again ha n) x.control x.shown g.0 xs ls g.1 gs

      from_kept : (t : ℕ) → Related (bounded_run length t) (bounded_run length t)
      from_kept zero r ls g gs =
          let over' : From B = λ r l o. ends TurnsOut in
          let over : From C = λ r l o. ends TurnsOut in
          subst (λ n. R (straight over' (length r) r ls) (straight over n (moved r) (relabels ls))) (sym (length_moved r))
          (straight_kept over' over (λ r ls g gs. kept.ended TurnsOut) (length r) r ls g gs)
      from_kept (suc t) r ls g gs =
          subst (λ n. R (straight (bounded_run length t) (length r) r ls) (straight (bounded_run length t) n (moved r) (relabels ls))) (sym (length_moved r))
          (straight_kept (bounded_run length t) (bounded_run length t) (from_kept t) (length r) r ls g gs)

      pub runs_kept : (xs : List (Marked B)) → Good xs → (turns : ℕ) → R (λ o. run xs o turns) (λ o. run (moved xs) o turns)
      runs_kept xs g t = from_kept t xs [] g tt
