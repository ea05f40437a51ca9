-- Other values that are shown for operators change nothing else of a run. So the values at the places of a run are those of the
-- operators in these places.
use Rattle.std.proofs.Common.{◌≡◌, ℕ, zero, suc, ◌+◌, List, [], ◌∷◌, length, map, Bool, true, false, cond, Option, Some, None, refl, sym, ap, ◌∙◌, arith}
use Rattle.std.specs.Prelude.{slice_get}
use Rattle.wasm_body.specs.Control.{Action, Nop, Plain, Branch, ConditionalBranch, TableBranch, Return, Unreachable, Throw, ThrowRef, Rethrow, TailCall, Clause, Construct, Block, Loop, TryTable, If, Try, Control, Does, Opens, Catch, Marked, with_control}
use Rattle.wasm_body.proofs.Structure.Mapped.{map_mark}
use Rattle.wasm_body.specs.Machine.{Shape, Opener, Part, Closer, Other, control_shape, Found, found, seek_at, seek, tail, after_closer, Tags, has, Outcome, Go, Trap, Raise, Way, Entry, Executed, Taken, TailCalled, TurnsOut, Mismatch, Run, ends, then, Label, label, handler, From, Response, Passes, Hands, Jumps, Enters, takes, jump, catches, clause_at, clause_found, try_responds, responds_as, responds, arrive, branch, react, raise, caught_at, rethrow, target, take_outcome, take_way, take_entry, act, is_else, other_at, other_way, enter, leave, step, straight, bounded_run, run}
use Rattle.wasm_body.specs.Places.{show_run, placed_from, run_by_place, shown_by}

-- ---- operators, labels and the rest with other values shown

abbrev moved : {A B : Type 0} → (A → B) → List (Marked A) → List (Marked B)
moved f xs = map (map_mark f) xs

abbrev relabel : {A B : Type 0} → (A → B) → Label A → Label B
relabel f l = record { opener = f l.opener; construct = l.construct; following = moved f l.following; caught = l.caught }

abbrev relabels : {A B : Type 0} → (A → B) → List (Label A) → List (Label B)
relabels f ls = map (relabel f) ls

abbrev move_found : {A B : Type 0} → (A → B) → Found A → Found B
move_found f g = found g.passed (moved f g.rest)

abbrev move_response : {A B : Type 0} → (A → B) → Response A → Response B
move_response f Passes = Passes
move_response f (Hands n) = Hands n
move_response f (Jumps i t n) = Jumps i t n
move_response f (Enters i t r) = Enters i t (moved f r)

abbrev Natural : {A B : Type 0} → (A → B) → From A → From B → Type 0
Natural {A} f go go' =
    (r : List (Marked A)) (labels : List (Label A)) (outcomes : List Outcome)
    → go' (moved f r) (relabels f labels) outcomes ≡ show_run f (go r labels outcomes)

module _ (A B : Type 0) (f : A → B) where
  at_moved : (s : Shape) (d : ℕ) (y : Bool) (i : ℕ) (here : List (Marked A)) (on : ℕ → ℕ → Found A) (on' : ℕ → ℕ → Found B)
      → ((d j : ℕ) → on' d j ≡ move_found f (on d j)) → seek_at s d y i (moved f here) on' ≡ move_found f (seek_at s d y i here on)
  at_moved Opener d y i here on on' h = h (suc d) i
  at_moved Other d y i here on on' h = h d i
  at_moved Closer zero y i here on on' h = refl
  at_moved Closer (suc d) y i here on on' h = h d i
  at_moved Part zero true i here on on' h = refl
  at_moved Part zero false i here on on' h = h zero (suc i)
  at_moved Part (suc d) y i here on on' h = h (suc d) i

  seek_moved : (test : Control → Bool) (d i : ℕ) (xs : List (Marked A)) → seek test d i (moved f xs) ≡ move_found f (seek test d i xs)
  seek_moved test d i [] = refl
  seek_moved test d i (x ∷ xs) =
      at_moved (control_shape x.control) d (test x.control) i (x ∷ xs) (λ d j. seek test d j xs) (λ d j. seek test d j (moved f xs))
      (λ d j. seek_moved test d j xs)

  tail_moved : (xs : List (Marked A)) → tail (moved f xs) ≡ moved f (tail xs)
  tail_moved [] = refl
  tail_moved (x ∷ xs) = refl

  closer_moved : (xs : List (Marked A)) → after_closer (moved f xs) ≡ moved f (after_closer xs)
  closer_moved xs = ap (λ g. tail g.rest) (seek_moved (λ c. false) 0 0 xs) ∙ tail_moved (seek (λ c. false) 0 0 xs).rest

  cond_moved : {X Y : Type 0} → (move : X → Y) (y : Bool) (p q : X) (p' q' : Y) → p' ≡ move p → q' ≡ move q
      → cond y p' q' ≡ move (cond y p q)
  cond_moved move true p q p' q' h k = h
  cond_moved move false p q p' q' h k = k

  jump_moved : (tags : Tags) (i : ℕ) (cs : List Clause) → jump tags i cs ≡ move_response f (jump tags i cs)
  jump_moved g i [] = refl
  jump_moved g i (c ∷ cs) = cond_moved (move_response f) (takes g c.tag) _ _ _ _ refl (jump_moved g (suc i) cs)

  clause_moved : (i : ℕ) (c : Control) (r : List (Marked A)) → clause_at i c (moved f r) ≡ move_response f (clause_at i c r)
  clause_moved i (Catch t) r = refl
  clause_moved i _ r = refl

  found_moved : (i : ℕ) (r : List (Marked A)) → clause_found i (moved f r) ≡ move_response f (clause_found i r)
  found_moved i [] = refl
  found_moved i (x ∷ xs) = clause_moved i x.control xs

  responds_moved : (tags : Tags) (k : Construct) (c : Option Tags) (b : List (Marked A))
      → responds_as tags k c (moved f b) ≡ move_response f (responds_as tags k c b)
  responds_moved g Block c b = refl
  responds_moved g Loop c b = refl
  responds_moved g If c b = refl
  responds_moved g (TryTable cs) c b = jump_moved g 0 cs
  responds_moved g Try (Some t) b = refl
  responds_moved g Try None b =
      ap (try_responds g) (seek_moved (catches g) 0 0 b) ∙ found_moved (seek (catches g) 0 0 b).passed (seek (catches g) 0 0 b).rest

  module _ (again go : From A) (again' go' : From B) (ha : Natural f again again') (hg : Natural f go go') where
    after_moved : (b : List (Marked A)) (labels : List (Label A)) (outcomes : List Outcome)
        → go' (after_closer (moved f b)) (relabels f labels) outcomes ≡ show_run f (go (after_closer b) labels outcomes)
    after_moved b ls o = ap (λ r. go' r (relabels f ls) o) (closer_moved b) ∙ hg (after_closer b) ls o

    arrive_moved : (k : Construct) (l : Label A) (labels : List (Label A)) (outcomes : List Outcome)
        → arrive again' go' k (relabel f l) (relabels f labels) outcomes ≡ show_run f (arrive again go k l labels outcomes)
    arrive_moved Loop l ls o = ha l.following (l ∷ ls) o
    arrive_moved _ l ls o = after_moved l.following ls o

    branch_moved : (n : ℕ) (labels : List (Label A)) (outcomes : List Outcome)
        → branch again' go' n (relabels f labels) outcomes ≡ show_run f (branch again go n labels outcomes)
    branch_moved n [] o = refl
    branch_moved zero (l ∷ ls) o = arrive_moved l.construct l ls o
    branch_moved (suc n) (l ∷ ls) o = branch_moved n ls o

    react_moved : (outward : ℕ → Run A) (outward' : ℕ → Run B) (tags : Tags) (l : Label A) (labels : List (Label A)) (outcomes : List Outcome)
        → ((n : ℕ) → outward' n ≡ show_run f (outward n)) → (q : Response A)
        → react again' go' outward' tags (relabel f l) (relabels f labels) outcomes (move_response f q)
        ≡ show_run f (react again go outward tags l labels outcomes q)
    react_moved out out' g l ls o h Passes = h 0
    react_moved out out' g l ls o h (Hands n) = h n
    react_moved out out' g l ls o h (Jumps i t n) = ap (then (Taken (f l.opener) i t)) (branch_moved n ls o)
    react_moved out out' g l ls o h (Enters i t r) = ap (then (Taken (f l.opener) i t)) (hg r (handler l g ∷ ls) o)

    raise_moved : (tags : Tags) (labels : List (Label A)) (outcomes : List Outcome) (n : ℕ)
        → raise again' go' tags (relabels f labels) outcomes n ≡ show_run f (raise again go tags labels outcomes n)
    raise_moved g [] o n = refl
    raise_moved g (l ∷ ls) o zero =
        ap (react again' go' (raise again' go' g (relabels f ls) o) g (relabel f l) (relabels f ls) o)
        (responds_moved g l.construct l.caught l.following)
        ∙ react_moved (raise again go g ls o) (raise again' go' g (relabels f ls) o) g l ls o (λ n. raise_moved g ls o n) (responds g l)
    raise_moved g (l ∷ ls) o (suc n) = raise_moved g ls o n

    caught_moved : (labels : List (Label A)) (n : ℕ) → caught_at (relabels f labels) n ≡ caught_at labels n
    caught_moved [] n = refl
    caught_moved (l ∷ ls) zero = refl
    caught_moved (l ∷ ls) (suc n) = caught_moved ls n

    take_outcome_moved : (may_raise : Tags → Bool) (may_trap : Bool) (a : A) (on : List Outcome → Run A) (on' : List Outcome → Run B)
        → (raised : Tags → List Outcome → Run A) (raised' : Tags → List Outcome → Run B)
        → ((outcomes : List Outcome) → on' outcomes ≡ show_run f (on outcomes))
        → ((tags : Tags) (outcomes : List Outcome) → raised' tags outcomes ≡ show_run f (raised tags outcomes))
        → (outcomes : List Outcome) → take_outcome may_raise may_trap (f a) on' raised' outcomes ≡ show_run f (take_outcome may_raise may_trap a on raised outcomes)
    take_outcome_moved may_raise may_trap a on on' out out' h k [] = refl
    take_outcome_moved may_raise may_trap a on on' out out' h k (Go ∷ o) = h o
    take_outcome_moved may_raise may_trap a on on' out out' h k (Trap ∷ o) = cond_moved (show_run f) may_trap _ _ _ _ refl refl
    take_outcome_moved may_raise may_trap a on on' out out' h k (Raise g ∷ o) =
        cond_moved (show_run f) (may_raise g) _ _ _ _ (ap (then (Executed (f a))) (k g o)) refl
    take_outcome_moved may_raise may_trap a on on' out out' h k (Way w ∷ o) = refl
    take_outcome_moved may_raise may_trap a on on' out out' h k (Entry n ∷ o) = refl

    way_moved : (a : A) (on : Bool → List Outcome → Run A) (on' : Bool → List Outcome → Run B)
        → ((w : Bool) (outcomes : List Outcome) → on' w outcomes ≡ show_run f (on w outcomes))
        → (outcomes : List Outcome) → take_way (f a) on' outcomes ≡ show_run f (take_way a on outcomes)
    way_moved a on on' h [] = refl
    way_moved a on on' h (Way w ∷ o) = ap (then (Executed (f a))) (h w o)
    way_moved a on on' h (Go ∷ o) = refl
    way_moved a on on' h (Trap ∷ o) = refl
    way_moved a on on' h (Raise g ∷ o) = refl
    way_moved a on on' h (Entry n ∷ o) = refl

    entry_moved : (a : A) (on : ℕ → List Outcome → Run A) (on' : ℕ → List Outcome → Run B)
        → ((k : ℕ) (outcomes : List Outcome) → on' k outcomes ≡ show_run f (on k outcomes))
        → (outcomes : List Outcome) → take_entry (f a) on' outcomes ≡ show_run f (take_entry a on outcomes)
    entry_moved a on on' h [] = refl
    entry_moved a on on' h (Entry k ∷ o) = ap (then (Executed (f a))) (h k o)
    entry_moved a on on' h (Go ∷ o) = refl
    entry_moved a on on' h (Trap ∷ o) = refl
    entry_moved a on on' h (Raise g ∷ o) = refl
    entry_moved a on on' h (Way w ∷ o) = refl

    rethrow_moved : (raised : Tags → Run A) (raised' : Tags → Run B) → ((tags : Tags) → raised' tags ≡ show_run f (raised tags))
        → (c : Option Tags) → rethrow raised' c ≡ show_run f (rethrow raised c)
    rethrow_moved raised raised' h None = refl
    rethrow_moved raised raised' h (Some g) = h g

    act_moved : (action : Action) (a : A) (r : List (Marked A)) (labels : List (Label A)) (outcomes : List Outcome)
        → act again' go' action (f a) (moved f r) (relabels f labels) outcomes ≡ show_run f (act again go action a r labels outcomes)
    act_moved Nop a r ls o = hg r ls o
    act_moved Plain a r ls o = take_outcome_moved (λ s. true) true a _ _ _ _ (λ o. ap (then (Executed (f a))) (hg r ls o)) (λ g o. raise_moved g ls o 0) o
    act_moved (Branch n) a r ls o = ap (then (Executed (f a))) (branch_moved n ls o)
    act_moved (ConditionalBranch n) a r ls o = way_moved a _ _ (λ w o. cond_moved (show_run f) w _ _ _ _ (branch_moved n ls o) (hg r ls o)) o
    act_moved (TableBranch ts d) a r ls o = entry_moved a _ _ (λ k o. branch_moved (target ts d k) ls o) o
    act_moved Return a r ls o = refl
    act_moved Unreachable a r ls o = refl
    act_moved (Throw t) a r ls o =
        take_outcome_moved (λ s. has s t) false a (λ o. ends Mismatch) (λ o. ends Mismatch) _ _ (λ o. refl) (λ g o. raise_moved g ls o 0) o
    act_moved ThrowRef a r ls o =
        take_outcome_moved (λ s. true) true a (λ o. ends Mismatch) (λ o. ends Mismatch) _ _ (λ o. refl) (λ g o. raise_moved g ls o 0) o
    act_moved (Rethrow n) a r ls o =
        ap (then (Executed (f a)))
        (ap (rethrow (λ s. raise again' go' s (relabels f ls) o 0)) (caught_moved ls n)
        ∙ rethrow_moved (λ s. raise again go s ls o 0) (λ s. raise again' go' s (relabels f ls) o 0) (λ g. raise_moved g ls o 0) (caught_at ls n))
    act_moved TailCall a r ls o =
        take_outcome_moved (λ s. false) true a (λ o. then (Executed a) (ends TailCalled)) (λ o. then (Executed (f a)) (ends TailCalled))
        (λ s o. ends Mismatch) (λ s o. ends Mismatch) (λ o. refl) (λ g o. refl) o

    other_moved : (l : Label A) (labels : List (Label A)) (outcomes : List Outcome) (r : List (Marked A))
        → other_at go' (relabel f l) (relabels f labels) outcomes (moved f r) ≡ show_run f (other_at go l labels outcomes r)
    other_moved l ls o [] = refl
    other_moved l ls o (x ∷ xs) = cond_moved (show_run f) (is_else x.control) _ _ _ _ (hg xs (l ∷ ls) o) (hg xs ls o)

    enter_moved : (k : Construct) (a : A) (r : List (Marked A)) (labels : List (Label A)) (outcomes : List Outcome)
        → enter go' k (f a) (moved f r) (relabels f labels) outcomes ≡ show_run f (enter go k a r labels outcomes)
    enter_moved Block a r ls o = ap (then (Executed (f a))) (hg r (label a Block r ∷ ls) o)
    enter_moved Loop a r ls o = ap (then (Executed (f a))) (hg r (label a Loop r ∷ ls) o)
    enter_moved (TryTable cs) a r ls o = ap (then (Executed (f a))) (hg r (label a (TryTable cs) r ∷ ls) o)
    enter_moved Try a r ls o = ap (then (Executed (f a))) (hg r (label a Try r ∷ ls) o)
    enter_moved If a r ls o =
        way_moved a _ _ (λ w o. cond_moved (show_run f) w _ _ _ _ (hg r (label a If r ∷ ls) o)
        (ap (other_way go' (label (f a) If (moved f r)) (relabels f ls) o) (seek_moved is_else 0 0 r)
        ∙ other_moved (label a If r) ls o (seek is_else 0 0 r).rest)) o

    leave_moved : (labels : List (Label A)) (outcomes : List Outcome)
        → leave go' (relabels f labels) outcomes ≡ show_run f (leave go labels outcomes)
    leave_moved [] o = refl
    leave_moved (l ∷ ls) o = after_moved l.following ls o

    step_moved : (c : Control) (a : A) (r : List (Marked A)) (labels : List (Label A)) (outcomes : List Outcome)
        → step again' go' c (f a) (moved f r) (relabels f labels) outcomes ≡ show_run f (step again go c a r labels outcomes)
    step_moved (Does action) a r ls o = act_moved action a r ls o
    step_moved (Opens k) a r ls o = enter_moved k a r ls o
    step_moved _ a r ls o = leave_moved ls o

  straight_moved : (again : From A) (again' : From B) → Natural f again again' → (n : ℕ) → Natural f (straight again n) (straight again' n)
  straight_moved again again' ha zero r ls o = refl
  straight_moved again again' ha (suc n) [] ls o = refl
  straight_moved again again' ha (suc n) (x ∷ xs) ls o =
      step_moved again (straight again n) again' (straight again' n) ha (straight_moved again again' ha n) x.control x.shown xs ls o

  length_moved : (xs : List (Marked A)) → length (moved f xs) ≡ length xs
  length_moved [] = refl
  length_moved (x ∷ xs) = ap suc (length_moved xs)

  from_moved : (t : ℕ) → Natural f (bounded_run length t) (bounded_run length t)
  from_moved zero r ls o =
      ap (λ n. straight (λ r l o. ends TurnsOut) n (moved f r) (relabels f ls) o) (length_moved r)
      ∙ straight_moved (λ r l o. ends TurnsOut) (λ r l o. ends TurnsOut) (λ r ls o. refl) (length r) r ls o
  from_moved (suc t) r ls o =
      ap (λ n. straight (bounded_run length t) n (moved f r) (relabels f ls) o) (length_moved r)
      ∙ straight_moved (bounded_run length t) (bounded_run length t) (from_moved t) (length r) r ls o

-- the run of operators with other values shown
pub run_moved : {A B : Type 0} → (f : A → B) (xs : List (Marked A)) (outcomes : List Outcome) (turns : ℕ)
    → run (map (map_mark f) xs) outcomes turns ≡ show_run f (run xs outcomes turns)
run_moved f xs o t = from_moved _ _ f t xs [] o

-- ---- places

placed_shown : {X B : Type 0} → (c : X → Control) (v : X → B) (xs : List X) (i : ℕ) (g : ℕ → Option B)
    → ((j : ℕ) → g (i + j) ≡ slice_get (map v xs) j)
    → map (map_mark g) (placed_from i (map c xs)) ≡ map (λ x. with_control (Some (v x)) (c x)) xs
placed_shown c v [] i g h = refl
placed_shown c v (x ∷ xs) i g h =
    let e : i ≡ i + 0 = omega arith in
    let here : g i ≡ Some (v x) = ap g e ∙ h 0 in
    let rest = placed_shown c v xs (suc i) g (λ j. let s : suc i + j ≡ i + suc j = omega arith in ap g s ∙ h (suc j)) in
    ap (λ y. with_control y (c x) ∷ map (map_mark g) (placed_from (suc i) (map c xs))) here ∙ ap (λ l. with_control (Some (v x)) (c x) ∷ l) rest

shown_some : {X B : Type 0} → (c : X → Control) (v : X → B) (xs : List X)
    → map (map_mark (λ a. Some (v a))) (map (λ x. with_control x (c x)) xs) ≡ map (λ x. with_control (Some (v x)) (c x)) xs
shown_some c v [] = refl
shown_some c v (x ∷ xs) = ap (λ l. with_control (Some (v x)) (c x) ∷ l) (shown_some c v xs)

-- the values at the places are those that are shown for the operators themselves
pub shown_by-run : {X B : Type 0} → (c : X → Control) (v : X → B) (xs : List X) (outcomes : List Outcome) (turns : ℕ)
    → shown_by (map v xs) (run_by_place (map c xs) outcomes turns)
    ≡ show_run (λ a. Some (v a)) (run (map (λ x. with_control x (c x)) xs) outcomes turns)
shown_by-run c v xs o t =
    sym (run_moved (slice_get (map v xs)) (placed_from 0 (map c xs)) o t)
    ∙ (ap (λ l. run l o t)
    (placed_shown c v xs 0 (slice_get (map v xs)) (λ j. let e : 0 + j ≡ j = omega arith in ap (slice_get (map v xs)) e) ∙ sym (shown_some c v xs))
    ∙ run_moved (λ a. Some (v a)) (map (λ x. with_control x (c x)) xs) o t)
