-- The state of the machine while it runs: labels, and how a construct responds to an exception.
use Rattle.std.proofs.Common.{Bool, false, cond, ◌≡◌, ℕ, zero, suc, ◌+◌, ◌-◌, ◌<◌, ◌≤◌, get_or, List, [], ◌∷◌, ◌++◌, map, drop, take, length, reverse, Option, Some, None, refl, sym, ap, ◌∙◌, arith}
use Rattle.std.specs.Prelude.{slice_get}
use Rattle.std.proofs.lemmas.List.{drop_all, length-map, length-reverse, map-append, take-map, take_more}
use Rattle.wasm_body.specs.Control as C
use Rattle.wasm_body.specs.Machine as M
use Rattle.walrus_machine.specs.declared.machine.control.Control.{Control}
use Rattle.walrus_machine.specs.Controls.{control_meaning}
use Rattle.walrus_machine.specs.Tables.{place_from}
use Rattle.walrus_machine.specs.declared.machine.control.Construct.{Construct}
use Rattle.walrus_machine.specs.declared.machine.label.Label.{Label}
use Rattle.walrus_machine.specs.declared.machine.run.Outcome.{Outcome}
use Rattle.walrus_machine.specs.declared.machine.state.State.{State}
use Rattle.walrus_machine.specs.Controls.{construct_meaning}
use Rattle.walrus_machine.specs.Runs.{outcome_of}
use Rattle.walrus_machine.specs.Tracing.{caught_in, label_of, machine_labels, Continuation, seen, continued_run, Finds}
use Rattle.walrus_machine.proofs.Tables.{here, nothing_at, reverse_left, pushed}

-- ---- the clauses of a legacy `try`

pub clause_here : (tags : M.Tags) (cs : List C.Control) (f : M.Found ℕ) (n i : ℕ) (c : C.Control) → f ≡ M.found n (place_from cs i) → slice_get cs i ≡ Some c →
    M.clause_at n c (place_from cs (i + 1)) ≡ M.try_responds tags f
clause_here tags cs f n i c e at = sym (ap (M.try_responds tags) e ∙ ap (M.clause_found n) (here cs i c at))

pub no_clause_here : (tags : M.Tags) (cs : List C.Control) (f : M.Found ℕ) (n i : ℕ) → f ≡ M.found n (place_from cs i) → slice_get cs i ≡ None → M.Passes ≡ M.try_responds tags f
no_clause_here tags cs f n i e at = sym (ap (M.try_responds tags) e ∙ ap (M.clause_found n) (nothing_at cs i at))

pub no_clause : (x : Control) (n : ℕ) (rest : List (C.Marked ℕ)) → ((tag : ℕ) → x ≡ Control.Catch tag → ⊥) → (x ≡ Control.CatchAll → ⊥) → ((n : ℕ) → x ≡ Control.Delegate n → ⊥) →
    M.Passes ≡ M.clause_at n (control_meaning x) rest
no_clause (Control.Catch tag) n rest a b c = absurd (a tag refl)
no_clause Control.CatchAll n rest a b c = absurd (b refl)
no_clause (Control.Delegate m) n rest a b c = absurd (c m refl)
no_clause _ n rest a b c = refl

-- ---- labels

-- the labels that are left after closing this many
pub closed : (cs : List C.Control) (n len left : ℕ) (ls ms : List Label) → len ≡ length ls → left ≡ len - n → ms ≡ take left ls → drop n (machine_labels cs ls) ≡ machine_labels cs ms
closed cs n len left ls ms count rest h =
    let ks = map (label_of cs) ls in
    let same : left ≡ length ks - n = omega (arith, rest, count, length-map ls (label_of cs)) in
    sym (ap (machine_labels cs) h ∙ (ap reverse (sym (take-map (label_of cs) left ls)) ∙ (ap (λ m. reverse (take m ks)) same ∙ reverse_left n ks)))

pub opens_push : (cs : List C.Control) (ls : List Label) (l : Label) → machine_labels cs (ls ++ l ∷ []) ≡ label_of cs l ∷ machine_labels cs ls
opens_push cs ls l = pushed (map (label_of cs) ls) (map (label_of cs) (ls ++ l ∷ [])) (label_of cs l) (map-append (label_of cs) ls (l ∷ []))

caught_inside : (ls : List (M.Label ℕ)) (n : ℕ) → M.caught_at ls n ≡ M.caught_at (drop n ls) 0
caught_inside ls zero = refl
caught_inside [] (suc n) = refl
caught_inside (l ∷ ls) (suc n) = caught_inside ls n

pub caught_here : (cs : List C.Control) (ls : List Label) (n i : ℕ) (l : Label) → n < length ls → i ≡ length ls - 1 - n → l ≡ get_or ls i l → M.caught_at (machine_labels cs ls) n ≡ caught_in l.caught
caught_here cs ls n i l lt at is =
    let left : i + 1 ≡ length ls - n = omega (arith, at, lt) in
    let whole : take (i + 1) ls ≡ take i ls ++ l ∷ [] = take_more ls i l (omega (arith, at, lt)) ∙ ap (λ x. take i ls ++ x ∷ []) (sym is) in
    caught_inside (machine_labels cs ls) n
    ∙ ap (λ ks. M.caught_at ks 0) (closed cs n (length ls) (i + 1) ls (take i ls ++ l ∷ []) refl left (sym whole) ∙ opens_push cs (take i ls) l)

pub nothing_caught : (cs : List C.Control) (ls : List Label) (n : ℕ) → length ls ≤ n → M.caught_at (machine_labels cs ls) n ≡ None
nothing_caught cs ls n le =
    caught_inside (machine_labels cs ls) n
    ∙ ap (λ ks. M.caught_at ks 0) (drop_all n (machine_labels cs ls) (omega (arith, le, length-reverse (map (label_of cs) ls), length-map ls (label_of cs))))

-- ---- runs that go on

pub same_on : (cs : List C.Control) (s : State) (k k' : Continuation) → ((ls : List (M.Label ℕ)) (o : List M.Outcome) → k ls o ≡ k' ls o) → continued_run cs s k ≡ continued_run cs s k'
same_on cs s k k' h = ap (seen s.events.items) (h (machine_labels cs s.labels.items) (map outcome_of s.outcomes.now))

module _ (again go : M.From ℕ) where
  pub inner_branch : (n : ℕ) (ls : List (M.Label ℕ)) (o : List M.Outcome) → M.branch again go n ls o ≡ M.branch again go 0 (drop n ls) o
  inner_branch zero ls o = refl
  inner_branch (suc n) [] o = refl
  inner_branch (suc n) (l ∷ ls) o = inner_branch n ls o

  -- a branch to a construct other than a loop
  pub arrive_out : (x : Construct) → (x ≡ Construct.Loop → ⊥) → (l : M.Label ℕ) (ls : List (M.Label ℕ)) (o : List M.Outcome) →
      M.arrive again go (construct_meaning x) l ls o ≡ go (M.after_closer l.following) ls o
  arrive_out Construct.Block h l ls o = refl
  arrive_out Construct.Loop h l ls o = absurd (h refl)
  arrive_out Construct.If h l ls o = refl
  arrive_out Construct.Try h l ls o = refl
  arrive_out (Construct.TryTable cs) h l ls o = refl

  pub inner_raise : (tags : M.Tags) (n : ℕ) (ls : List (M.Label ℕ)) (o : List M.Outcome) → M.raise again go tags ls o n ≡ M.raise again go tags (drop n ls) o 0
  inner_raise tags zero ls o = refl
  inner_raise tags (suc n) [] o = refl
  inner_raise tags (suc n) (l ∷ ls) o = inner_raise tags n ls o

-- an outcome that was taken
pub outcome_taken : (cs : List C.Control) (old new : State) (k : Continuation) (x y : Outcome) → Finds old new (λ cs k ls o. k ls (outcome_of x ∷ o)) → x ≡ y → continued_run cs old k ≡ continued_run cs new (λ ls o. k ls (outcome_of y ∷ o))
outcome_taken cs old new k x y found e = found cs k ∙ ap (λ z. continued_run cs new (λ ls o. k ls (outcome_of z ∷ o))) e

-- what a `rethrow` raises again: the tags that its handler caught
pub rethrown : (again go : M.From ℕ) (cs : List C.Control) (s : State) (n : ℕ) (caught : Option M.Tags) → M.caught_at (machine_labels cs s.labels.items) n ≡ caught →
    continued_run cs s (λ ls o. M.rethrow (λ tags. M.raise again go tags ls o 0) (M.caught_at ls n)) ≡ continued_run cs s (λ ls o. M.rethrow (λ tags. M.raise again go tags ls o 0) caught)
rethrown again go cs s n caught e =
    let ls = machine_labels cs s.labels.items in
    let o = map outcome_of s.outcomes.now in
    ap (λ c. seen s.events.items (M.rethrow (λ tags. M.raise again go tags ls o 0) c)) e

-- ---- the other way of an `if`

module _ (go : M.From ℕ) (cs : List C.Control) (l : M.Label ℕ) (f : M.Found ℕ) (n i : ℕ) (e : f ≡ M.found n (place_from cs i)) (ls : List (M.Label ℕ)) (o : List M.Outcome) where
  pub other_here : (c : C.Control) (b : Bool) → slice_get cs i ≡ Some c → M.is_else c ≡ b → M.other_way go l ls o f ≡ cond b (go (place_from cs (i + 1)) (l ∷ ls) o) (go (place_from cs (i + 1)) ls o)
  other_here c b at h =
      ap (M.other_way go l ls o) e
      ∙ (ap (M.other_at go l ls o) (here cs i c at) ∙ ap (λ b. cond b (go (place_from cs (i + 1)) (l ∷ ls) o) (go (place_from cs (i + 1)) ls o)) h)

  pub nothing_other : slice_get cs i ≡ None → M.other_way go l ls o f ≡ M.ends M.Returned
  nothing_other at = ap (M.other_way go l ls o) e ∙ ap (M.other_at go l ls o) (nothing_at cs i at)

pub not_else : (x : Control) → (x ≡ Control.Else → ⊥) → M.is_else (control_meaning x) ≡ false
not_else Control.Else h = absurd (h refl)
not_else _ h = refl

-- ---- openers that take no outcome

pub entered : (go : M.From ℕ) (x : Construct) → (x ≡ Construct.If → ⊥) → (i : ℕ) (place : List (C.Marked ℕ)) (ls : List (M.Label ℕ)) (o : List M.Outcome) →
    M.enter go (construct_meaning x) i place ls o ≡ M.then (M.Executed i) (go place (M.label i (construct_meaning x) place ∷ ls) o)
entered go Construct.Block h i place ls o = refl
entered go Construct.Loop h i place ls o = refl
entered go Construct.If h i place ls o = absurd (h refl)
entered go Construct.Try h i place ls o = refl
entered go (Construct.TryTable cs) h i place ls o = refl

-- ---- steps and turns

module _ (again : M.From ℕ) (cs : List C.Control) (i : ℕ) (ls : List (M.Label ℕ)) (o : List M.Outcome) where
  pub one_step : (n : ℕ) (c : C.Control) → 0 < n → slice_get cs i ≡ Some c → M.straight again n (place_from cs i) ls o ≡ M.step again (M.straight again (n - 1)) c i (place_from cs (i + 1)) ls o
  one_step zero c pos at = absurd (omega arith)
  one_step (suc n) c pos at =
      let m : n ≡ suc n - 1 = omega arith in
      ap (λ place. M.straight again (suc n) place ls o) (here cs i c at) ∙ ap (λ k. M.step again (M.straight again k) c i (place_from cs (i + 1)) ls o) m

  pub no_step : (n : ℕ) → slice_get cs i ≡ None → M.straight again n (place_from cs i) ls o ≡ M.ends M.Returned
  no_step zero at = refl
  no_step (suc n) at = ap (λ place. M.straight again (suc n) place ls o) (nothing_at cs i at)

-- how a run continues after a branch to a loop, with this many turns left
abbrev pub after_turn : ℕ → M.From ℕ
after_turn zero place ls o = M.ends M.TurnsOut
after_turn (suc t) place ls o = M.bounded_run length t place ls o

pub one_turn : (turns : ℕ) (place : List (C.Marked ℕ)) (ls : List (M.Label ℕ)) (o : List M.Outcome) → M.bounded_run length turns place ls o ≡ M.straight (after_turn turns) (length place) place ls o
one_turn zero place ls o = refl
one_turn (suc t) place ls o = refl

pub turn_paid : (turns : ℕ) → (turns ≡ 0 → ⊥) → (place : List (C.Marked ℕ)) (ls : List (M.Label ℕ)) (o : List M.Outcome) → after_turn turns place ls o ≡ M.bounded_run length (turns - 1) place ls o
turn_paid zero h place ls o = absurd (h refl)
turn_paid (suc t) h place ls o = let m : t ≡ suc t - 1 = omega arith in ap (λ k. M.bounded_run length k place ls o) m
