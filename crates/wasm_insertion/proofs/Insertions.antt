-- The law of insertion: made into `nop`, the inserted operators do nothing; and the run with them follows the run without.
use Rattle.std.proofs.Common.{◌≡◌, ℕ, List, [], ◌∷◌, map, Bool, true, false, cond, Option, refl, sym, ap, ◌∙◌, subst, ◌⊎◌, inl, inr}
use Rattle.wasm_body.specs.Control.{Control, Does, Opens, Else, Catch, CatchAll, End, Delegate, If, Try, Marked, with_control, control_of}
use Rattle.wasm_body.specs.SourceTree.{Sequence, Empty, Single, Wrapped, IfThen, IfElse, TryCatch, TryDelegate, Clauses, Ended, Catches, CatchesAll, construct_of, text, clauses_text, Body, body_text, map_sequence, map_clauses, map_body}
use Rattle.wasm_body.specs.Machine.{Outcome, Go, Trap, Raise, Way, Entry, Tags, Event, Executed, Taken, Ending, Trapped, Mismatch, Run, ends, then, take_outcome, take_way, take_entry, run}
use Rattle.wasm_body.specs.Places.{show_event, show_run}
use Rattle.wasm_body.specs.Flat.{Named}
use Rattle.wasm_insertion.specs.Insertion.{Origin, Own, Added, Inserted, empty, insert, single, wrapped, if_then, added_else, if_else, try_catch, try_delegate, ClausesInserted, ended, catches_one, catches_all, InsertedBody, own_run, erased, AddedStops, gets_none, traps, throws, gets_way, gets_entry, NeverStops, FollowsSource, alike_ended, executes, executes_with, catches, goes_on, stops, asks_outcome, SaysIfAsks, SaysWhatAsks, InsertedRuns, SourceRuns, StopsAt, SameOrStops, without_origin, IsInsertedText, named_asks, named_run, NamedInsertedRuns, NamedSourceRuns}
use Rattle.wasm_body.specs.TextLaws.{mark_named, IsNamedBody}
use Rattle.wasm_body.proofs.Structure.Mapped.{map_mark, text_mapped}
use Rattle.wasm_body.proofs.Executions.Same.{the_count}
use Rattle.wasm_body.proofs.Executions.RewritesTo as rewriting
use Rattle.wasm_body.proofs.Executions.RewritesTo.{RewritesTo, ClausesRewriteTo, runs_alike}
use Rattle.wasm_insertion.proofs.Quieted.{quiet_action, quiet, Runs, Kept, moved, runs_kept}

-- ---- other values that are shown for operators change nothing else of a run

-- The second run, with the same outcomes, is the first with other values shown.
abbrev Shows : {B C : Type 0} → (B → C) → Runs B → Runs C → Type 0
Shows f r r' = (os : List Outcome) → r' os ≡ show_run f (r os)

module _ (B C : Type 0) (f : B → C) (asks : B → Bool) where
  cond_shows : (y : Bool) (p q : Run B) (p' q' : Run C) → p' ≡ show_run f p → q' ≡ show_run f q → cond y p' q' ≡ show_run f (cond y p q)
  cond_shows true p q p' q' h k = h
  cond_shows false p q p' q' h k = k

  outcome_shows : (may_raise : Tags → Bool) (may_trap : Bool) (a : B) (on : Runs B) (on' : Runs C) (raised : Tags → Runs B) (raised' : Tags → Runs C)
      → Shows f on on' → ((tags : Tags) → Shows f (raised tags) (raised' tags))
      → Shows f (take_outcome may_raise may_trap a on raised) (take_outcome may_raise may_trap (f a) on' raised')
  outcome_shows p y a on on' x x' h k [] = refl
  outcome_shows p y a on on' x x' h k (Go ∷ os) = h os
  outcome_shows p y a on on' x x' h k (Trap ∷ os) = cond_shows y (then (Executed a) (ends Trapped)) (ends Mismatch) (then (Executed (f a)) (ends Trapped)) (ends Mismatch) refl refl
  outcome_shows p y a on on' x x' h k (Raise g ∷ os) =
      cond_shows (p g) (then (Executed a) (x g os)) (ends Mismatch) (then (Executed (f a)) (x' g os)) (ends Mismatch) (ap (then (Executed (f a))) (k g os)) refl
  outcome_shows p y a on on' x x' h k (Way w ∷ os) = refl
  outcome_shows p y a on on' x x' h k (Entry n ∷ os) = refl

  way_shows : (a : B) (on : Bool → Runs B) (on' : Bool → Runs C) → ((w : Bool) → Shows f (on w) (on' w)) → Shows f (take_way a on) (take_way (f a) on')
  way_shows a on on' h [] = refl
  way_shows a on on' h (Way w ∷ os) = ap (then (Executed (f a))) (h w os)
  way_shows a on on' h (Go ∷ os) = refl
  way_shows a on on' h (Trap ∷ os) = refl
  way_shows a on on' h (Raise g ∷ os) = refl
  way_shows a on on' h (Entry n ∷ os) = refl

  entry_shows : (a : B) (on : ℕ → Runs B) (on' : ℕ → Runs C) → ((k : ℕ) → Shows f (on k) (on' k)) → Shows f (take_entry a on) (take_entry (f a) on')
  entry_shows a on on' h [] = refl
  entry_shows a on on' h (Entry n ∷ os) = ap (then (Executed (f a))) (h n os)
  entry_shows a on on' h (Go ∷ os) = refl
  entry_shows a on on' h (Trap ∷ os) = refl
  entry_shows a on on' h (Raise g ∷ os) = refl
  entry_shows a on on' h (Way w ∷ os) = refl

  shows_kept : Kept f (λ a. false) asks (Shows f)
  shows_kept = record {
    ended = λ e os. refl;
    caught = λ a i t p q h os. ap (then (Taken (f a) i t)) (h os);
    executed = λ a e p q h os. ap (then (Executed (f a))) (h os);
    going = λ may_raise may_trap a e p q x y h k. outcome_shows may_raise may_trap a (λ o. then (Executed a) (p o)) (λ o. then (Executed (f a)) (q o)) x y (λ os. ap (then (Executed (f a))) (h os)) k;
    throwing = λ may_raise may_trap a e x y k. outcome_shows may_raise may_trap a (λ o. ends Mismatch) (λ o. ends Mismatch) x y (λ os. refl) k;
    way = λ a e p q h. way_shows a p q h;
    entry = λ a e p q h. entry_shows a p q h;
    goes_on = λ a e p q x h. absurd (cc e);
  }

  not_quieted : (c : Control) → quiet false c ≡ c
  not_quieted (Does action) = refl
  not_quieted (Opens k) = refl
  not_quieted Else = refl
  not_quieted (Catch t) = refl
  not_quieted CatchAll = refl
  not_quieted End = refl
  not_quieted (Delegate n) = refl

  none_quieted : (xs : List (Marked B)) → moved B C f (λ a. false) xs ≡ map (map_mark f) xs
  none_quieted [] = refl
  none_quieted (x ∷ xs) =
      ap (λ c. with_control (f x.shown) c ∷ moved B C f (λ a. false) xs) (not_quieted x.control) ∙ ap (λ l. map_mark f x ∷ l) (none_quieted xs)

  -- the run of operators with other values shown
  run_shown : (xs : List (Marked B)) → SaysWhatAsks asks xs → (os : List Outcome) (turns : ℕ)
      → run (map (map_mark f) xs) os turns ≡ show_run f (run xs os turns)
  run_shown xs g os t = ap (λ l. run l os t) (sym (none_quieted xs)) ∙ runs_kept B C f (λ a. false) asks (Shows f) shows_kept xs g t os

abbrev is_added : {A P : Type 0} → Origin A P → Bool
is_added (Own a) = false
is_added (Added p) = true

-- ---- the tree with `nop` in the place of inserted operators

abbrev mutual
  quieted_tree : {B : Type 0} → (B → Bool) → Sequence B → Sequence B
  quieted_tree added Empty = Empty
  quieted_tree added (Single a action r) = Single a (quiet_action (added a) action) (quieted_tree added r)
  quieted_tree added (Wrapped a w b e r) = Wrapped a w (quieted_tree added b) e (quieted_tree added r)
  quieted_tree added (IfThen a b e r) = IfThen a (quieted_tree added b) e (quieted_tree added r)
  quieted_tree added (IfElse a b l c e r) = IfElse a (quieted_tree added b) l (quieted_tree added c) e (quieted_tree added r)
  quieted_tree added (TryCatch a b cs r) = TryCatch a (quieted_tree added b) (quieted_clauses added cs) (quieted_tree added r)
  quieted_tree added (TryDelegate a b e n r) = TryDelegate a (quieted_tree added b) e n (quieted_tree added r)

  quieted_clauses : {B : Type 0} → (B → Bool) → Clauses B → Clauses B
  quieted_clauses added (Ended e) = Ended e
  quieted_clauses added (Catches a t b cs) = Catches a t (quieted_tree added b) (quieted_clauses added cs)
  quieted_clauses added (CatchesAll a b e) = CatchesAll a (quieted_tree added b) e

module _ (O : Type 0) (added : O → Bool) where
  abbrev quiets : List (Marked O) → List (Marked O)
  quiets xs = moved O O (λ a. a) added xs

  mutual
    text_quieted : (s : Sequence O) (k : List (Marked O)) → quiets (text s k) ≡ text (quieted_tree added s) (quiets k)
    text_quieted Empty k = refl
    text_quieted (Single a action r) k = ap (λ l. with_control a (Does (quiet_action (added a) action)) ∷ l) (text_quieted r k)
    text_quieted (Wrapped a w b e r) k =
        ap (λ l. with_control a (Opens (construct_of w)) ∷ l)
        (text_quieted b (with_control e End ∷ text r k) ∙ ap (λ l. text (quieted_tree added b) (with_control e End ∷ l)) (text_quieted r k))
    text_quieted (IfThen a b e r) k =
        ap (λ l. with_control a (Opens If) ∷ l)
        (text_quieted b (with_control e End ∷ text r k) ∙ ap (λ l. text (quieted_tree added b) (with_control e End ∷ l)) (text_quieted r k))
    text_quieted (IfElse a b l c e r) k =
        ap (λ z. with_control a (Opens If) ∷ z)
        (text_quieted b (with_control l Else ∷ text c (with_control e End ∷ text r k))
        ∙ ap (λ z. text (quieted_tree added b) (with_control l Else ∷ z))
        (text_quieted c (with_control e End ∷ text r k) ∙ ap (λ z. text (quieted_tree added c) (with_control e End ∷ z)) (text_quieted r k)))
    text_quieted (TryCatch a b cs r) k =
        ap (λ l. with_control a (Opens Try) ∷ l)
        (text_quieted b (clauses_text cs (text r k))
        ∙ ap (λ l. text (quieted_tree added b) l)
        (clauses_quieted cs (text r k) ∙ ap (λ l. clauses_text (quieted_clauses added cs) l) (text_quieted r k)))
    text_quieted (TryDelegate a b e n r) k =
        ap (λ l. with_control a (Opens Try) ∷ l)
        (text_quieted b (with_control e (Delegate n) ∷ text r k) ∙ ap (λ l. text (quieted_tree added b) (with_control e (Delegate n) ∷ l)) (text_quieted r k))

    clauses_quieted : (cs : Clauses O) (k : List (Marked O)) → quiets (clauses_text cs k) ≡ clauses_text (quieted_clauses added cs) (quiets k)
    clauses_quieted (Ended e) k = refl
    clauses_quieted (Catches a t b cs) k =
        ap (λ l. with_control a (Catch t) ∷ l)
        (text_quieted b (clauses_text cs k) ∙ ap (λ l. text (quieted_tree added b) l) (clauses_quieted cs k))
    clauses_quieted (CatchesAll a b e) k = ap (λ l. with_control a CatchAll ∷ l) (text_quieted b (with_control e End ∷ k))

-- without its `nop`s it is the source
mutual
  dropped : {A P : Type 0} {s : Sequence A} {t : Sequence (Origin A P)} → Inserted s t → RewritesTo (quieted_tree is_added t) (map_sequence Own s)
  dropped empty = rewriting.empty
  dropped (insert h) = rewriting.drop_nop (dropped h)
  dropped (single h) = rewriting.keep (dropped h)
  dropped (wrapped f h) = rewriting.wrapped (dropped f) (dropped h)
  dropped (if_then f h) = rewriting.if_then (dropped f) (dropped h)
  dropped (added_else f g h) = rewriting.drop_else (dropped f) (dropped g) (dropped h)
  dropped (if_else f g h) = rewriting.if_else (dropped f) (dropped g) (dropped h)
  dropped (try_catch f g h) = rewriting.try_catch (dropped f) (clauses_dropped g) (dropped h)
  dropped (try_delegate f h) = rewriting.try_delegate (dropped f) (dropped h)

  clauses_dropped : {A P : Type 0} {cs : Clauses A} {ds : Clauses (Origin A P)} → ClausesInserted cs ds
      → ClausesRewriteTo (quieted_clauses is_added ds) (map_clauses Own cs)
  clauses_dropped ended = rewriting.ended
  clauses_dropped (catches_one f g) = rewriting.catches_one (dropped f) (clauses_dropped g)
  clauses_dropped (catches_all f) = rewriting.catches_all (dropped f)

abbrev quieted_body : {A P : Type 0} → Body (Origin A P) → Body (Origin A P)
quieted_body c = record { sequence = quieted_tree is_added c.sequence; close = c.close }

-- the run of the list with `nop` in the place of inserted operators is the run of the source
quieted_run : (A P : Type 0) (asks : A → Bool) (b : Body A) (c : Body (Origin A P)) → SaysWhatAsks asks (body_text b) → InsertedBody b c → (os : List Outcome) (turns : ℕ)
    → run (quiets (Origin A P) is_added (body_text c)) os turns ≡ own_run (run (body_text b) os turns)
quieted_run A P asks b c g h os t =
    ap (λ l. run l os t) (text_quieted (Origin A P) is_added c.sequence (with_control c.close End ∷ []))
    ∙ (runs_alike (quieted_body c) (map_body Own b) (dropped h.sequence) the_count os t
    ∙ (ap (λ l. run l os t) (text_mapped Own b.sequence (with_control b.close End ∷ []))
    ∙ run_shown A (Origin A P) Own asks (body_text b) g os t))

-- ---- what is shown says what asks, also with inserted operators

abbrev asks_of : {A P : Type 0} → (A → Bool) → Origin A P → Bool
asks_of asks (Own a) = asks a
asks_of asks (Added p) = true

module _ (A P : Type 0) (asks : A → Bool) where
  abbrev Says : List (Marked (Origin A P)) → Type 0
  Says k = SaysWhatAsks (asks_of asks) k

  mutual
    says : {s : Sequence A} {t : Sequence (Origin A P)} → Inserted s t → (k : List (Marked A)) (k' : List (Marked (Origin A P)))
        → (SaysWhatAsks asks k → Says k') → SaysWhatAsks asks (text s k) → Says (text t k')
    says empty k k' h g = h g
    says (insert f) k k' h g = (refl, says f k k' h g)
    says (single f) k k' h g = (g.0, says f k k' h g.1)
    says (wrapped {e = e} {r = r} {r' = r'} f f') k k' h g =
        (g.0, says f (with_control e End ∷ text r k) (with_control (Own e) End ∷ text r' k') (λ x. (x.0, says f' k k' h x.1)) g.1)
    says (if_then {e = e} {r = r} {r' = r'} f f') k k' h g =
        (g.0, says f (with_control e End ∷ text r k) (with_control (Own e) End ∷ text r' k') (λ x. (x.0, says f' k k' h x.1)) g.1)
    says (added_else {e = e} {p = p} {r = r} {c' = c'} {r' = r'} f f'' f') k k' h g = (
      g.0,
      says f (with_control e End ∷ text r k) (with_control (Added p) Else ∷ text c' (with_control (Own e) End ∷ text r' k'))
          (λ x. (tt, says f'' (with_control e End ∷ text r k) (with_control (Own e) End ∷ text r' k') (λ y. (y.0, says f' k k' h y.1)) x)) g.1,
    )
    says (if_else {l = l} {e = e} {c = c} {r = r} {c' = c'} {r' = r'} f f'' f') k k' h g = (
      g.0,
      says f (with_control l Else ∷ text c (with_control e End ∷ text r k)) (with_control (Own l) Else ∷ text c' (with_control (Own e) End ∷ text r' k'))
          (λ x. (x.0, says f'' (with_control e End ∷ text r k) (with_control (Own e) End ∷ text r' k') (λ y. (y.0, says f' k k' h y.1)) x.1)) g.1,
    )
    says (try_catch {r = r} {cs = cs} {r' = r'} {cs' = cs'} f fs f') k k' h g =
        (g.0, says f (clauses_text cs (text r k)) (clauses_text cs' (text r' k')) (λ x. clauses_say fs (text r k) (text r' k') (λ y. says f' k k' h y) x) g.1)
    says (try_delegate {e = e} {n = n} {r = r} {r' = r'} f f') k k' h g =
        (g.0, says f (with_control e (Delegate n) ∷ text r k) (with_control (Own e) (Delegate n) ∷ text r' k') (λ x. (x.0, says f' k k' h x.1)) g.1)

    clauses_say : {cs : Clauses A} {cs' : Clauses (Origin A P)} → ClausesInserted cs cs' → (k : List (Marked A)) (k' : List (Marked (Origin A P)))
        → (SaysWhatAsks asks k → Says k') → SaysWhatAsks asks (clauses_text cs k) → Says (clauses_text cs' k')
    clauses_say ended k k' h g = (g.0, h g.1)
    clauses_say (catches_one {cs = cs} {cs' = cs'} f fs) k k' h g =
        (g.0, says f (clauses_text cs k) (clauses_text cs' k') (λ x. clauses_say fs k k' h x) g.1)
    clauses_say (catches_all {e = e} f) k k' h g = (g.0, says f (with_control e End ∷ k) (with_control (Own e) End ∷ k') (λ x. (x.0, h x.1)) g.1)

  says_body : (b : Body A) (c : Body (Origin A P)) → InsertedBody b c → SaysWhatAsks asks (body_text b) → Says (body_text c)
  says_body b c i g =
      says i.sequence (with_control b.close End ∷ []) (with_control c.close End ∷ [])
      (λ x. subst (λ z. Says (with_control z End ∷ [])) i.close (x.0, tt)) g

-- ---- one run follows the other, where the second shows for each operator whether it is added, too

data Along {A P : Type 0} (asks : A → Bool) (Stop : List Outcome → Run (Origin A P) → Type 0)
    : List Outcome → Run (Origin A P) → List Outcome → Run (Origin A P) → Type 0 where
  along_ended : {e : Ending} {os' os : List Outcome} → Along asks Stop os' (ends e) os (ends e)
  along_executes : {a : Origin A P} {os' os : List Outcome} {r' r : Run (Origin A P)} → asks_of asks a ≡ false → Along asks Stop os' r' os r
      → Along asks Stop os' (then (Executed a) r') os (then (Executed a) r)
  along_with : {a : Origin A P} {o : Outcome} {os' os : List Outcome} {r' r : Run (Origin A P)} → asks_of asks a ≡ true → Along asks Stop os' r' os r
      → Along asks Stop (o ∷ os') (then (Executed a) r') (o ∷ os) (then (Executed a) r)
  along_caught : {a : Origin A P} {i : ℕ} {t : Option ℕ} {os' os : List Outcome} {r' r : Run (Origin A P)} → Along asks Stop os' r' os r
      → Along asks Stop os' (then (Taken a i t) r') os (then (Taken a i t) r)
  along_goes_on : {p : P} {os' os : List Outcome} {r' r : Run (Origin A P)} → Along asks Stop os' r' os r
      → Along asks Stop (Go ∷ os') (then (Executed (Added p)) r') os r
  along_stops : {os' os : List Outcome} {r' r : Run (Origin A P)} → Stop os' r' → Along asks Stop os' r' os r

module _ (A P : Type 0) (asks : A → Bool) (Stop : List Outcome → Run (Origin A P) → Type 0) where
  -- an operator that traps or throws, if it may
  along_trap : (y : Bool) (a : Origin A P) → asks_of asks a ≡ true → (os' os : List Outcome)
      → Along asks Stop (Trap ∷ os') (cond y (then (Executed a) (ends Trapped)) (ends Mismatch)) (Trap ∷ os) (cond y (then (Executed a) (ends Trapped)) (ends Mismatch))
  along_trap true a q os' os = along_with q along_ended
  along_trap false a q os' os = along_ended

  along_raise : (y : Bool) (a : Origin A P) → asks_of asks a ≡ true → (g : Tags) (os' os : List Outcome) (r' r : Run (Origin A P)) → Along asks Stop os' r' os r
      → Along asks Stop (Raise g ∷ os') (cond y (then (Executed a) r') (ends Mismatch)) (Raise g ∷ os) (cond y (then (Executed a) r) (ends Mismatch))
  along_raise true a q g os' os r' r h = along_with q h
  along_raise false a q g os' os r' r h = along_ended

  -- the source's run, for each run of the other list
  abbrev HasSource : Runs (Origin A P) → Runs (Origin A P) → Type 0
  HasSource f' f = (os' : List Outcome) → (os : List Outcome) × Along asks Stop os' (f' os') os (f os)

  -- the run of the other list, for each run of the source
  abbrev HasRun : Runs (Origin A P) → Runs (Origin A P) → Type 0
  HasRun f' f = (os : List Outcome) → (os' : List Outcome) × Along asks Stop os' (f' os') os (f os)

  source_going : (may_raise : Tags → Bool) (may_trap : Bool) (a : Origin A P) → asks_of asks a ≡ true → (f' f : Runs (Origin A P)) (raised' raised : Tags → Runs (Origin A P))
      → HasSource f' f → ((tags : Tags) → HasSource (raised' tags) (raised tags))
      → HasSource (take_outcome may_raise may_trap a (λ o. then (Executed a) (f' o)) raised') (take_outcome may_raise may_trap a (λ o. then (Executed a) (f o)) raised)
  source_going p y a q f' f x' x h k [] = ([], along_ended)
  source_going p y a q f' f x' x h k (Go ∷ os) = (Go ∷ (h os).0, along_with q (h os).1)
  source_going p y a q f' f x' x h k (Trap ∷ os) = (Trap ∷ [], along_trap y a q os [])
  source_going p y a q f' f x' x h k (Raise g ∷ os) = (Raise g ∷ (k g os).0, along_raise (p g) a q g os (k g os).0 (x' g os) (x g (k g os).0) (k g os).1)
  source_going p y a q f' f x' x h k (Way w ∷ os) = (Way w ∷ [], along_ended)
  source_going p y a q f' f x' x h k (Entry n ∷ os) = (Entry n ∷ [], along_ended)

  source_throwing : (may_raise : Tags → Bool) (may_trap : Bool) (a : Origin A P) → asks_of asks a ≡ true → (raised' raised : Tags → Runs (Origin A P))
      → ((tags : Tags) → HasSource (raised' tags) (raised tags))
      → HasSource (take_outcome may_raise may_trap a (λ o. ends Mismatch) raised') (take_outcome may_raise may_trap a (λ o. ends Mismatch) raised)
  source_throwing p y a q x' x k [] = ([], along_ended)
  source_throwing p y a q x' x k (Go ∷ os) = (Go ∷ [], along_ended)
  source_throwing p y a q x' x k (Trap ∷ os) = (Trap ∷ [], along_trap y a q os [])
  source_throwing p y a q x' x k (Raise g ∷ os) = (Raise g ∷ (k g os).0, along_raise (p g) a q g os (k g os).0 (x' g os) (x g (k g os).0) (k g os).1)
  source_throwing p y a q x' x k (Way w ∷ os) = (Way w ∷ [], along_ended)
  source_throwing p y a q x' x k (Entry n ∷ os) = (Entry n ∷ [], along_ended)

  source_way : (a : Origin A P) → asks_of asks a ≡ true → (on' on : Bool → Runs (Origin A P)) → ((w : Bool) → HasSource (on' w) (on w))
      → HasSource (take_way a on') (take_way a on)
  source_way a q on' on h [] = ([], along_ended)
  source_way a q on' on h (Way w ∷ os) = (Way w ∷ (h w os).0, along_with q (h w os).1)
  source_way a q on' on h (Go ∷ os) = (Go ∷ [], along_ended)
  source_way a q on' on h (Trap ∷ os) = (Trap ∷ [], along_ended)
  source_way a q on' on h (Raise g ∷ os) = (Raise g ∷ [], along_ended)
  source_way a q on' on h (Entry n ∷ os) = (Entry n ∷ [], along_ended)

  source_entry : (a : Origin A P) → asks_of asks a ≡ true → (on' on : ℕ → Runs (Origin A P)) → ((k : ℕ) → HasSource (on' k) (on k))
      → HasSource (take_entry a on') (take_entry a on)
  source_entry a q on' on h [] = ([], along_ended)
  source_entry a q on' on h (Entry n ∷ os) = (Entry n ∷ (h n os).0, along_with q (h n os).1)
  source_entry a q on' on h (Go ∷ os) = (Go ∷ [], along_ended)
  source_entry a q on' on h (Trap ∷ os) = (Trap ∷ [], along_ended)
  source_entry a q on' on h (Raise g ∷ os) = (Raise g ∷ [], along_ended)
  source_entry a q on' on h (Way w ∷ os) = (Way w ∷ [], along_ended)

  run_going : (may_raise : Tags → Bool) (may_trap : Bool) (a : Origin A P) → asks_of asks a ≡ true → (f' f : Runs (Origin A P)) (raised' raised : Tags → Runs (Origin A P))
      → HasRun f' f → ((tags : Tags) → HasRun (raised' tags) (raised tags))
      → HasRun (take_outcome may_raise may_trap a (λ o. then (Executed a) (f' o)) raised') (take_outcome may_raise may_trap a (λ o. then (Executed a) (f o)) raised)
  run_going p y a q f' f x' x h k [] = ([], along_ended)
  run_going p y a q f' f x' x h k (Go ∷ os) = (Go ∷ (h os).0, along_with q (h os).1)
  run_going p y a q f' f x' x h k (Trap ∷ os) = (Trap ∷ [], along_trap y a q [] os)
  run_going p y a q f' f x' x h k (Raise g ∷ os) = (Raise g ∷ (k g os).0, along_raise (p g) a q g (k g os).0 os (x' g (k g os).0) (x g os) (k g os).1)
  run_going p y a q f' f x' x h k (Way w ∷ os) = (Way w ∷ [], along_ended)
  run_going p y a q f' f x' x h k (Entry n ∷ os) = (Entry n ∷ [], along_ended)

  run_throwing : (may_raise : Tags → Bool) (may_trap : Bool) (a : Origin A P) → asks_of asks a ≡ true → (raised' raised : Tags → Runs (Origin A P))
      → ((tags : Tags) → HasRun (raised' tags) (raised tags))
      → HasRun (take_outcome may_raise may_trap a (λ o. ends Mismatch) raised') (take_outcome may_raise may_trap a (λ o. ends Mismatch) raised)
  run_throwing p y a q x' x k [] = ([], along_ended)
  run_throwing p y a q x' x k (Go ∷ os) = (Go ∷ [], along_ended)
  run_throwing p y a q x' x k (Trap ∷ os) = (Trap ∷ [], along_trap y a q [] os)
  run_throwing p y a q x' x k (Raise g ∷ os) = (Raise g ∷ (k g os).0, along_raise (p g) a q g (k g os).0 os (x' g (k g os).0) (x g os) (k g os).1)
  run_throwing p y a q x' x k (Way w ∷ os) = (Way w ∷ [], along_ended)
  run_throwing p y a q x' x k (Entry n ∷ os) = (Entry n ∷ [], along_ended)

  run_way : (a : Origin A P) → asks_of asks a ≡ true → (on' on : Bool → Runs (Origin A P)) → ((w : Bool) → HasRun (on' w) (on w))
      → HasRun (take_way a on') (take_way a on)
  run_way a q on' on h [] = ([], along_ended)
  run_way a q on' on h (Way w ∷ os) = (Way w ∷ (h w os).0, along_with q (h w os).1)
  run_way a q on' on h (Go ∷ os) = (Go ∷ [], along_ended)
  run_way a q on' on h (Trap ∷ os) = (Trap ∷ [], along_ended)
  run_way a q on' on h (Raise g ∷ os) = (Raise g ∷ [], along_ended)
  run_way a q on' on h (Entry n ∷ os) = (Entry n ∷ [], along_ended)

  run_entry : (a : Origin A P) → asks_of asks a ≡ true → (on' on : ℕ → Runs (Origin A P)) → ((k : ℕ) → HasRun (on' k) (on k))
      → HasRun (take_entry a on') (take_entry a on)
  run_entry a q on' on h [] = ([], along_ended)
  run_entry a q on' on h (Entry n ∷ os) = (Entry n ∷ (h n os).0, along_with q (h n os).1)
  run_entry a q on' on h (Go ∷ os) = (Go ∷ [], along_ended)
  run_entry a q on' on h (Trap ∷ os) = (Trap ∷ [], along_ended)
  run_entry a q on' on h (Raise g ∷ os) = (Raise g ∷ [], along_ended)
  run_entry a q on' on h (Way w ∷ os) = (Way w ∷ [], along_ended)

  run_goes_on : (a : Origin A P) → is_added a ≡ true → (f' f : Runs (Origin A P)) (raised' : Tags → Runs (Origin A P)) → HasRun f' f
      → HasRun (take_outcome (λ s. true) true a (λ o. then (Executed a) (f' o)) raised') f
  run_goes_on (Own a) c f' f x' h os = absurd (cc c)
  run_goes_on (Added p) c f' f x' h os = (Go ∷ (h os).0, along_goes_on (h os).1)

  run_kept : Kept (λ a. a) is_added (asks_of asks) HasRun
  run_kept = record {
    ended = λ e os. ([], along_ended);
    caught = λ a i t f' f h os. ((h os).0, along_caught (h os).1);
    executed = λ a q f' f h os. ((h os).0, along_executes q (h os).1);
    going = run_going;
    throwing = run_throwing;
    way = run_way;
    entry = run_entry;
    goes_on = run_goes_on;
  }

module _ (A P : Type 0) (asks : A → Bool) where
  source_goes_on : (a : Origin A P) → is_added a ≡ true → (f' f : Runs (Origin A P)) (raised' : Tags → Runs (Origin A P)) → HasSource A P asks AddedStops f' f
      → HasSource A P asks AddedStops (take_outcome (λ s. true) true a (λ o. then (Executed a) (f' o)) raised') f
  source_goes_on (Own a) c f' f x' h os = absurd (cc c)
  source_goes_on (Added p) c f' f x' h [] = ([], along_stops gets_none)
  source_goes_on (Added p) c f' f x' h (Go ∷ os) = ((h os).0, along_goes_on (h os).1)
  source_goes_on (Added p) c f' f x' h (Trap ∷ os) = ([], along_stops traps)
  source_goes_on (Added p) c f' f x' h (Raise g ∷ os) = ([], along_stops throws)
  source_goes_on (Added p) c f' f x' h (Way w ∷ os) = ([], along_stops gets_way)
  source_goes_on (Added p) c f' f x' h (Entry n ∷ os) = ([], along_stops gets_entry)

  source_kept : Kept (λ a. a) is_added (asks_of asks) (HasSource A P asks AddedStops)
  source_kept = record {
    ended = λ e os. ([], along_ended);
    caught = λ a i t f' f h os. ((h os).0, along_caught (h os).1);
    executed = λ a q f' f h os. ((h os).0, along_executes q (h os).1);
    going = source_going A P asks AddedStops;
    throwing = source_throwing A P asks AddedStops;
    way = source_way A P asks AddedStops;
    entry = source_entry A P asks AddedStops;
    goes_on = source_goes_on;
  }

-- ---- from such runs to the source's run

abbrev of_events : {A : Type 0} → List (Event A) → Ending → Run A
of_events es e = record { events = es; ending = e }

own_follows : {A P : Type 0} {asks : A → Bool} {Stop : List Outcome → Run (Origin A P) → Type 0} {os' os : List Outcome} {r' q : Run (Origin A P)}
    → Along asks Stop os' r' os q
    → (es : List (Event A)) (e : Ending) → q.events ≡ map (show_event Own) es → q.ending ≡ e → FollowsSource asks Stop os' r' os (of_events es e)
own_follows {asks = asks} {Stop = Stop} (along_ended {os' = os'} {os = os}) [] e h k =
    subst (λ z. FollowsSource asks Stop os' (ends z) os (ends e)) (sym k) alike_ended
own_follows (along_ended) (x ∷ es) e h k = absurd (cc h)
own_follows (along_executes q f) [] e h k = absurd (cc h)
own_follows (along_executes q f) (Taken a i t ∷ es) e h k = absurd (cc h)
own_follows {asks = asks} {Stop = Stop} (along_executes {a = y} {os' = os'} {os = os} {r' = r'} q f) (Executed a ∷ es) e h k =
    let here : Own a ≡ y = cc h in
    subst (λ z. FollowsSource asks Stop os' (then (Executed z) r') os (of_events (Executed a ∷ es) e)) here
    (executes (ap (asks_of asks) here ∙ q) (own_follows f es e (cc h) k))
own_follows (along_with q f) [] e h k = absurd (cc h)
own_follows (along_with q f) (Taken a i t ∷ es) e h k = absurd (cc h)
own_follows {asks = asks} {Stop = Stop} (along_with {a = y} {o = o} {os' = os'} {os = os} {r' = r'} q f) (Executed a ∷ es) e h k =
    let here : Own a ≡ y = cc h in
    subst (λ z. FollowsSource asks Stop (o ∷ os') (then (Executed z) r') (o ∷ os) (of_events (Executed a ∷ es) e)) here
    (executes_with (ap (asks_of asks) here ∙ q) (own_follows f es e (cc h) k))
own_follows (along_caught f) [] e h k = absurd (cc h)
own_follows (along_caught f) (Executed a ∷ es) e h k = absurd (cc h)
own_follows {asks = asks} {Stop = Stop} (along_caught {a = y} {i = i} {t = t} {os' = os'} {os = os} {r' = r'} f) (Taken a j u ∷ es) e h k =
    let here : Taken (Own a) j u ≡ Taken y i t = cc h in
    subst (λ z. FollowsSource asks Stop os' (then z r') os (of_events (Taken a j u ∷ es) e)) here (catches (own_follows f es e (cc h) k))
own_follows (along_goes_on f) es e h k = goes_on (own_follows f es e h k)
own_follows (along_stops s) es e h k = stops s

follows_own : {A P : Type 0} {asks : A → Bool} {Stop : List Outcome → Run (Origin A P) → Type 0} (os' os : List Outcome) (r' q : Run (Origin A P)) (r : Run A)
    → Along asks Stop os' r' os q → q ≡ own_run r → FollowsSource asks Stop os' r' os r
follows_own os' os r' q r f h = own_follows f r.events r.ending (ap (λ z. z.events) h) (ap (λ z. z.ending) h)

-- ---- the law

pub inserted_runs : (A P : Type 0) → InsertedRuns A P
inserted_runs A P asks b c g i t os' =
    let found = runs_kept (Origin A P) (Origin A P) (λ a. a) is_added (asks_of asks) (HasSource A P asks AddedStops) (source_kept A P asks) (body_text c) (says_body A P asks b c i g) t os' in
    (found.0, follows_own os' found.0 _ _ (run (body_text b) found.0 t) found.1 (quieted_run A P asks b c g i found.0 t))

-- if no inserted operator stops, the runs are the same without the events of inserted operators
erased_same : {A P : Type 0} {asks : A → Bool} {os' os : List Outcome} {r' : Run (Origin A P)} {r : Run A} → FollowsSource asks NeverStops os' r' os r → erased r' ≡ r
erased_same alike_ended = refl
erased_same (executes {a = a} q f) = ap (then (Executed a)) (erased_same f)
erased_same (executes_with {a = a} q f) = ap (then (Executed a)) (erased_same f)
erased_same (catches {a = a} {i = i} {t = t} f) = ap (then (Taken a i t)) (erased_same f)
erased_same (goes_on f) = erased_same f
erased_same (stops s) = absurd s

pub source_runs : (A P : Type 0) → SourceRuns A P
source_runs A P asks b c g i t os =
    let found = runs_kept (Origin A P) (Origin A P) (λ a. a) is_added (asks_of asks) (HasRun A P asks NeverStops) (run_kept A P asks NeverStops) (body_text c) (says_body A P asks b c i g) t os in
    let follows = follows_own found.0 os _ _ (run (body_text b) os t) found.1 (quieted_run A P asks b c g i os t) in
    record { outcomes = found.0; follows = follows; same = erased_same follows }

-- ---- up to the first inserted operator that stops

abbrev SameOr : {A P : Type 0} → Run (Origin A P) → Run A → Type 0
SameOr r' r = (erased r' ≡ r) ⊎ StopsAt r' r

executed_or : {A P : Type 0} (a : A) (r' : Run (Origin A P)) (r : Run A) → SameOr r' r → SameOr (then (Executed (Own a)) r') (then (Executed a) r)
executed_or a r' r (inl h) = inl (ap (then (Executed a)) h)
executed_or a r' r (inr s) = inr (record {
  front = Executed (Own a) ∷ s.front;
  from_there = s.from_there;
  outcomes = s.outcomes;
  later = s.later;
  stops = s.stops;
  events = ap (λ l. Executed (Own a) ∷ l) s.events;
  ending = s.ending;
  source = ap (λ l. Executed a ∷ l) s.source;
})

caught_or : {A P : Type 0} (a : A) (i : ℕ) (t : Option ℕ) (r' : Run (Origin A P)) (r : Run A) → SameOr r' r
    → SameOr (then (Taken (Own a) i t) r') (then (Taken a i t) r)
caught_or a i t r' r (inl h) = inl (ap (then (Taken a i t)) h)
caught_or a i t r' r (inr s) = inr (record {
  front = Taken (Own a) i t ∷ s.front;
  from_there = s.from_there;
  outcomes = s.outcomes;
  later = s.later;
  stops = s.stops;
  events = ap (λ l. Taken (Own a) i t ∷ l) s.events;
  ending = s.ending;
  source = ap (λ l. Taken a i t ∷ l) s.source;
})

added_or : {A P : Type 0} (p : P) (r' : Run (Origin A P)) (r : Run A) → SameOr r' r → SameOr (then (Executed (Added p)) r') r
added_or p r' r (inl h) = inl h
added_or p r' r (inr s) = inr (record {
  front = Executed (Added p) ∷ s.front;
  from_there = s.from_there;
  outcomes = s.outcomes;
  later = s.later;
  stops = s.stops;
  events = ap (λ l. Executed (Added p) ∷ l) s.events;
  ending = s.ending;
  source = s.source;
})

follows_or : {A P : Type 0} {asks : A → Bool} {os' os : List Outcome} {r' : Run (Origin A P)} {r : Run A} → FollowsSource asks AddedStops os' r' os r → SameOr r' r
follows_or alike_ended = inl refl
follows_or (executes {a = a} {r' = r'} {r = r} q f) = executed_or a r' r (follows_or f)
follows_or (executes_with {a = a} {r' = r'} {r = r} q f) = executed_or a r' r (follows_or f)
follows_or (catches {a = a} {i = i} {t = t} {r' = r'} {r = r} f) = caught_or a i t r' r (follows_or f)
follows_or (goes_on {p = p} {r' = r'} {r = r} f) = added_or p r' r (follows_or f)
follows_or (stops {os' = os'} {r' = r'} {r = r} s) = inr (record {
  front = [];
  from_there = r';
  outcomes = os';
  later = r.events;
  stops = s;
  events = refl;
  ending = refl;
  source = refl;
})

pub same_or_stops : (A P : Type 0) → SameOrStops A P
same_or_stops A P asks os' os r' r f = follows_or f

-- ---- of named operators

says_named : (x : Named) (c : Control) → control_of x.op ≡ c → SaysIfAsks (named_asks x) c
says_named x (Does action) h = ap asks_outcome h
says_named x (Opens k) h = ap asks_outcome h
says_named x Else h = tt
says_named x (Catch t) h = tt
says_named x CatchAll h = tt
says_named x End h = tt
says_named x (Delegate n) h = tt

pub named_says : (xs : List Named) → SaysWhatAsks named_asks (map mark_named xs)
named_says [] = tt
named_says (x ∷ xs) = (says_named x (control_of x.op) refl, named_says xs)

marked_run : (xs ys : List Named) (b : Body Named) (c : Body (Origin Named Named)) → IsNamedBody xs b → IsInsertedText ys c → InsertedBody b c
    → (os : List Outcome) (turns : ℕ) → show_run without_origin (run (body_text c) os turns) ≡ named_run ys os turns
marked_run xs ys b c hx hy i os t =
    let says = says_body Named Named named_asks b c i (subst (SaysWhatAsks named_asks) hx (named_says xs)) in
    sym (run_shown (Origin Named Named) Named without_origin (asks_of named_asks) (body_text c) says os t) ∙ ap (λ l. run l os t) (sym hy)

pub named_inserted_runs : NamedInsertedRuns
named_inserted_runs xs ys b c hx hy i t os' =
    let h = inserted_runs Named Named named_asks b c (subst (SaysWhatAsks named_asks) hx (named_says xs)) i t os' in (
      h.0,
      record {
        marked = run (body_text c) os' t;
        is_run = marked_run xs ys b c hx hy i os' t;
        follows = subst (λ l. FollowsSource named_asks AddedStops os' (run (body_text c) os' t) h.0 (run l h.0 t)) (sym hx) h.1;
      },
    )

pub named_source_runs : NamedSourceRuns
named_source_runs xs ys b c hx hy i t os =
    let h = source_runs Named Named named_asks b c (subst (SaysWhatAsks named_asks) hx (named_says xs)) i t os in (
      h.outcomes,
      record {
        marked = run (body_text c) h.outcomes t;
        is_run = marked_run xs ys b c hx hy i h.outcomes t;
        follows = subst (λ l. FollowsSource named_asks NeverStops h.outcomes (run (body_text c) h.outcomes t) os (run l os t)) (sym hx) h.follows;
      },
    )
