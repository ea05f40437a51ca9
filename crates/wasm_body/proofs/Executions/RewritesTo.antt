-- The rewritings of a sequence that are right: the machine does the same from the rewriting as from the sequence.
use Rattle.std.proofs.Common.{◌≡◌, ℕ, zero, suc, ◌≤◌, List, [], ◌∷◌, length, false, refl, sym, ap, ◌∙◌, arith}
use Rattle.wasm_body.specs.Control.{Action, Nop, Control, Construct, If, Try, Opens, Else, Catch, CatchAll, End, Delegate, Marked, with_control}
use Rattle.wasm_body.specs.SourceTree.{Sequence, Empty, Single, Wrapped, IfThen, IfElse, TryCatch, TryDelegate, Clauses, Ended, Catches, CatchesAll, Wrapper, construct_of, text, clauses_text, Body, body_text}
use Rattle.wasm_body.specs.NormalForm.{fate, MakesUnreachable}
use Rattle.wasm_body.specs.TextLaws.{EndsSequence}
use Rattle.wasm_body.specs.Machine.{Outcome, bounded_run, run, Closer, control_shape, seek, seek_at, after_closer, tail, Label, label, handler, catches, is_else, other_at}
use Rattle.wasm_body.proofs.Executions.Same.{Bound, the_count, go, bounded_run-go, Same, Agree, seek_text, text_longer, clauses_longer}
use Rattle.wasm_body.proofs.Executions.Steps.{weaken, nop_same, kept_same, last_same, stop_same, last_end, no_labels}
use Rattle.wasm_body.proofs.Executions.Constructs.{Closes, wrapped_same, if_outside, if_same, try_same}
use Rattle.wasm_body.proofs.Executions.Handlers.{Handled, try_outside, handler_outside, ended_handled, delegate_handled, catch_handled, catch_all_handled}

-- A `nop` may be dropped, and so may the operators after one that cuts; an empty alternative may be added, and an alternative
-- that can be emptied may be left out. The values that are shown for operators that part and close constructs may be any.
mutual
  pub data RewritesTo {A : Type 0} : Sequence A → Sequence A → Type 0 where
    empty : RewritesTo Empty Empty
    drop_nop : {a : A} {r r' : Sequence A} → RewritesTo r r' → RewritesTo (Single a Nop r) r'
    keep : {a : A} {action : Action} {r r' : Sequence A} → RewritesTo r r' → RewritesTo (Single a action r) (Single a action r')
    unreachable_after : {a : A} {action : Action} {r : Sequence A} → fate action ≡ MakesUnreachable → RewritesTo (Single a action r) (Single a action Empty)
    wrapped : {a e e' : A} {w : Wrapper} {b b' r r' : Sequence A} → RewritesTo b b' → RewritesTo r r'
        → RewritesTo (Wrapped a w b e r) (Wrapped a w b' e' r')
    if_then : {a e e' : A} {b b' r r' : Sequence A} → RewritesTo b b' → RewritesTo r r' → RewritesTo (IfThen a b e r) (IfThen a b' e' r')
    if_else : {a l l' e e' : A} {b b' c c' r r' : Sequence A} → RewritesTo b b' → RewritesTo c c' → RewritesTo r r'
        → RewritesTo (IfElse a b l c e r) (IfElse a b' l' c' e' r')
    add_else : {a l' e e' : A} {b b' r r' : Sequence A} → RewritesTo b b' → RewritesTo r r'
        → RewritesTo (IfThen a b e r) (IfElse a b' l' Empty e' r')
    drop_else : {a l e e' : A} {b b' c r r' : Sequence A} → RewritesTo b b' → RewritesTo c Empty → RewritesTo r r'
        → RewritesTo (IfElse a b l c e r) (IfThen a b' e' r')
    try_catch : {a : A} {b b' r r' : Sequence A} {cs cs' : Clauses A} → RewritesTo b b' → ClausesRewriteTo cs cs'
        → RewritesTo r r' → RewritesTo (TryCatch a b cs r) (TryCatch a b' cs' r')
    try_delegate : {a e e' : A} {n : ℕ} {b b' r r' : Sequence A} → RewritesTo b b' → RewritesTo r r'
        → RewritesTo (TryDelegate a b e n r) (TryDelegate a b' e' n r')

  pub data ClausesRewriteTo {A : Type 0} : Clauses A → Clauses A → Type 0 where
    ended : {e e' : A} → ClausesRewriteTo (Ended e) (Ended e')
    catches_one : {a a' : A} {t : ℕ} {b b' : Sequence A} {cs cs' : Clauses A} → RewritesTo b b' → ClausesRewriteTo cs cs'
        → ClausesRewriteTo (Catches a t b cs) (Catches a' t b' cs')
    catches_all : {a a' e e' : A} {b b' : Sequence A} → RewritesTo b b' → ClausesRewriteTo (CatchesAll a b e) (CatchesAll a' b' e')

-- ---- the closers of constructs

-- after a sequence comes the closer
closes : {A : Type 0} → (s : Sequence A) (e : A) (c : Control) (r : List (Marked A)) → control_shape c ≡ Closer
    → Closes (text s (with_control e c ∷ r)) (with_control e c ∷ r) r
closes s e c r h = record {
  following =
      ap (λ f. tail f.rest) (seek_text s (λ c. false) 0 0 (with_control e c ∷ r))
      ∙ ap (λ y. tail (seek_at y 0 false 0 (with_control e c ∷ r) (λ d j. seek (λ c. false) d j r)).rest) h;
  shorter = omega arith;
}

-- after the first of two sequences comes an `else`
closes_else : {A : Type 0} → (s t : Sequence A) (l e : A) (r : List (Marked A))
    → Closes (text s (with_control l Else ∷ text t (with_control e End ∷ r))) (with_control l Else ∷ text t (with_control e End ∷ r)) r
closes_else s t l e r = record {
  following =
      ap (λ f. tail f.rest)
      (seek_text s (λ c. false) 0 0 (with_control l Else ∷ text t (with_control e End ∷ r)) ∙ seek_text t (λ c. false) 0 1 (with_control e End ∷ r));
  shorter = omega (arith, text_longer t (with_control e End ∷ r));
}

clauses_close : {A : Type 0} → (cs : Clauses A) (i : ℕ) (r : List (Marked A)) → tail (seek (λ c. false) 0 i (clauses_text cs r)).rest ≡ r
clauses_close (Ended e) i r = refl
clauses_close (Catches a t b cs) i r =
    ap (λ f. tail f.rest) (seek_text b (λ c. false) 0 (suc i) (clauses_text cs r)) ∙ clauses_close cs (suc i) r
clauses_close (CatchesAll a b e) i r = ap (λ f. tail f.rest) (seek_text b (λ c. false) 0 (suc i) (with_control e End ∷ r))

closes_clauses : {A : Type 0} → (s : Sequence A) (cs : Clauses A) (r : List (Marked A))
    → Closes (text s (clauses_text cs r)) (clauses_text cs r) r
closes_clauses s cs r = record {
  following = ap (λ f. tail f.rest) (seek_text s (λ c. false) 0 0 (clauses_text cs r)) ∙ clauses_close cs 0 r;
  shorter = clauses_longer cs r;
}

-- ---- sequences from which the machine does the same

abbrev Alike : {A : Type 0} → Sequence A → Sequence A → Type 0
Alike {A} s s' =
    (t : ℕ) (k k' : List (Marked A)) (labels labels' : List (Label A)) → Agree t k labels k' labels'
    → Same t (text s k) labels (text s' k') labels'

-- the places after an item agree, if the places after the sequence agree
rest_agrees : {A : Type 0} → (s s' : Sequence A) → Alike s s' → (t : ℕ) (k k' : List (Marked A)) (labels labels' : List (Label A))
    → Agree t k labels k' labels' → Agree t (text s k) labels (text s' k') labels'
rest_agrees s s' alike t k k' ls ls' agree = record {
  outside = weaken t t _ _ _ _ ls ls' (omega arith) (text_longer s k) (text_longer s' k') agree.outside;
  same = alike t k k' ls ls' agree;
}

-- a sequence that can be emptied does nothing, and goes on
does_nothing : {A : Type 0} {c : Sequence A} → RewritesTo c Empty → (t : ℕ) (k r' : List (Marked A)) (labels labels' : List (Label A))
    → Same t k labels r' labels' → Same t (text c k) labels r' labels'
does_nothing empty t k r' ls ls' s = s
does_nothing (drop_nop {a = a} {r = r} f) t k r' ls ls' s = nop_same a t (text r k) r' ls ls' (does_nothing f t k r' ls ls' s)

-- In what follows r and r' are the places after a construct, and agree.
module _ {A : Type 0} (t : ℕ) (r r' : List (Marked A)) (labels labels' : List (Label A)) (agree : Agree t r labels r' labels') where
  -- the same from an opener on
  abbrev SameOpened : Construct → A → (x x' : List (Marked A)) → Type 0
  SameOpened k a x x' = Same t (with_control a (Opens k) ∷ x) labels (with_control a (Opens k) ∷ x') labels'

  -- the same from the end of a sequence on
  stopped : (p p' : Control) (e e' : A) (z z' : List (Marked A)) (l l' : Label A) → EndsSequence p → EndsSequence p'
      → after_closer l.following ≡ r → after_closer l'.following ≡ r'
      → length r ≤ length z → length r' ≤ length z' → Same t (with_control e p ∷ z) (l ∷ labels) (with_control e' p' ∷ z') (l' ∷ labels')
  stopped p p' e e' z z' l l' s s' h h' lz lz' = stop_same p p' e e' t z z' r r' l l' labels labels' s s' h h' lz lz' agree.same

  wrapped_alike : (w : Wrapper) (a e e' : A) (b b' : Sequence A) → Alike b b'
      → SameOpened (construct_of w) a (text b (with_control e End ∷ r)) (text b' (with_control e' End ∷ r'))
  wrapped_alike w a e e' b b' body =
      let c = with_control e End ∷ r in
      let c' = with_control e' End ∷ r' in
      let l = label a (construct_of w) (text b c) in
      let l' = label a (construct_of w) (text b' c') in
      let cl = closes b e End r refl in
      let cl' = closes b' e' End r' refl in
      wrapped_same w a t (text b c) (text b' c') c c' r r' labels labels' cl cl' agree λ v hv outside.
      body v c c' (l ∷ labels) (l' ∷ labels') (record {
        outside = outside;
        same =
            stop_same End End e e' v r r' r r' l l' labels labels' tt tt cl.following cl'.following (omega arith) (omega arith)
            (λ β u n m o hu hn hm. agree.same β u n m o (omega arith) hn hm);
      })

  -- an `if` whose consequent is followed by p and by p', each an `else` or the `end`, if the other way does the same
  if_alike : (a e e' : A) (p p' : Control) → EndsSequence p → EndsSequence p' → (b b' : Sequence A) → Alike b b' → (z z' : List (Marked A))
      → Closes (text b (with_control e p ∷ z)) (with_control e p ∷ z) r → Closes (text b' (with_control e' p' ∷ z')) (with_control e' p' ∷ z') r'
      → length r ≤ length z → length r' ≤ length z'
      → (seek is_else 0 0 (with_control e p ∷ z)).rest ≡ with_control e p ∷ z → (seek is_else 0 0 (with_control e' p' ∷ z')).rest ≡ with_control e' p' ∷ z'
      → ((β : Bound A) (u n m : ℕ) (outcomes : List Outcome) → u ≤ t → length z ≤ n → length z' ≤ m
      → other_at (go β u n) (label a If (text b (with_control e p ∷ z))) labels outcomes (with_control e p ∷ z)
      ≡ other_at (go the_count u m) (label a If (text b' (with_control e' p' ∷ z'))) labels' outcomes (with_control e' p' ∷ z'))
      → SameOpened If a (text b (with_control e p ∷ z)) (text b' (with_control e' p' ∷ z'))
  if_alike a e e' p p' stops stops' b b' body z z' cl cl' lz lz' here here' other =
      let c = with_control e p ∷ z in
      let c' = with_control e' p' ∷ z' in
      let x = text b c in
      let x' = text b' c' in
      let l = label a If x in
      let l' = label a If x' in
      if_same a t x x' labels labels'
      (body t c c' (l ∷ labels) (l' ∷ labels') (record {
        outside = if_outside a t x x' c c' r r' labels labels' cl cl' agree;
        same = stopped p p' e e' z z' l l' stops stops' cl.following cl'.following lz lz';
      }))
      (λ β u n m o hu hn hm.
      ap (other_at (go β u n) l labels o) (ap (λ f. f.rest) (seek_text b is_else 0 0 c) ∙ here)
      ∙ (other β u n m o hu (omega (arith, text_longer b c)) (omega (arith, text_longer b' c'))
      ∙ sym (ap (other_at (go the_count u m) l' labels' o) (ap (λ f. f.rest) (seek_text b' is_else 0 0 c') ∙ here'))))

  if_then_alike : (a e e' : A) (b b' : Sequence A) → Alike b b' → SameOpened If a (text b (with_control e End ∷ r)) (text b' (with_control e' End ∷ r'))
  if_then_alike a e e' b b' body =
      if_alike a e e' End End tt tt b b' body r r' (closes b e End r refl) (closes b' e' End r' refl) (omega arith) (omega arith) refl refl
      (λ β u n m o hu hn hm. agree.same β u n m o hu hn hm)

  -- an `end` on one side only
  end_alone : (e : A) (l : Label A) → after_closer l.following ≡ r' → Same t r labels (with_control e End ∷ r') (l ∷ labels')
  end_alone e l h β u n zero o hu hn hm = absurd (omega arith)
  end_alone e l h β u n (suc m) o hu hn hm = agree.same β u n m o hu hn (omega arith) ∙ ap (λ k. go the_count u m k labels' o) (sym h)

  add_else_alike : (a e l' e' : A) (b b' : Sequence A) → Alike b b'
      → SameOpened If a (text b (with_control e End ∷ r)) (text b' (with_control l' Else ∷ with_control e' End ∷ r'))
  add_else_alike a e l' e' b b' body =
      let cl' = closes_else b' Empty l' e' r' in
      if_alike a e l' End Else tt tt b b' body r (with_control e' End ∷ r') (closes b e End r refl) cl' (omega arith) (omega arith) refl refl
      (λ β u n m o hu hn hm. end_alone e' (label a If (text b' (with_control l' Else ∷ with_control e' End ∷ r'))) cl'.following β u n m o hu hn hm)

  -- an `end` on the other side only
  end_first : (e : A) (l : Label A) → after_closer l.following ≡ r → Same t (with_control e End ∷ r) (l ∷ labels) r' labels'
  end_first e l h β u zero m o hu hn hm = absurd (omega arith)
  end_first e l h β u (suc n) m o hu hn hm = ap (λ k. go β u n k labels o) h ∙ agree.same β u n m o hu (omega arith) hm

  drop_else_alike : (a i e e' : A) (b b' d : Sequence A) → Alike b b' → RewritesTo d Empty
      → SameOpened If a (text b (with_control i Else ∷ text d (with_control e End ∷ r))) (text b' (with_control e' End ∷ r'))
  drop_else_alike a i e e' b b' d body none =
      let c = with_control e End ∷ r in
      let l = label a If (text b (with_control i Else ∷ text d c)) in
      let cl = closes_else b d i e r in
      if_alike a i e' Else End tt tt b b' body (text d c) r' cl (closes b' e' End r' refl) (omega (arith, text_longer d c)) (omega arith) refl refl
      (does_nothing none t c r' (l ∷ labels) labels' (end_first e l cl.following))

  if_else_alike : (a i i' e e' : A) (b b' d d' : Sequence A) → Alike b b' → Alike d d'
      → SameOpened If a (text b (with_control i Else ∷ text d (with_control e End ∷ r))) (text b' (with_control i' Else ∷ text d' (with_control e' End ∷ r')))
  if_else_alike a i i' e e' b b' d d' body alternative =
      let c = with_control e End ∷ r in
      let c' = with_control e' End ∷ r' in
      let x = text b (with_control i Else ∷ text d c) in
      let x' = text b' (with_control i' Else ∷ text d' c') in
      let l = label a If x in
      let l' = label a If x' in
      let cl = closes_else b d i e r in
      let cl' = closes_else b' d' i' e' r' in
      let end : Closes x c r = record { following = cl.following; shorter = omega arith } in
      let end' : Closes x' c' r' = record { following = cl'.following; shorter = omega arith } in
      if_alike a i i' Else Else tt tt b b' body (text d c) (text d' c') cl cl'
      (omega (arith, text_longer d c)) (omega (arith, text_longer d' c')) refl refl
      (alternative t c c' (l ∷ labels) (l' ∷ labels') (record {
        outside = if_outside a t x x' c c' r r' labels labels' end end' agree;
        same = stopped End End e e' r r' l l' tt tt cl.following cl'.following (omega arith) (omega arith);
      }))

  delegate_alike : (a e e' : A) (n : ℕ) (b b' : Sequence A) → Alike b b'
      → SameOpened Try a (text b (with_control e (Delegate n) ∷ r)) (text b' (with_control e' (Delegate n) ∷ r'))
  delegate_alike a e e' n b b' body =
      let c = with_control e (Delegate n) ∷ r in
      let c' = with_control e' (Delegate n) ∷ r' in
      let x = text b c in
      let x' = text b' c' in
      let l = label a Try x in
      let l' = label a Try x' in
      let cl = closes b e (Delegate n) r refl in
      let cl' = closes b' e' (Delegate n) r' refl in
      try_same a t x x' labels labels'
      (body t c c' (l ∷ labels) (l' ∷ labels') (record {
        outside =
            try_outside a t x x' c c' r r' labels labels' cl cl' (λ g. seek_text b (catches g) 0 0 c) (λ g. seek_text b' (catches g) 0 0 c') agree
            (delegate_handled a e e' n t 0 x x' r r' labels labels' agree.outside);
        same = stopped (Delegate n) (Delegate n) e e' r r' l l' tt tt cl.following cl'.following (omega arith) (omega arith);
      }))

  -- the end of a body or a handler, before these clauses
  clauses_leave : {cs cs' : Clauses A} → ClausesRewriteTo cs cs' → (l l' : Label A) → after_closer l.following ≡ r
      → after_closer l'.following ≡ r'
      → Same t (clauses_text cs r) (l ∷ labels) (clauses_text cs' r') (l' ∷ labels')
  clauses_leave (ended {e = e} {e' = e'}) l l' h h' = stopped End End e e' r r' l l' tt tt h h' (omega arith) (omega arith)
  clauses_leave (catches_one {a = a} {a' = a'} {t = g} {b = b} {b' = b'} {cs = cs} {cs' = cs'} f fs) l l' h h' =
      let c = clauses_text cs r in
      let c' = clauses_text cs' r' in
      stopped (Catch g) (Catch g) a a' (text b c) (text b' c') l l' tt tt h h'
      (omega (arith, text_longer b c, clauses_longer cs r)) (omega (arith, text_longer b' c', clauses_longer cs' r'))
  clauses_leave (catches_all {a = a} {a' = a'} {e = e} {e' = e'} {b = b} {b' = b'} f) l l' h h' =
      let c = with_control e End ∷ r in
      let c' = with_control e' End ∷ r' in
      stopped CatchAll CatchAll a a' (text b c) (text b' c') l l' tt tt h h' (omega (arith, text_longer b c)) (omega (arith, text_longer b' c'))

  -- clauses that do the same with an exception
  abbrev Catching : Clauses A → Clauses A → Type 0
  Catching cs cs' =
      (a : A) (i : ℕ) (x x' : List (Marked A)) → after_closer x ≡ r → after_closer x' ≡ r'
      → Handled a t i x (clauses_text cs r) labels x' (clauses_text cs' r') labels'

  try_alike : (a : A) (b b' : Sequence A) (cs cs' : Clauses A) → Alike b b' → ClausesRewriteTo cs cs' → Catching cs cs'
      → SameOpened Try a (text b (clauses_text cs r)) (text b' (clauses_text cs' r'))
  try_alike a b b' cs cs' body fs catching =
      let c = clauses_text cs r in
      let c' = clauses_text cs' r' in
      let x = text b c in
      let x' = text b' c' in
      let l = label a Try x in
      let l' = label a Try x' in
      let cl = closes_clauses b cs r in
      let cl' = closes_clauses b' cs' r' in
      try_same a t x x' labels labels'
      (body t c c' (l ∷ labels) (l' ∷ labels') (record {
        outside =
            try_outside a t x x' c c' r r' labels labels' cl cl' (λ g. seek_text b (catches g) 0 0 c) (λ g. seek_text b' (catches g) 0 0 c') agree
            (catching a 0 x x' cl.following cl'.following);
        same = clauses_leave fs l l' cl.following cl'.following;
      }))

  catch_alike : (h h' : A) (tag : ℕ) (b b' : Sequence A) (cs cs' : Clauses A) → Alike b b' → ClausesRewriteTo cs cs' → Catching cs cs'
      → Catching (Catches h tag b cs) (Catches h' tag b' cs')
  catch_alike h h' tag b b' cs cs' body fs catching a i x x' hx hx' =
      let d = clauses_text cs r in
      let d' = clauses_text cs' r' in
      let cl : Closes x d r = record { following = hx; shorter = clauses_longer cs r } in
      let cl' : Closes x' d' r' = record { following = hx'; shorter = clauses_longer cs' r' } in
      catch_handled a h h' tag t i x x' (text b d) (text b' d') d d' labels labels' (text_longer b d) (text_longer b' d')
      (λ g j. seek_text b (catches g) 0 j d) (λ g j. seek_text b' (catches g) 0 j d')
      (λ g. body t d d' (handler (label a Try x) g ∷ labels) (handler (label a Try x') g ∷ labels') (record {
        outside = handler_outside a g t x x' d d' r r' labels labels' cl cl' agree;
        same = clauses_leave fs (handler (label a Try x) g) (handler (label a Try x') g) hx hx';
      }))
      (catching a (suc i) x x' hx hx')

  catch_all_alike : (h h' e e' : A) (b b' : Sequence A) → Alike b b' → Catching (CatchesAll h b e) (CatchesAll h' b' e')
  catch_all_alike h h' e e' b b' body a i x x' hx hx' =
      let d = with_control e End ∷ r in
      let d' = with_control e' End ∷ r' in
      let cl : Closes x d r = record { following = hx; shorter = omega arith } in
      let cl' : Closes x' d' r' = record { following = hx'; shorter = omega arith } in
      catch_all_handled a h h' t i x x' (text b d) (text b' d') labels labels' λ g.
      body t d d' (handler (label a Try x) g ∷ labels) (handler (label a Try x') g ∷ labels') (record {
        outside = handler_outside a g t x x' d d' r r' labels labels' cl cl' agree;
        same = stopped End End e e' r r' (handler (label a Try x) g) (handler (label a Try x') g) tt tt hx hx' (omega arith) (omega arith);
      })

mutual
  alike : {A : Type 0} {s s' : Sequence A} → RewritesTo s s' → Alike s s'
  alike empty t k k' ls ls' agree = agree.same
  alike (drop_nop {a = a} {r = r} {r' = r'} f) t k k' ls ls' agree = nop_same a t (text r k) (text r' k') ls ls' (alike f t k k' ls ls' agree)
  alike (keep {a = a} {action = action} {r = r} {r' = r'} f) t k k' ls ls' agree =
      let rest = rest_agrees r r' (alike f) t k k' ls ls' agree in kept_same action a t (text r k) (text r' k') ls ls' rest.outside rest.same
  alike (unreachable_after {a = a} {action = action} {r = r} h) t k k' ls ls' agree =
      last_same action a t (text r k) k' ls ls' h
      (weaken t t _ _ _ _ ls ls' (omega arith) (text_longer r k) (omega arith) agree.outside)
  alike (wrapped {a = a} {e = e} {e' = e'} {w = w} {b = b} {b' = b'} {r = r} {r' = r'} f g) t k k' ls ls' agree =
      wrapped_alike t (text r k) (text r' k') ls ls' (rest_agrees r r' (alike g) t k k' ls ls' agree) w a e e' b b' (alike f)
  alike (if_then {a = a} {e = e} {e' = e'} {b = b} {b' = b'} {r = r} {r' = r'} f g) t k k' ls ls' agree =
      if_then_alike t (text r k) (text r' k') ls ls' (rest_agrees r r' (alike g) t k k' ls ls' agree) a e e' b b' (alike f)
  alike (if_else {a = a} {l = l} {l' = l'} {e = e} {e' = e'} {b = b} {b' = b'} {c = d} {c' = d'} {r = r} {r' = r'} f h g) t k k' ls ls' agree =
      if_else_alike t (text r k) (text r' k') ls ls' (rest_agrees r r' (alike g) t k k' ls ls' agree) a l l' e e' b b' d d' (alike f) (alike h)
  alike (add_else {a = a} {l' = l'} {e = e} {e' = e'} {b = b} {b' = b'} {r = r} {r' = r'} f g) t k k' ls ls' agree =
      add_else_alike t (text r k) (text r' k') ls ls' (rest_agrees r r' (alike g) t k k' ls ls' agree) a e l' e' b b' (alike f)
  alike (drop_else {a = a} {l = l} {e = e} {e' = e'} {b = b} {b' = b'} {c = d} {r = r} {r' = r'} f h g) t k k' ls ls' agree =
      drop_else_alike t (text r k) (text r' k') ls ls' (rest_agrees r r' (alike g) t k k' ls ls' agree) a l e e' b b' d (alike f) h
  alike (try_catch {a = a} {b = b} {b' = b'} {r = r} {r' = r'} {cs = cs} {cs' = cs'} f fs g) t k k' ls ls' agree =
      let rest = rest_agrees r r' (alike g) t k k' ls ls' agree in
      try_alike t (text r k) (text r' k') ls ls' rest a b b' cs cs' (alike f) fs (catching fs t (text r k) (text r' k') ls ls' rest)
  alike (try_delegate {a = a} {e = e} {e' = e'} {n = n} {b = b} {b' = b'} {r = r} {r' = r'} f g) t k k' ls ls' agree =
      delegate_alike t (text r k) (text r' k') ls ls' (rest_agrees r r' (alike g) t k k' ls ls' agree) a e e' n b b' (alike f)

  catching : {A : Type 0} {cs cs' : Clauses A} → ClausesRewriteTo cs cs'
      → (t : ℕ) (r r' : List (Marked A)) (labels labels' : List (Label A)) (agree : Agree t r labels r' labels')
      → Catching t r r' labels labels' agree cs cs'
  catching (ended {e = e} {e' = e'}) t r r' ls ls' agree = λ a i x x' hx hx'. ended_handled a e e' t i x x' r r' ls ls' agree.outside
  catching (catches_one {a = h} {a' = h'} {t = tag} {b = b} {b' = b'} {cs = cs} {cs' = cs'} f fs) t r r' ls ls' agree =
      catch_alike t r r' ls ls' agree h h' tag b b' cs cs' (alike f) fs (catching fs t r r' ls ls' agree)
  catching (catches_all {a = h} {a' = h'} {e = e} {e' = e'} {b = b} {b' = b'} f) t r r' ls ls' agree =
      catch_all_alike t r r' ls ls' agree h h' e e' b b' (alike f)

-- ---- bodies

body_agrees : {A : Type 0} → (e e' : A) (t : ℕ) → Agree t (with_control e End ∷ []) [] (with_control e' End ∷ []) []
body_agrees e e' t = record { outside = no_labels t (length (with_control e End ∷ [])) (length (with_control e' End ∷ [])); same = last_end e e' t }

pub bodies_alike : {A : Type 0} → (b b' : Body A) → RewritesTo b.sequence b'.sequence → (t : ℕ) → Same t (body_text b) [] (body_text b') []
bodies_alike b b' f t = alike f t (with_control b.close End ∷ []) (with_control b'.close End ∷ []) [] [] (body_agrees b.close b'.close t)

pub runs_alike : {A : Type 0} → (b b' : Body A) → RewritesTo b.sequence b'.sequence
    → (β : Bound A) (outcomes : List Outcome) (turns : ℕ)
    → bounded_run β.of turns (body_text b) [] outcomes ≡ run (body_text b') outcomes turns
runs_alike b b' f β o t =
    let x = body_text b in
    let x' = body_text b' in
    bounded_run-go β t x [] o
    ∙ (bodies_alike b b' f t β t (β.of x) (length x') o (omega arith) (β.suffices x) (omega arith) ∙ sym (bounded_run-go the_count t x' [] o))
