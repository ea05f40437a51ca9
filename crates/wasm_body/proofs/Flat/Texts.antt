-- What is written operator by operator is the text of the rewritten body: along the source tree, sequence by sequence.
use Rattle.std.proofs.Common.{◌≡◌, ℕ, List, [], ◌∷◌, Bool, true, false, refl, sym, ap, ◌∙◌}
use Rattle.std.proofs.lemmas.Bool.{eq-eqb}
use Rattle.std.specs.Prelude.{◌++◌, ◌&&◌, not, if◌then◌else◌}
use Rattle.walrus_ir.specs.Locations.{default_location}
use Rattle.wasm_body.specs.Control.{Action, If, Try, Control, Does, Opens, Else, Catch, CatchAll, End, Delegate, Marked, with_control}
use Rattle.wasm_body.specs.SourceTree.{Sequence, Empty, Single, Wrapped, IfThen, IfElse, TryCatch, TryDelegate, Clauses, Ended, Catches, CatchesAll, Wrapper, OfBlock, OfLoop, OfTryTable, construct_of, text, clauses_text, Body, body_text}
use Rattle.wasm_body.specs.Naming.{NamedOperation}
use Rattle.wasm_body.specs.FunctionTree.{last_location}
use Rattle.wasm_body.specs.NormalForm.{Fate, Drops, Stays, MakesUnreachable, fate}
use Rattle.wasm_body.specs.Keeping.{unreachable_after, is_unreachable_after}
use Rattle.wasm_body.specs.RewrittenTree.{end_at, else_at, catch_at, catch_all_at, delegate_at, single_with_fate, is_empty_sequence, written_if, rewritten, rewritten_clauses, rewritten_body_by}
use Rattle.wasm_body.specs.TextLaws.{EndsSequence}
use Rattle.wasm_body.specs.Flat.{Named, Mode, Live, Waits, Unreachable, Open, Dropped, Kept, flat_state, first_state, plain_written, after_else, mode_after, begins_with, flat}
use Rattle.wasm_body.specs.FlatLaws.{FlatIsRewritten}

-- the mode after a sequence that is written
abbrev mode_of : (is_unreachable_after : Bool) → Mode
mode_of true = Unreachable
mode_of false = Live

last_default : (l : ℕ) → last_location l default_location ≡ l
last_default l = ap (λ b. if b then l else default_location) (eq-eqb default_location default_location refl)

-- what is written where an `else` waits before a sequence: nothing so far if nothing of the sequence is written
abbrev waited : (is_empty_sequence : Bool) → (location : ℕ) → (following live : List (Marked Named)) → List (Marked Named)
waited true l following live = following
waited false l following live = with_control (else_at l) Else ∷ live

not_empty : (t : Bool) (a : Named) (b : Sequence Named) (l : ℕ) (c : Sequence Named) (n : ℕ) (r : Sequence Named) → false ≡ is_empty_sequence (written_if t a b l c n r)
not_empty true a b l c n r = refl
not_empty false a b l c n r = refl

module _ (balanced : NamedOperation → Bool) where
  abbrev from : Mode → List Open → List (Marked Named) → List (Marked Named)
  from m bs xs = flat balanced (flat_state m bs) xs

  abbrev anew : Sequence Named → Sequence Named
  anew s = rewritten balanced s

  wrapper_begins : (w : Wrapper) (o : NamedOperation) → begins_with balanced (construct_of w) o ≡ false
  wrapper_begins OfBlock o = refl
  wrapper_begins OfLoop o = refl
  wrapper_begins (OfTryTable cs) o = refl

  -- the operator that ends an unreachable sequence is written as that of a live one
  at_end : (unreachable needed : Bool) (bs : List Open) (a : Named) (c : Control) → EndsSequence c → (ys : List (Marked Named)) →
      from (mode_of unreachable) (Kept needed ∷ bs) (with_control a c ∷ ys) ≡ from Live (Kept needed ∷ bs) (with_control a c ∷ ys)
  at_end false needed bs a c h ys = refl
  at_end true needed bs a Else h ys = refl
  at_end true needed bs a (Catch t) h ys = refl
  at_end true needed bs a CatchAll h ys = refl
  at_end true needed bs a End h ys = refl
  at_end true needed bs a (Delegate n) h ys = refl
  at_end true needed bs a (Does action) h ys = absurd h
  at_end true needed bs a (Opens c) h ys = absurd h

  -- ---- unreachable code

  mutual
    unreachable : (s : Sequence Named) (bs : List Open) (k : List (Marked Named)) → from Unreachable bs (text s k) ≡ from Unreachable bs k
    unreachable Empty bs k = refl
    unreachable (Single a action r) bs k = unreachable r bs k
    unreachable (Wrapped a w b e r) bs k = unreachable b (Dropped ∷ bs) (with_control e End ∷ text r k) ∙ unreachable r bs k
    unreachable (IfThen a b e r) bs k = unreachable b (Dropped ∷ bs) (with_control e End ∷ text r k) ∙ unreachable r bs k
    unreachable (IfElse a b l c e r) bs k =
        unreachable b (Dropped ∷ bs) (with_control l Else ∷ text c (with_control e End ∷ text r k))
        ∙ (unreachable c (Dropped ∷ bs) (with_control e End ∷ text r k) ∙ unreachable r bs k)
    unreachable (TryCatch a b cs r) bs k = unreachable b (Dropped ∷ bs) (clauses_text cs (text r k)) ∙ (unreachable_clauses cs bs (text r k) ∙ unreachable r bs k)
    unreachable (TryDelegate a b e n r) bs k = unreachable b (Dropped ∷ bs) (with_control e (Delegate n) ∷ text r k) ∙ unreachable r bs k

    unreachable_clauses : (cs : Clauses Named) (bs : List Open) (k : List (Marked Named)) → from Unreachable (Dropped ∷ bs) (clauses_text cs k) ≡ from Unreachable bs k
    unreachable_clauses (Ended e) bs k = refl
    unreachable_clauses (Catches a t b cs) bs k = unreachable b (Dropped ∷ bs) (clauses_text cs k) ∙ unreachable_clauses cs bs k
    unreachable_clauses (CatchesAll a b e) bs k = unreachable b (Dropped ∷ bs) (with_control e End ∷ k)

  -- ---- an `else` that waits

  waits_fate : (f : Fate) (a : Named) (action : Action) (r : Sequence Named) (l : ℕ) (bs : List Open) (k : List (Marked Named)) →
      from (Waits l) bs (text r k) ≡ waited (is_empty_sequence (anew r)) l (from (Waits l) bs k) (from Live bs (text r k)) →
      after_else l (plain_written f a action) ++ from (mode_after f (Waits l)) bs (text r k)
      ≡ waited (is_empty_sequence (single_with_fate f a action (anew r))) l (from (Waits l) bs k) (plain_written f a action ++ from (mode_after f Live) bs (text r k))
  waits_fate Drops a action r l bs k h = h
  waits_fate Stays a action r l bs k h = refl
  waits_fate MakesUnreachable a action r l bs k h = refl

  waits : (s : Sequence Named) (l : ℕ) (bs : List Open) (k : List (Marked Named)) →
      from (Waits l) bs (text s k) ≡ waited (is_empty_sequence (anew s)) l (from (Waits l) bs k) (from Live bs (text s k))
  waits Empty l bs k = refl
  waits (Single a action r) l bs k = waits_fate (fate action) a action r l bs k (waits r l bs k)
  waits (Wrapped a w b e r) l bs k = refl
  waits (IfThen a b e r) l bs k =
      ap (λ t. waited t l (from (Waits l) bs k) (from Live bs (text (IfThen a b e r) k)))
      (not_empty (balanced a.op) a (anew b) e.location Empty default_location (anew r))
  waits (IfElse a b m c e r) l bs k =
      ap (λ t. waited t l (from (Waits l) bs k) (from Live bs (text (IfElse a b m c e r) k)))
      (not_empty (balanced a.op && is_empty_sequence (anew c)) a (anew b) m.location (anew c) e.location (anew r))
  waits (TryCatch a b cs r) l bs k = refl
  waits (TryDelegate a b e n r) l bs k = refl

  -- ---- live code

  -- what is written of the sequence is its text, whatever comes after it
  abbrev Goes : Sequence Named → Type 0
  Goes s = (bs : List Open) (j k : List (Marked Named)) → from (mode_of (is_unreachable_after s)) bs k ≡ j → from Live bs (text s k) ≡ text (anew s) j

  single : (f : Fate) (a : Named) (action : Action) (r : Sequence Named) (bs : List Open) (j k : List (Marked Named)) → Goes r →
      from (mode_of (unreachable_after f (is_unreachable_after r))) bs k ≡ j →
      plain_written f a action ++ from (mode_after f Live) bs (text r k) ≡ text (single_with_fate f a action (anew r)) j
  single Drops a action r bs j k g h = g bs j k h
  single Stays a action r bs j k g h = ap (λ l. with_control a (Does action) ∷ l) (g bs j k h)
  single MakesUnreachable a action r bs j k g h = ap (λ l. with_control a (Does action) ∷ l) (unreachable r bs k ∙ h)

  if_then : (t : Bool) (a : Named) (b : Sequence Named) (e : Named) (r : Sequence Named) (bs : List Open) (j k : List (Marked Named)) → Goes b →
      from Live bs (text r k) ≡ text (anew r) j →
      with_control a (Opens If) ∷ from Live (Kept (not t) ∷ bs) (text b (with_control e End ∷ text r k))
      ≡ text (written_if t a (anew b) e.location Empty default_location (anew r)) j
  if_then true a b e r bs j k g h =
      ap (λ l. with_control a (Opens If) ∷ l)
      (g (Kept false ∷ bs) (with_control (end_at (last_location e.location default_location)) End ∷ text (anew r) j) (with_control e End ∷ text r k)
      (at_end (is_unreachable_after b) false bs e End tt (text r k)
      ∙ (ap (λ l. with_control (end_at e.location) End ∷ l) h
      ∙ ap (λ n. with_control (end_at n) End ∷ text (anew r) j) (sym (last_default e.location)))))
  if_then false a b e r bs j k g h =
      ap (λ l. with_control a (Opens If) ∷ l)
      (g (Kept true ∷ bs) (with_control (else_at e.location) Else ∷ with_control (end_at default_location) End ∷ text (anew r) j) (with_control e End ∷ text r k)
      (at_end (is_unreachable_after b) true bs e End tt (text r k)
      ∙ ap (λ l. with_control (else_at e.location) Else ∷ with_control (end_at default_location) End ∷ l) h))

  -- with an alternative of a balanced type, of which nothing is written or something is
  alternative : (nothing : Bool) (a : Named) (b : Sequence Named) (l : Named) (c : Sequence Named) (e : Named) (r : Sequence Named) (bs : List Open) (j k : List (Marked Named)) →
      Goes b → Goes c → from Live bs (text r k) ≡ text (anew r) j →
      from (Waits l.location) (Kept false ∷ bs) (text c (with_control e End ∷ text r k))
      ≡ waited nothing l.location (from (Waits l.location) (Kept false ∷ bs) (with_control e End ∷ text r k)) (from Live (Kept false ∷ bs) (text c (with_control e End ∷ text r k))) →
      with_control a (Opens If) ∷ from Live (Kept false ∷ bs) (text b (with_control l Else ∷ text c (with_control e End ∷ text r k)))
      ≡ text (written_if nothing a (anew b) l.location (anew c) e.location (anew r)) j
  alternative true a b l c e r bs j k g d h w =
      ap (λ x. with_control a (Opens If) ∷ x)
      (g (Kept false ∷ bs) (with_control (end_at (last_location l.location e.location)) End ∷ text (anew r) j) (with_control l Else ∷ text c (with_control e End ∷ text r k))
      (at_end (is_unreachable_after b) false bs l Else tt (text c (with_control e End ∷ text r k))
      ∙ (w ∙ ap (λ x. with_control (end_at (last_location l.location e.location)) End ∷ x) h)))
  alternative false a b l c e r bs j k g d h w =
      ap (λ x. with_control a (Opens If) ∷ x)
      (g (Kept false ∷ bs) (with_control (else_at l.location) Else ∷ text (anew c) (with_control (end_at e.location) End ∷ text (anew r) j)) (with_control l Else ∷ text c (with_control e End ∷ text r k))
      (at_end (is_unreachable_after b) false bs l Else tt (text c (with_control e End ∷ text r k))
      ∙ (w
      ∙ ap (λ x. with_control (else_at l.location) Else ∷ x)
      (d (Kept false ∷ bs) (with_control (end_at e.location) End ∷ text (anew r) j) (with_control e End ∷ text r k)
      (at_end (is_unreachable_after c) false bs e End tt (text r k) ∙ ap (λ x. with_control (end_at e.location) End ∷ x) h)))))

  if_else : (t : Bool) (a : Named) (b : Sequence Named) (l : Named) (c : Sequence Named) (e : Named) (r : Sequence Named) (bs : List Open) (j k : List (Marked Named)) →
      Goes b → Goes c → from Live bs (text r k) ≡ text (anew r) j →
      with_control a (Opens If) ∷ from Live (Kept (not t) ∷ bs) (text b (with_control l Else ∷ text c (with_control e End ∷ text r k)))
      ≡ text (written_if (t && is_empty_sequence (anew c)) a (anew b) l.location (anew c) e.location (anew r)) j
  if_else true a b l c e r bs j k g d h =
      alternative (is_empty_sequence (anew c)) a b l c e r bs j k g d h (waits c l.location (Kept false ∷ bs) (with_control e End ∷ text r k))
  if_else false a b l c e r bs j k g d h =
      ap (λ x. with_control a (Opens If) ∷ x)
      (g (Kept true ∷ bs) (with_control (else_at l.location) Else ∷ text (anew c) (with_control (end_at e.location) End ∷ text (anew r) j)) (with_control l Else ∷ text c (with_control e End ∷ text r k))
      (at_end (is_unreachable_after b) true bs l Else tt (text c (with_control e End ∷ text r k))
      ∙ ap (λ x. with_control (else_at l.location) Else ∷ x)
      (d (Kept false ∷ bs) (with_control (end_at e.location) End ∷ text (anew r) j) (with_control e End ∷ text r k)
      (at_end (is_unreachable_after c) false bs e End tt (text r k) ∙ ap (λ x. with_control (end_at e.location) End ∷ x) h))))

  mutual
    live : (s : Sequence Named) → Goes s
    live Empty bs j k h = h
    live (Single a action r) bs j k h = single (fate action) a action r bs j k (live r) h
    live (Wrapped a w b e r) bs j k h =
        ap (λ t. with_control a (Opens (construct_of w)) ∷ from Live (Kept t ∷ bs) (text b (with_control e End ∷ text r k))) (wrapper_begins w a.op)
        ∙ ap (λ l. with_control a (Opens (construct_of w)) ∷ l)
        (live b (Kept false ∷ bs) (with_control (end_at e.location) End ∷ text (anew r) j) (with_control e End ∷ text r k)
        (at_end (is_unreachable_after b) false bs e End tt (text r k) ∙ ap (λ l. with_control (end_at e.location) End ∷ l) (live r bs j k h)))
    live (IfThen a b e r) bs j k h = if_then (balanced a.op) a b e r bs j k (live b) (live r bs j k h)
    live (IfElse a b l c e r) bs j k h = if_else (balanced a.op) a b l c e r bs j k (live b) (live c) (live r bs j k h)
    live (TryCatch a b cs r) bs j k h =
        ap (λ l. with_control a (Opens Try) ∷ l)
        (live b (Kept false ∷ bs) (clauses_text (rewritten_clauses balanced cs) (text (anew r) j)) (clauses_text cs (text r k)) (clauses cs (is_unreachable_after b) bs (text (anew r) j) (text r k) (live r bs j k h)))
    live (TryDelegate a b e n r) bs j k h =
        ap (λ l. with_control a (Opens Try) ∷ l)
        (live b (Kept false ∷ bs) (with_control (delegate_at n default_location) (Delegate n) ∷ text (anew r) j) (with_control e (Delegate n) ∷ text r k)
        (at_end (is_unreachable_after b) false bs e (Delegate n) tt (text r k)
        ∙ ap (λ l. with_control (delegate_at n default_location) (Delegate n) ∷ l) (live r bs j k h)))

    -- the clauses after a sequence of a `try`
    clauses : (cs : Clauses Named) (unreachable : Bool) (bs : List Open) (j k : List (Marked Named)) → from Live bs k ≡ j →
        from (mode_of unreachable) (Kept false ∷ bs) (clauses_text cs k) ≡ clauses_text (rewritten_clauses balanced cs) j
    clauses (Ended e) unreachable bs j k h = at_end unreachable false bs e End tt k ∙ ap (λ l. with_control (end_at e.location) End ∷ l) h
    clauses (Catches a t b cs) unreachable bs j k h =
        at_end unreachable false bs a (Catch t) tt (text b (clauses_text cs k))
        ∙ ap (λ l. with_control (catch_at t a.location) (Catch t) ∷ l) (live b (Kept false ∷ bs) (clauses_text (rewritten_clauses balanced cs) j) (clauses_text cs k) (clauses cs (is_unreachable_after b) bs j k h))
    clauses (CatchesAll a b e) unreachable bs j k h =
        at_end unreachable false bs a CatchAll tt (text b (with_control e End ∷ k))
        ∙ ap (λ l. with_control (catch_all_at a.location) CatchAll ∷ l)
        (live b (Kept false ∷ bs) (with_control (end_at e.location) End ∷ j) (with_control e End ∷ k) (at_end (is_unreachable_after b) false bs e End tt k ∙ ap (λ l. with_control (end_at e.location) End ∷ l) h))

  pub written_body : (b : Body Named) → flat balanced first_state (body_text b) ≡ body_text (rewritten_body_by balanced b)
  written_body b = live b.sequence (Kept false ∷ []) (with_control (end_at b.close.location) End ∷ []) (with_control b.close End ∷ []) (at_end (is_unreachable_after b.sequence) false [] b.close End tt [])

pub flat_is_rewritten : FlatIsRewritten
flat_is_rewritten balanced b = written_body balanced b
