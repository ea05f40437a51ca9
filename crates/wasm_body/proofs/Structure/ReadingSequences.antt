-- A sequence before an operator that ends it is read in one way.
use Rattle.std.proofs.Common.{◌≡◌, List, [], ◌∷◌, ◌++◌, refl, sym, ap, subst, ◌∙◌}
use Rattle.wasm_body.specs.Control.{If, Try, Control, Does, Opens, Else, Catch, CatchAll, End, Delegate, Marked, with_control}
use Rattle.wasm_body.specs.SourceTree.{construct_of, Sequence, Empty, Single, Wrapped, IfThen, IfElse, TryCatch, TryDelegate, Clauses, Ended, Catches, CatchesAll, text, clauses_text}
use Rattle.wasm_body.specs.TextLaws.{EndsSequence, OneSequence}
use Rattle.wasm_body.specs.Parsing.Progress.{Progress, Within, Whole, NoBody, nothing_read, further, progress_after}
use Rattle.wasm_body.proofs.Structure.ReadingTrees.{reads}

after_append : {A : Type 0} → (xs ys : List (Marked A)) (st : Progress A) → progress_after st (xs ++ ys) ≡ progress_after (progress_after st xs) ys
after_append [] ys st = refl
after_append (x ∷ xs) ys st = after_append xs ys (further st x)

mutual
  text_append : {A : Type 0} → (s : Sequence A) (k m : List (Marked A)) → text s k ++ m ≡ text s (k ++ m)
  text_append Empty k m = refl
  text_append (Single a action r) k m = ap (λ l. with_control a (Does action) ∷ l) (text_append r k m)
  text_append (Wrapped a w b e r) k m =
      ap (λ l. with_control a (Opens (construct_of w)) ∷ l) (text_append b (with_control e End ∷ text r k) m
      ∙ ap (λ l. text b (with_control e End ∷ l)) (text_append r k m))
  text_append (IfThen a b e r) k m =
      ap (λ l. with_control a (Opens If) ∷ l) (text_append b (with_control e End ∷ text r k) m ∙ ap (λ l. text b (with_control e End ∷ l)) (text_append r k m))
  text_append (IfElse a b l c e r) k m =
      ap (λ j. with_control a (Opens If) ∷ j) (text_append b (with_control l Else ∷ text c (with_control e End ∷ text r k)) m
      ∙ ap (λ j. text b (with_control l Else ∷ j)) (text_append c (with_control e End ∷ text r k) m ∙ ap (λ j. text c (with_control e End ∷ j)) (text_append r k m)))
  text_append (TryCatch a b cs r) k m =
      ap (λ l. with_control a (Opens Try) ∷ l) (text_append b (clauses_text cs (text r k)) m
      ∙ ap (text b) (clauses_append cs (text r k) m ∙ ap (clauses_text cs) (text_append r k m)))
  text_append (TryDelegate a b e n r) k m =
      ap (λ l. with_control a (Opens Try) ∷ l) (text_append b (with_control e (Delegate n) ∷ text r k) m
      ∙ ap (λ l. text b (with_control e (Delegate n) ∷ l)) (text_append r k m))

  clauses_append : {A : Type 0} → (cs : Clauses A) (k m : List (Marked A)) → clauses_text cs k ++ m ≡ clauses_text cs (k ++ m)
  clauses_append (Ended e) k m = refl
  clauses_append (Catches h t c cs) k m = ap (λ l. with_control h (Catch t) ∷ l) (text_append c (clauses_text cs k) m ∙ ap (text c) (clauses_append cs k m))
  clauses_append (CatchesAll h c e) k m = ap (λ l. with_control h CatchAll ∷ l) (text_append c (with_control e End ∷ k) m)

-- two fronts of one list: the same, or one goes on
data Forked {A : Type 0} (xs : List A) (x : A) (k : List A) (ys : List A) (y : A) (l : List A) : Type 0 where
  same : xs ≡ ys → x ≡ y → k ≡ l → Forked xs x k ys y l
  shorter : (m : List A) → ys ≡ xs ++ x ∷ m → Forked xs x k ys y l
  longer : (m : List A) → xs ≡ ys ++ y ∷ m → Forked xs x k ys y l

forked_cons : {A : Type 0} {xs ys k l : List A} {x y : A} → (c d : A) → c ≡ d → Forked xs x k ys y l → Forked (c ∷ xs) x k (d ∷ ys) y l
forked_cons {x = x} {y = y} c d e (same p q r) = same (cc) q r
forked_cons {x = x} {y = y} c d e (shorter m p) = shorter m (cc)
forked_cons {x = x} {y = y} c d e (longer m p) = longer m (cc)

forked : {A : Type 0} → (xs : List A) (x : A) (k ys : List A) (y : A) (l : List A) → xs ++ x ∷ k ≡ ys ++ y ∷ l → Forked xs x k ys y l
forked [] x k [] y l e = same refl (cc) (cc)
forked [] x k (d ∷ ys) y l e = let p : x ≡ d = cc in shorter ys (ap (λ z. z ∷ ys) (sym p))
forked (c ∷ xs) x k [] y l e = let p : c ≡ y = cc in longer xs (ap (λ z. z ∷ xs) p)
forked (c ∷ xs) x k (d ∷ ys) y l e =
    let p : c ≡ d = cc in
    let q : xs ++ x ∷ k ≡ ys ++ y ∷ l = cc in forked_cons c d p (forked xs x k ys y l q)

-- nothing is open
abbrev IsOut : {A : Type 0} → Progress A → Type 0
IsOut (Within ls s) = ⊥
IsOut (Whole b) = Unit {0}
IsOut NoBody = Unit {0}

stops_out : {A : Type 0} → (c : Control) (a : A) (s : Sequence A) → EndsSequence c → IsOut (further (Within [] s) (with_control a c))
stops_out (Does action) a s h = h
stops_out (Opens construct) a s h = h
stops_out Else a s h = tt
stops_out (Catch t) a s h = tt
stops_out CatchAll a s h = tt
stops_out End a s h = tt
stops_out (Delegate n) a s h = tt

stays_out : {A : Type 0} → (m : List (Marked A)) (st : Progress A) → IsOut st → IsOut (progress_after st m)
stays_out [] st h = h
stays_out (x ∷ m) (Within ls s) h = absurd h
stays_out (x ∷ m) (Whole b) h = stays_out m NoBody tt
stays_out (x ∷ m) NoBody h = stays_out m NoBody tt

sequence_read : {A : Type 0} → (s : Sequence A) → progress_after nothing_read (text s []) ≡ Within [] s
sequence_read s = reads s [] Empty []

no_longer : {A : Type 0} → (s t : Sequence A) (x : Marked A) (m : List (Marked A)) → EndsSequence x.control → text t [] ≡ text s [] ++ x ∷ m → ⊥
no_longer s t x m h e =
    let far : progress_after nothing_read (text t []) ≡ progress_after (further (Within [] s) x) m =
    ap (progress_after nothing_read) e ∙ (after_append (text s []) (x ∷ m) nothing_read ∙ ap (λ st. progress_after st (x ∷ m)) (sequence_read s)) in
    subst IsOut (sym far ∙ sequence_read t) (stays_out m (further (Within [] s) x) (stops_out x.control x.shown s h))

one_of_forked : {A : Type 0} → (s t : Sequence A) (x y : Marked A) (k l : List (Marked A)) → EndsSequence x.control → EndsSequence y.control
    → Forked (text s []) x k (text t []) y l → (s ≡ t) × (x ≡ y) × (k ≡ l)
one_of_forked s t x y k l h g (same p q r) =
    let d : Within [] s ≡ Within [] t = sym (sequence_read s) ∙ (ap (progress_after nothing_read) p ∙ sequence_read t) in
    let f : s ≡ t = cc in (f, q, r)
one_of_forked s t x y k l h g (shorter m p) = absurd (no_longer s t x m h p)
one_of_forked s t x y k l h g (longer m p) = absurd (no_longer t s y m g p)

pub one_sequence : {A : Type 0} → OneSequence A
one_sequence s t x y k l h g e =
    one_of_forked s t x y k l h g (forked (text s []) x k (text t []) y l (text_append s [] (x ∷ k) ∙ (e ∙ sym (text_append t [] (y ∷ l)))))
