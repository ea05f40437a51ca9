-- The text of a body is read as that body, and so as no other.
use Rattle.std.proofs.Common.{◌≡◌, ℕ, List, [], ◌∷◌, refl, sym, ap, ◌∙◌}
use Rattle.wasm_body.specs.Control.{Else, Catch, CatchAll, End, Delegate, Marked, with_control}
use Rattle.wasm_body.specs.SourceTree.{Wrapper, OfBlock, OfLoop, OfTryTable, construct_of, Sequence, Empty, Single, Wrapped, IfThen, IfElse, TryCatch, TryDelegate, Clauses, Ended, Catches, CatchesAll, text, clauses_text, Body, body_text}
use Rattle.wasm_body.specs.TextLaws.{OneBody}
use Rattle.wasm_body.specs.Parsing.Progress.{append, ClosedClause, closed_clause, after_closed, InThen, InElse, InTry, InCatch, InCatchAll, Layer, layer, Progress, Within, Whole, nothing_read, opened, closed, further, progress_after}

pub append_nil : {A : Type 0} → (s : Sequence A) → append s Empty ≡ s
append_nil Empty = refl
append_nil (Single a action r) = ap (Single a action) (append_nil r)
append_nil (Wrapped a w b e r) = ap (Wrapped a w b e) (append_nil r)
append_nil (IfThen a b e r) = ap (IfThen a b e) (append_nil r)
append_nil (IfElse a b l c e r) = ap (IfElse a b l c e) (append_nil r)
append_nil (TryCatch a b cs r) = ap (TryCatch a b cs) (append_nil r)
append_nil (TryDelegate a b e n r) = ap (TryDelegate a b e n) (append_nil r)

pub append_twice : {A : Type 0} → (s t u : Sequence A) → append (append s t) u ≡ append s (append t u)
append_twice Empty t u = refl
append_twice (Single a action r) t u = ap (Single a action) (append_twice r t u)
append_twice (Wrapped a w b e r) t u = ap (Wrapped a w b e) (append_twice r t u)
append_twice (IfThen a b e r) t u = ap (IfThen a b e) (append_twice r t u)
append_twice (IfElse a b l c e r) t u = ap (IfElse a b l c e) (append_twice r t u)
append_twice (TryCatch a b cs r) t u = ap (TryCatch a b cs) (append_twice r t u)
append_twice (TryDelegate a b e n r) t u = ap (TryDelegate a b e n) (append_twice r t u)

-- an item that is read after another is after it in the tree
joined : {A : Type 0} → (ls : List (Layer A)) (p q r : Sequence A) (k : List (Marked A)) → progress_after (Within ls (append (append p q) r)) k ≡ progress_after (Within ls (append p (append q r))) k
joined ls p q r k = ap (λ s. progress_after (Within ls s) k) (append_twice p q r)

wrap_closed : {A : Type 0} → (a e : A) (w : Wrapper) (s : Sequence A) → closed (opened a (construct_of w)) s e ≡ Wrapped a w s e Empty
wrap_closed a e OfBlock s = refl
wrap_closed a e OfLoop s = refl
wrap_closed a e (OfTryTable cs) s = refl

-- after the body of a `try`, or after the last of these handlers
abbrev pub trying : {A : Type 0} → List (Layer A) → Sequence A → A → Sequence A → List (ClosedClause A) → Progress A
trying ls d a b [] = Within (layer d (InTry a) ∷ ls) b
trying ls d a b (g ∷ gs) = Within (layer d (InCatch a b gs g.mark g.tag) ∷ ls) g.body

try_ends : {A : Type 0} → (ls : List (Layer A)) (d : Sequence A) (a e : A) (b : Sequence A) (gs : List (ClosedClause A)) → further (trying ls d a b gs) (with_control e End) ≡ Within ls (append d (TryCatch a b (after_closed gs (Ended e)) Empty))
try_ends ls d a e b [] = refl
try_ends ls d a e b (g ∷ gs) = refl

try_catches : {A : Type 0} → (ls : List (Layer A)) (d : Sequence A) (a h : A) (t : ℕ) (b : Sequence A) (gs : List (ClosedClause A)) → further (trying ls d a b gs) (with_control h (Catch t)) ≡ Within (layer d (InCatch a b gs h t) ∷ ls) Empty
try_catches ls d a h t b [] = refl
try_catches ls d a h t b (g ∷ gs) = refl

try_catches_all : {A : Type 0} → (ls : List (Layer A)) (d : Sequence A) (a h : A) (b : Sequence A) (gs : List (ClosedClause A)) → further (trying ls d a b gs) (with_control h CatchAll) ≡ Within (layer d (InCatchAll a b gs h) ∷ ls) Empty
try_catches_all ls d a h b [] = refl
try_catches_all ls d a h b (g ∷ gs) = refl

-- a sequence is read, and comes after the items before it
mutual
  pub reads : {A : Type 0} → (s : Sequence A) (ls : List (Layer A)) (p : Sequence A) (k : List (Marked A)) → progress_after (Within ls p) (text s k) ≡ progress_after (Within ls (append p s)) k
  reads Empty ls p k = ap (λ q. progress_after (Within ls q) k) (sym (append_nil p))
  reads (Single a action r) ls p k = reads r ls (append p (Single a action Empty)) k ∙ joined ls p (Single a action Empty) r k
  reads (Wrapped a w b e r) ls p k =
      reads b (layer p (opened a (construct_of w)) ∷ ls) Empty (with_control e End ∷ text r k)
      ∙ (ap (λ c. progress_after (Within ls (append p c)) (text r k)) (wrap_closed a e w b)
      ∙ (reads r ls (append p (Wrapped a w b e Empty)) k ∙ joined ls p (Wrapped a w b e Empty) r k))
  reads (IfThen a b e r) ls p k =
      reads b (layer p (InThen a) ∷ ls) Empty (with_control e End ∷ text r k) ∙ (reads r ls (append p (IfThen a b e Empty)) k ∙ joined ls p (IfThen a b e Empty) r k)
  reads (IfElse a b l c e r) ls p k =
      reads b (layer p (InThen a) ∷ ls) Empty (with_control l Else ∷ text c (with_control e End ∷ text r k))
      ∙ (reads c (layer p (InElse a b l) ∷ ls) Empty (with_control e End ∷ text r k) ∙ (reads r ls (append p (IfElse a b l c e Empty)) k ∙ joined ls p (IfElse a b l c e Empty) r k))
  reads (TryCatch a b cs r) ls p k =
      reads b (layer p (InTry a) ∷ ls) Empty (clauses_text cs (text r k))
      ∙ (reads_clauses cs ls p a b [] (text r k) ∙ (reads r ls (append p (TryCatch a b cs Empty)) k ∙ joined ls p (TryCatch a b cs Empty) r k))
  reads (TryDelegate a b e n r) ls p k =
      reads b (layer p (InTry a) ∷ ls) Empty (with_control e (Delegate n) ∷ text r k) ∙ (reads r ls (append p (TryDelegate a b e n Empty)) k ∙ joined ls p (TryDelegate a b e n Empty) r k)

  pub reads_clauses : {A : Type 0} → (cs : Clauses A) (ls : List (Layer A)) (d : Sequence A) (a : A) (b : Sequence A) (gs : List (ClosedClause A)) (k : List (Marked A)) → progress_after (trying ls d a b gs) (clauses_text cs k) ≡ progress_after (Within ls (append d (TryCatch a b (after_closed gs cs) Empty))) k
  reads_clauses (Ended e) ls d a b gs k = ap (λ st. progress_after st k) (try_ends ls d a e b gs)
  reads_clauses (Catches h t c cs) ls d a b gs k =
      ap (λ st. progress_after st (text c (clauses_text cs k))) (try_catches ls d a h t b gs)
      ∙ (reads c (layer d (InCatch a b gs h t) ∷ ls) Empty (clauses_text cs k) ∙ reads_clauses cs ls d a b (closed_clause h t c ∷ gs) k)
  reads_clauses (CatchesAll h c e) ls d a b gs k =
      ap (λ st. progress_after st (text c (with_control e End ∷ k))) (try_catches_all ls d a h b gs) ∙ reads c (layer d (InCatchAll a b gs h) ∷ ls) Empty (with_control e End ∷ k)

pub body_read : {A : Type 0} → (b : Body A) → progress_after nothing_read (body_text b) ≡ Whole b
body_read b = reads b.sequence [] Empty (with_control b.close End ∷ [])

-- a text is that of one body
pub one_body : {A : Type 0} → OneBody A
one_body b b' e = let d : Whole b ≡ Whole b' = sym (body_read b) ∙ (ap (progress_after nothing_read) e ∙ body_read b') in cc
