-- How far a body has been read: the constructs that are open after a front of its operators, and the innermost sequence so far.
-- This is the state of a parse; only the source tree defines what a body is.
use Rattle.std.specs.Prelude.{ℕ, List, [], ◌∷◌, Option, Some, None}
use Rattle.wasm_body.specs.Control.{Construct, Block, Loop, TryTable, If, Try, Control, Does, Opens, Else, Catch, CatchAll, End, Delegate, Marked}
use Rattle.wasm_body.specs.SourceTree.{Wrapper, OfBlock, OfLoop, OfTryTable, Sequence, Empty, Single, Wrapped, IfThen, IfElse, TryCatch, TryDelegate, Clauses, Ended, Catches, CatchesAll, Body}
use Rattle.wasm_body.specs.Frames.{SequenceFrame, OfFunction, OfWrapper, Consequent, Alternative, TryBody, Handler, HandlerOfAll}

-- a sequence after another
abbrev pub append : {A : Type 0} → Sequence A → Sequence A → Sequence A
append Empty t = t
append (Single a action r) t = Single a action (append r t)
append (Wrapped a w b e r) t = Wrapped a w b e (append r t)
append (IfThen a b e r) t = IfThen a b e (append r t)
append (IfElse a b l c e r) t = IfElse a b l c e (append r t)
append (TryCatch a b cs r) t = TryCatch a b cs (append r t)
append (TryDelegate a b e n r) t = TryDelegate a b e n (append r t)

-- a `catch` clause whose handler is closed
pub record ClosedClause (A : Type 0) : Type 0 where
  pub mark : A
  pub tag : ℕ
  pub body : Sequence A

abbrev pub closed_clause : {A : Type 0} → A → ℕ → Sequence A → ClosedClause A
closed_clause h t b = record { mark = h; tag = t; body = b }

-- clauses after closed ones, of which the last comes first
abbrev pub after_closed : {A : Type 0} → List (ClosedClause A) → Clauses A → Clauses A
after_closed [] cs = cs
after_closed (g ∷ gs) cs = after_closed gs (Catches g.mark g.tag g.body cs)

-- an open construct up to its open sequence
pub data OpenConstruct (A : Type 0) : Type 0 where
  InWrapper : (a : A) (w : Wrapper) → OpenConstruct A
  InThen : (a : A) → OpenConstruct A
  InElse : (a : A) (b : Sequence A) (l : A) → OpenConstruct A
  InTry : (a : A) → OpenConstruct A
  InCatch : (a : A) (b : Sequence A) (gs : List (ClosedClause A)) (h : A) (t : ℕ) → OpenConstruct A
  InCatchAll : (a : A) (b : Sequence A) (gs : List (ClosedClause A)) (h : A) → OpenConstruct A

-- an open construct, and the items before it in its sequence
pub record Layer (A : Type 0) : Type 0 where
  pub before : Sequence A
  pub construct : OpenConstruct A

abbrev pub layer : {A : Type 0} → Sequence A → OpenConstruct A → Layer A
layer s p = record { before = s; construct = p }

-- After a front: within open constructs, innermost first, with the innermost sequence so far; or a whole body was read; or the
-- operators that were read are not the front of a body.
pub data Progress (A : Type 0) : Type 0 where
  Within : (ls : List (Layer A)) (s : Sequence A) → Progress A
  Whole : (b : Body A) → Progress A
  NoBody : Progress A

abbrev pub nothing_read : {A : Type 0} → Progress A
nothing_read = Within [] Empty

-- the frames of the open sequences
abbrev pub frame_of : {A : Type 0} → OpenConstruct A → SequenceFrame A
frame_of (InWrapper a w) = OfWrapper a
frame_of (InThen a) = Consequent a
frame_of (InElse a b l) = Alternative a
frame_of (InTry a) = TryBody a
frame_of (InCatch a b gs h t) = Handler a
frame_of (InCatchAll a b gs h) = HandlerOfAll a

abbrev pub frames_of : {A : Type 0} → List (Layer A) → List (SequenceFrame A)
frames_of [] = OfFunction ∷ []
frames_of (l ∷ ls) = frame_of l.construct ∷ frames_of ls

-- ---- one operator further

abbrev pub opened : {A : Type 0} → A → Construct → OpenConstruct A
opened a Block = InWrapper a OfBlock
opened a Loop = InWrapper a OfLoop
opened a (TryTable cs) = InWrapper a (OfTryTable cs)
opened a If = InThen a
opened a Try = InTry a

-- the construct as an item, with its open sequence closed by `end`
abbrev pub closed : {A : Type 0} → OpenConstruct A → Sequence A → A → Sequence A
closed (InWrapper a w) s e = Wrapped a w s e Empty
closed (InThen a) s e = IfThen a s e Empty
closed (InElse a b l) s e = IfElse a b l s e Empty
closed (InTry a) s e = TryCatch a s (Ended e) Empty
closed (InCatch a b gs h t) s e = TryCatch a b (after_closed gs (Catches h t s (Ended e))) Empty
closed (InCatchAll a b gs h) s e = TryCatch a b (after_closed gs (CatchesAll h s e)) Empty

-- the same construct with its next sequence open, after `else`, `catch` or `catch_all`
abbrev pub with_else_open : {A : Type 0} → OpenConstruct A → Sequence A → A → Option (OpenConstruct A)
with_else_open (InThen a) s l = Some (InElse a s l)
with_else_open _ s l = None

abbrev pub with_catch_open : {A : Type 0} → OpenConstruct A → Sequence A → A → ℕ → Option (OpenConstruct A)
with_catch_open (InTry a) s h t = Some (InCatch a s [] h t)
with_catch_open (InCatch a b gs i u) s h t = Some (InCatch a b (closed_clause i u s ∷ gs) h t)
with_catch_open _ s h t = None

abbrev pub with_catch_all_open : {A : Type 0} → OpenConstruct A → Sequence A → A → Option (OpenConstruct A)
with_catch_all_open (InTry a) s h = Some (InCatchAll a s [] h)
with_catch_all_open (InCatch a b gs i u) s h = Some (InCatchAll a b (closed_clause i u s ∷ gs) h)
with_catch_all_open _ s h = None

abbrev pub delegated : {A : Type 0} → OpenConstruct A → Sequence A → A → ℕ → Option (Sequence A)
delegated (InTry a) s e n = Some (TryDelegate a s e n Empty)
delegated _ s e n = None

abbrev pub continue_in : {A : Type 0} → List (Layer A) → Sequence A → Option (OpenConstruct A) → Progress A
continue_in ls before (Some p) = Within (layer before p ∷ ls) Empty
continue_in ls before None = NoBody

abbrev pub continue_after : {A : Type 0} → List (Layer A) → Sequence A → Option (Sequence A) → Progress A
continue_after ls before (Some item) = Within ls (append before item)
continue_after ls before None = NoBody

abbrev pub further_within : {A : Type 0} → Control → A → List (Layer A) → Sequence A → Progress A
further_within (Does action) a ls s = Within ls (append s (Single a action Empty))
further_within (Opens construct) a ls s = Within (layer s (opened a construct) ∷ ls) Empty
further_within Else a [] s = NoBody
further_within Else a (l ∷ ls) s = continue_in ls l.before (with_else_open l.construct s a)
further_within (Catch t) a [] s = NoBody
further_within (Catch t) a (l ∷ ls) s = continue_in ls l.before (with_catch_open l.construct s a t)
further_within CatchAll a [] s = NoBody
further_within CatchAll a (l ∷ ls) s = continue_in ls l.before (with_catch_all_open l.construct s a)
further_within End a [] s = Whole (record { sequence = s; close = a })
further_within End a (l ∷ ls) s = Within ls (append l.before (closed l.construct s a))
further_within (Delegate n) a [] s = NoBody
further_within (Delegate n) a (l ∷ ls) s = continue_after ls l.before (delegated l.construct s a n)

abbrev pub further : {A : Type 0} → Progress A → Marked A → Progress A
further (Within ls s) x = further_within x.control x.shown ls s
further (Whole b) x = NoBody
further NoBody x = NoBody

-- after these operators more
abbrev pub progress_after : {A : Type 0} → Progress A → List (Marked A) → Progress A
progress_after p [] = p
progress_after p (x ∷ xs) = progress_after (further p x) xs
