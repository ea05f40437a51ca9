-- The frames after a front are those of the operators that were read; a rule along a tree is the same rule at each operator of
-- its text.
use Rattle.std.proofs.Common.{◌≡◌, ℕ, suc, List, [], ◌∷◌, ◌++◌, length, Option, Some, None, true, refl, sym, ap, subst, ◌∙◌}
use Rattle.wasm_body.specs.Control.{Construct, Block, Loop, TryTable, If, Try, Control, Does, Opens, Else, Catch, CatchAll, End, Delegate, Marked, with_control}
use Rattle.wasm_body.specs.SourceTree.{Wrapper, OfBlock, OfLoop, OfTryTable, construct_of, Sequence, Empty, Single, Wrapped, IfThen, IfElse, TryCatch, TryDelegate, Clauses, Ended, Catches, CatchesAll, text, clauses_text, Body, body_text}
use Rattle.wasm_body.specs.Frames.{SequenceFrame, OfFunction, OfWrapper, Consequent, Alternative, TryBody, Handler, HandlerOfAll, FrameRule, Follows, FollowsIn, function_frames, BodyFollows, frame_opened, else_moves, catch_moves, catch_all_moves, onto, delegate_moves, moves, moved, frames_after, is_allowed}
use Rattle.wasm_body.specs.Parsing.Progress.{OpenConstruct, InThen, InTry, Layer, Progress, Within, Whole, NoBody, frame_of, frames_of, opened, with_else_open, with_catch_open, with_catch_all_open, delegated, continue_in, continue_after, further_within, further, progress_after}

-- ---- frames of the operators that were read

abbrev pub progress_frames : {A : Type 0} → Progress A → Option (List (SequenceFrame A))
progress_frames (Within ls s) = Some (frames_of ls)
progress_frames (Whole b) = Some []
progress_frames NoBody = None

opened_frame : {A : Type 0} → (a : A) (k : Construct) → frame_of (opened a k) ≡ frame_opened a k
opened_frame a Block = refl
opened_frame a Loop = refl
opened_frame a (TryTable cs) = refl
opened_frame a If = refl
opened_frame a Try = refl

else_frames : {A : Type 0} → (p : OpenConstruct A) (ls : List (Layer A)) (d s : Sequence A) (l : A) → progress_frames (continue_in ls d (with_else_open p s l)) ≡ onto (frames_of ls) (else_moves (frame_of p))
else_frames (InThen a) ls d s l = refl
else_frames _ ls d s l = refl

catch_frames : {A : Type 0} → (p : OpenConstruct A) (ls : List (Layer A)) (d s : Sequence A) (l : A) (t : ℕ) → progress_frames (continue_in ls d (with_catch_open p s l t)) ≡ onto (frames_of ls) (catch_moves (frame_of p))
catch_frames (InTry a) ls d s l t = refl
catch_frames _ ls d s l t = refl

catch_all_frames : {A : Type 0} → (p : OpenConstruct A) (ls : List (Layer A)) (d s : Sequence A) (l : A) → progress_frames (continue_in ls d (with_catch_all_open p s l)) ≡ onto (frames_of ls) (catch_all_moves (frame_of p))
catch_all_frames (InTry a) ls d s l = refl
catch_all_frames _ ls d s l = refl

delegate_frames : {A : Type 0} → (p : OpenConstruct A) (ls : List (Layer A)) (d s : Sequence A) (l : A) (n : ℕ) → progress_frames (continue_after ls d (delegated p s l n)) ≡ delegate_moves (frames_of ls) (frame_of p)
delegate_frames (InTry a) ls d s l n = refl
delegate_frames _ ls d s l n = refl

within_frames : {A : Type 0} → (c : Control) (a : A) (ls : List (Layer A)) (s : Sequence A) → progress_frames (further_within c a ls s) ≡ moves c a (frames_of ls)
within_frames (Does action) a [] s = refl
within_frames (Does action) a (l ∷ ls) s = refl
within_frames (Opens k) a [] s = ap (λ f. Some (f ∷ function_frames)) (opened_frame a k)
within_frames (Opens k) a (l ∷ ls) s = ap (λ f. Some (f ∷ frames_of (l ∷ ls))) (opened_frame a k)
within_frames Else a [] s = refl
within_frames Else a (l ∷ ls) s = else_frames l.construct ls l.before s a
within_frames (Catch t) a [] s = refl
within_frames (Catch t) a (l ∷ ls) s = catch_frames l.construct ls l.before s a t
within_frames CatchAll a [] s = refl
within_frames CatchAll a (l ∷ ls) s = catch_all_frames l.construct ls l.before s a
within_frames End a [] s = refl
within_frames End a (l ∷ ls) s = refl
within_frames (Delegate n) a [] s = refl
within_frames (Delegate n) a (l ∷ ls) s = delegate_frames l.construct ls l.before s a n

pub further_frames : {A : Type 0} → (p : Progress A) (x : Marked A) → progress_frames (further p x) ≡ moved (progress_frames p) x
further_frames (Within ls s) x = within_frames x.control x.shown ls s
further_frames (Whole b) x = refl
further_frames NoBody x = refl

pub after_frames : {A : Type 0} → (xs : List (Marked A)) (p : Progress A) → progress_frames (progress_after p xs) ≡ frames_after (progress_frames p) xs
after_frames [] p = refl
after_frames (x ∷ xs) p = after_frames xs (further p x) ∙ ap (λ o. frames_after o xs) (further_frames p x)

pub frames_length : {A : Type 0} → (ls : List (Layer A)) → length (frames_of ls) ≡ suc (length ls)
frames_length [] = refl
frames_length (l ∷ ls) = ap suc (frames_length ls)

-- an operator that is allowed somewhere has frames after it
pub may_move : {A : Type 0} → (c : Control) (a : A) (fs : List (SequenceFrame A)) → is_allowed fs c ≡ true → (gs : List (SequenceFrame A)) × (moves c a fs ≡ Some gs)
may_move c a [] h = absurd (cc)
may_move (Does action) a (f ∷ fs) h = (f ∷ fs, refl)
may_move (Opens k) a (f ∷ fs) h = (frame_opened a k ∷ f ∷ fs, refl)
may_move Else a (Consequent b ∷ fs) h = (Alternative b ∷ fs, refl)
may_move Else a (_ ∷ fs) h = absurd (cc)
may_move (Catch t) a (TryBody b ∷ fs) h = (Handler b ∷ fs, refl)
may_move (Catch t) a (Handler b ∷ fs) h = (Handler b ∷ fs, refl)
may_move (Catch t) a (_ ∷ fs) h = absurd (cc)
may_move CatchAll a (TryBody b ∷ fs) h = (HandlerOfAll b ∷ fs, refl)
may_move CatchAll a (Handler b ∷ fs) h = (HandlerOfAll b ∷ fs, refl)
may_move CatchAll a (_ ∷ fs) h = absurd (cc)
may_move End a (f ∷ fs) h = (fs, refl)
may_move (Delegate n) a (TryBody b ∷ fs) h = (fs, refl)
may_move (Delegate n) a (_ ∷ fs) h = absurd (cc)

-- ---- the rule at each operator, by the frames before it

abbrev pub Goes : {A : Type 0} → FrameRule A → Option (List (SequenceFrame A)) → List (Marked A) → Type 0
Goes R None xs = ⊥
Goes R (Some fs) [] = Unit {0}
Goes R (Some fs) (x ∷ xs) = R fs x × Goes R (moves x.control x.shown fs) xs

-- ---- rules on the tree and on the list

wrap_frame : {A : Type 0} → (a : A) (w : Wrapper) → frame_opened a (construct_of w) ≡ OfWrapper a
wrap_frame a OfBlock = refl
wrap_frame a OfLoop = refl
wrap_frame a (OfTryTable cs) = refl

mutual
  pub goes_in : {A : Type 0} → (R : FrameRule A) (s : Sequence A) (f : SequenceFrame A) (fs : List (SequenceFrame A)) (k : List (Marked A)) → Goes R (Some (f ∷ fs)) (text s k) → Follows R (f ∷ fs) s × Goes R (Some (f ∷ fs)) k
  goes_in R Empty f fs k h = (tt, h)
  goes_in R (Single a action r) f fs k h = let i = goes_in R r f fs k h.1 in ((h.0, i.0), i.1)
  goes_in R (Wrapped a w b e r) f fs k h =
      let h1 = subst (λ g. Goes R (Some (g ∷ f ∷ fs)) (text b (with_control e End ∷ text r k))) (wrap_frame a w) h.1 in
      let i = goes_in R b (OfWrapper a) (f ∷ fs) (with_control e End ∷ text r k) h1 in
      let j = goes_in R r f fs k i.1.1 in ((h.0, i.0, i.1.0, j.0), j.1)
  goes_in R (IfThen a b e r) f fs k h =
      let i = goes_in R b (Consequent a) (f ∷ fs) (with_control e End ∷ text r k) h.1 in
      let j = goes_in R r f fs k i.1.1 in ((h.0, i.0, i.1.0, j.0), j.1)
  goes_in R (IfElse a b l c e r) f fs k h =
      let i = goes_in R b (Consequent a) (f ∷ fs) (with_control l Else ∷ text c (with_control e End ∷ text r k)) h.1 in
      let m = goes_in R c (Alternative a) (f ∷ fs) (with_control e End ∷ text r k) i.1.1 in
      let j = goes_in R r f fs k m.1.1 in ((h.0, i.0, i.1.0, m.0, m.1.0, j.0), j.1)
  goes_in R (TryCatch a b cs r) f fs k h =
      let i = goes_in R b (TryBody a) (f ∷ fs) (clauses_text cs (text r k)) h.1 in
      let m = goes_in_body R cs a (f ∷ fs) (text r k) i.1 in
      let j = goes_in R r f fs k m.1 in ((h.0, i.0, m.0, j.0), j.1)
  goes_in R (TryDelegate a b e n r) f fs k h =
      let i = goes_in R b (TryBody a) (f ∷ fs) (with_control e (Delegate n) ∷ text r k) h.1 in
      let j = goes_in R r f fs k i.1.1 in ((h.0, i.0, i.1.0, j.0), j.1)

  goes_in_body : {A : Type 0} → (R : FrameRule A) (cs : Clauses A) (a : A) (fs : List (SequenceFrame A)) (k : List (Marked A)) → Goes R (Some (TryBody a ∷ fs)) (clauses_text cs k) → FollowsIn R fs a (TryBody a) cs × Goes R (Some fs) k
  goes_in_body R (Ended e) a fs k h = h
  goes_in_body R (Catches i t b cs) a fs k h =
      let m = goes_in R b (Handler a) fs (clauses_text cs k) h.1 in
      let j = goes_in_handler R cs a fs k m.1 in ((h.0, m.0, j.0), j.1)
  goes_in_body R (CatchesAll i b e) a fs k h = let m = goes_in R b (HandlerOfAll a) fs (with_control e End ∷ k) h.1 in ((h.0, m.0, m.1.0), m.1.1)

  goes_in_handler : {A : Type 0} → (R : FrameRule A) (cs : Clauses A) (a : A) (fs : List (SequenceFrame A)) (k : List (Marked A)) → Goes R (Some (Handler a ∷ fs)) (clauses_text cs k) → FollowsIn R fs a (Handler a) cs × Goes R (Some fs) k
  goes_in_handler R (Ended e) a fs k h = h
  goes_in_handler R (Catches i t b cs) a fs k h =
      let m = goes_in R b (Handler a) fs (clauses_text cs k) h.1 in
      let j = goes_in_handler R cs a fs k m.1 in ((h.0, m.0, j.0), j.1)
  goes_in_handler R (CatchesAll i b e) a fs k h = let m = goes_in R b (HandlerOfAll a) fs (with_control e End ∷ k) h.1 in ((h.0, m.0, m.1.0), m.1.1)

mutual
  pub goes_by : {A : Type 0} → (R : FrameRule A) (s : Sequence A) (f : SequenceFrame A) (fs : List (SequenceFrame A)) (k : List (Marked A)) → Follows R (f ∷ fs) s → Goes R (Some (f ∷ fs)) k → Goes R (Some (f ∷ fs)) (text s k)
  goes_by R Empty f fs k h g = g
  goes_by R (Single a action r) f fs k h g = (h.0, goes_by R r f fs k h.1 g)
  goes_by R (Wrapped a w b e r) f fs k h g = (h.0, subst (λ x. Goes R (Some (x ∷ f ∷ fs)) (text b (with_control e End ∷ text r k))) (sym (wrap_frame a w)) (goes_by R b (OfWrapper a) (f ∷ fs) (with_control e End ∷ text r k) h.1 (h.2, goes_by R r f fs k h.3 g)))
  goes_by R (IfThen a b e r) f fs k h g = (h.0, goes_by R b (Consequent a) (f ∷ fs) (with_control e End ∷ text r k) h.1 (h.2, goes_by R r f fs k h.3 g))
  goes_by R (IfElse a b l c e r) f fs k h g = (h.0, goes_by R b (Consequent a) (f ∷ fs) (with_control l Else ∷ text c (with_control e End ∷ text r k)) h.1 (h.2, goes_by R c (Alternative a) (f ∷ fs) (with_control e End ∷ text r k) h.3 (h.4, goes_by R r f fs k h.5 g)))
  goes_by R (TryCatch a b cs r) f fs k h g = (h.0, goes_by R b (TryBody a) (f ∷ fs) (clauses_text cs (text r k)) h.1 (goes_by_body R cs a (f ∷ fs) (text r k) h.2 (goes_by R r f fs k h.3 g)))
  goes_by R (TryDelegate a b e n r) f fs k h g = (h.0, goes_by R b (TryBody a) (f ∷ fs) (with_control e (Delegate n) ∷ text r k) h.1 (h.2, goes_by R r f fs k h.3 g))

  goes_by_body : {A : Type 0} → (R : FrameRule A) (cs : Clauses A) (a : A) (fs : List (SequenceFrame A)) (k : List (Marked A)) → FollowsIn R fs a (TryBody a) cs → Goes R (Some fs) k → Goes R (Some (TryBody a ∷ fs)) (clauses_text cs k)
  goes_by_body R (Ended e) a fs k h g = (h, g)
  goes_by_body R (Catches i t b cs) a fs k h g = (h.0, goes_by R b (Handler a) fs (clauses_text cs k) h.1 (goes_by_handler R cs a fs k h.2 g))
  goes_by_body R (CatchesAll i b e) a fs k h g = (h.0, goes_by R b (HandlerOfAll a) fs (with_control e End ∷ k) h.1 (h.2, g))

  goes_by_handler : {A : Type 0} → (R : FrameRule A) (cs : Clauses A) (a : A) (fs : List (SequenceFrame A)) (k : List (Marked A)) → FollowsIn R fs a (Handler a) cs → Goes R (Some fs) k → Goes R (Some (Handler a ∷ fs)) (clauses_text cs k)
  goes_by_handler R (Ended e) a fs k h g = (h, g)
  goes_by_handler R (Catches i t b cs) a fs k h g = (h.0, goes_by R b (Handler a) fs (clauses_text cs k) h.1 (goes_by_handler R cs a fs k h.2 g))
  goes_by_handler R (CatchesAll i b e) a fs k h g = (h.0, goes_by R b (HandlerOfAll a) fs (with_control e End ∷ k) h.1 (h.2, g))

-- a body follows a rule if each of its operators does, by the frames before it
pub body_goes : {A : Type 0} → (R : FrameRule A) (b : Body A) → BodyFollows R b → Goes R (Some function_frames) (body_text b)
body_goes R b h = goes_by R b.sequence OfFunction [] (with_control b.close End ∷ []) h.0 (h.1, tt)

pub goes_body : {A : Type 0} → (R : FrameRule A) (b : Body A) → Goes R (Some function_frames) (body_text b) → BodyFollows R b
goes_body R b h = let i = goes_in R b.sequence OfFunction [] (with_control b.close End ∷ []) h in (i.0, i.1.0)

-- ---- one list after another

pub frames_append : {A : Type 0} → (xs ys : List (Marked A)) (o : Option (List (SequenceFrame A))) → frames_after o (xs ++ ys) ≡ frames_after (frames_after o xs) ys
frames_append [] ys o = refl
frames_append (x ∷ xs) ys o = frames_append xs ys (moved o x)

pub none_stays : {A : Type 0} → (xs : List (Marked A)) → frames_after {A = A} None xs ≡ None
none_stays [] = refl
none_stays (x ∷ xs) = none_stays xs

pub goes_front : {A : Type 0} → (R : FrameRule A) (xs ys : List (Marked A)) (o : Option (List (SequenceFrame A))) → Goes R o (xs ++ ys) → Goes R o xs × Goes R (frames_after o xs) ys
goes_front R xs ys None h = absurd h
goes_front R [] ys (Some fs) h = (tt, h)
goes_front R (x ∷ xs) ys (Some fs) h = let i = goes_front R xs ys (moves x.control x.shown fs) h.1 in ((h.0, i.0), i.1)

pub continues : {A : Type 0} → (R : FrameRule A) (xs ys : List (Marked A)) (o : Option (List (SequenceFrame A))) → Goes R o xs → Goes R (frames_after o xs) ys → Goes R o (xs ++ ys)
continues R xs ys None h g = absurd h
continues R [] ys (Some fs) h g = g
continues R (x ∷ xs) ys (Some fs) h g = (h.0, continues R xs ys (moves x.control x.shown fs) h.1 g)
