-- The operators that were read are the text of the source tree so far.
use Rattle.std.proofs.Common.{◌≡◌, ℕ, List, [], ◌∷◌, ◌++◌, refl, ap, subst, ◌∙◌}
use Rattle.wasm_body.specs.Control.{Construct, Block, Loop, TryTable, If, Try, Control, Does, Opens, Else, Catch, CatchAll, End, Delegate, Marked, with_control}
use Rattle.wasm_body.specs.SourceTree.{construct_of, Sequence, Empty, Single, Wrapped, IfThen, IfElse, TryCatch, TryDelegate, Clauses, Ended, Catches, CatchesAll, text, clauses_text}
use Rattle.wasm_body.specs.Parsing.Progress.{append, ClosedClause, after_closed, OpenConstruct, InWrapper, InThen, InElse, InTry, InCatch, InCatchAll, Layer, Progress, Within, Whole, NoBody, opened, closed, with_else_open, with_catch_open, with_catch_all_open, delegated, continue_in, continue_after, further_within, further, progress_after}

-- ---- the source tree so far, as a text

abbrev pub handled_text : {A : Type 0} → List (ClosedClause A) → List (Marked A) → List (Marked A)
handled_text [] k = k
handled_text (g ∷ gs) k = handled_text gs (with_control g.mark (Catch g.tag) ∷ text g.body k)

abbrev pub construct_text : {A : Type 0} → OpenConstruct A → List (Marked A) → List (Marked A)
construct_text (InWrapper a w) k = with_control a (Opens (construct_of w)) ∷ k
construct_text (InThen a) k = with_control a (Opens If) ∷ k
construct_text (InElse a b l) k = with_control a (Opens If) ∷ text b (with_control l Else ∷ k)
construct_text (InTry a) k = with_control a (Opens Try) ∷ k
construct_text (InCatch a b gs h t) k = with_control a (Opens Try) ∷ text b (handled_text gs (with_control h (Catch t) ∷ k))
construct_text (InCatchAll a b gs h) k = with_control a (Opens Try) ∷ text b (handled_text gs (with_control h CatchAll ∷ k))

abbrev pub layers_text : {A : Type 0} → List (Layer A) → List (Marked A) → List (Marked A)
layers_text [] k = k
layers_text (l ∷ ls) k = layers_text ls (text l.before (construct_text l.construct k))

abbrev pub read_text : {A : Type 0} → Progress A → List (Marked A) → List (Marked A)
read_text (Within ls s) k = layers_text ls (text s k)
read_text (Whole b) k = text b.sequence (with_control b.close End ∷ k)
read_text NoBody k = k

pub text_after : {A : Type 0} → (s t : Sequence A) (k : List (Marked A)) → text (append s t) k ≡ text s (text t k)
text_after Empty t k = refl
text_after (Single a action r) t k = ap (λ l. with_control a (Does action) ∷ l) (text_after r t k)
text_after (Wrapped a w b e r) t k = ap (λ l. with_control a (Opens (construct_of w)) ∷ text b (with_control e End ∷ l)) (text_after r t k)
text_after (IfThen a b e r) t k = ap (λ l. with_control a (Opens If) ∷ text b (with_control e End ∷ l)) (text_after r t k)
text_after (IfElse a b m c e r) t k = ap (λ l. with_control a (Opens If) ∷ text b (with_control m Else ∷ text c (with_control e End ∷ l))) (text_after r t k)
text_after (TryCatch a b cs r) t k = ap (λ l. with_control a (Opens Try) ∷ text b (clauses_text cs l)) (text_after r t k)
text_after (TryDelegate a b e n r) t k = ap (λ l. with_control a (Opens Try) ∷ text b (with_control e (Delegate n) ∷ l)) (text_after r t k)

after_closed_text : {A : Type 0} → (gs : List (ClosedClause A)) (cs : Clauses A) (k : List (Marked A)) → clauses_text (after_closed gs cs) k ≡ handled_text gs (clauses_text cs k)
after_closed_text [] cs k = refl
after_closed_text (g ∷ gs) cs k = after_closed_text gs (Catches g.mark g.tag g.body cs) k

opened_text : {A : Type 0} → (a : A) (x : Construct) (k : List (Marked A)) → construct_text (opened a x) k ≡ with_control a (Opens x) ∷ k
opened_text a Block k = refl
opened_text a Loop k = refl
opened_text a (TryTable cs) k = refl
opened_text a If k = refl
opened_text a Try k = refl

closed_text : {A : Type 0} → (p : OpenConstruct A) (s : Sequence A) (e : A) (k : List (Marked A)) → text (closed p s e) k ≡ construct_text p (text s (with_control e End ∷ k))
closed_text (InWrapper a w) s e k = refl
closed_text (InThen a) s e k = refl
closed_text (InElse a b l) s e k = refl
closed_text (InTry a) s e k = refl
closed_text (InCatch a b gs h t) s e k = ap (λ l. with_control a (Opens Try) ∷ text b l) (after_closed_text gs (Catches h t s (Ended e)) k)
closed_text (InCatchAll a b gs h) s e k = ap (λ l. with_control a (Opens Try) ∷ text b l) (after_closed_text gs (CatchesAll h s e) k)

-- it is the front of a body
abbrev pub IsRead : {A : Type 0} → Progress A → Type 0
IsRead (Within ls s) = Unit {0}
IsRead (Whole b) = Unit {0}
IsRead NoBody = ⊥

else_text : {A : Type 0} → (p : OpenConstruct A) (ls : List (Layer A)) (d s : Sequence A) (l : A) (k : List (Marked A)) → IsRead (continue_in ls d (with_else_open p s l)) → read_text (continue_in ls d (with_else_open p s l)) k ≡ layers_text ls (text d (construct_text p (text s (with_control l Else ∷ k))))
else_text (InThen a) ls d s l k h = refl
else_text _ ls d s l k h = absurd h

catch_text : {A : Type 0} → (p : OpenConstruct A) (ls : List (Layer A)) (d s : Sequence A) (l : A) (t : ℕ) (k : List (Marked A)) → IsRead (continue_in ls d (with_catch_open p s l t)) → read_text (continue_in ls d (with_catch_open p s l t)) k ≡ layers_text ls (text d (construct_text p (text s (with_control l (Catch t) ∷ k))))
catch_text (InTry a) ls d s l t k h = refl
catch_text (InCatch a b gs i u) ls d s l t k h = refl
catch_text _ ls d s l t k h = absurd h

catch_all_text : {A : Type 0} → (p : OpenConstruct A) (ls : List (Layer A)) (d s : Sequence A) (l : A) (k : List (Marked A)) → IsRead (continue_in ls d (with_catch_all_open p s l)) → read_text (continue_in ls d (with_catch_all_open p s l)) k ≡ layers_text ls (text d (construct_text p (text s (with_control l CatchAll ∷ k))))
catch_all_text (InTry a) ls d s l k h = refl
catch_all_text (InCatch a b gs i u) ls d s l k h = refl
catch_all_text _ ls d s l k h = absurd h

delegate_text : {A : Type 0} → (p : OpenConstruct A) (ls : List (Layer A)) (d s : Sequence A) (l : A) (n : ℕ) (k : List (Marked A)) → IsRead (continue_after ls d (delegated p s l n)) → read_text (continue_after ls d (delegated p s l n)) k ≡ layers_text ls (text d (construct_text p (text s (with_control l (Delegate n) ∷ k))))
delegate_text (InTry a) ls d s l n k h = ap (layers_text ls) (text_after d (TryDelegate a s l n Empty) k)
delegate_text _ ls d s l n k h = absurd h

further_within_text : {A : Type 0} → (c : Control) (a : A) (ls : List (Layer A)) (s : Sequence A) (k : List (Marked A)) → IsRead (further_within c a ls s) → read_text (further_within c a ls s) k ≡ layers_text ls (text s (with_control a c ∷ k))
further_within_text (Does action) a ls s k h = ap (layers_text ls) (text_after s (Single a action Empty) k)
further_within_text (Opens x) a ls s k h = ap (λ l. layers_text ls (text s l)) (opened_text a x k)
further_within_text Else a [] s k h = absurd h
further_within_text Else a (l ∷ ls) s k h = else_text l.construct ls l.before s a k h
further_within_text (Catch t) a [] s k h = absurd h
further_within_text (Catch t) a (l ∷ ls) s k h = catch_text l.construct ls l.before s a t k h
further_within_text CatchAll a [] s k h = absurd h
further_within_text CatchAll a (l ∷ ls) s k h = catch_all_text l.construct ls l.before s a k h
further_within_text End a [] s k h = refl
further_within_text End a (l ∷ ls) s k h = ap (layers_text ls) (text_after l.before (closed l.construct s a) k ∙ ap (text l.before) (closed_text l.construct s a k))
further_within_text (Delegate n) a [] s k h = absurd h
further_within_text (Delegate n) a (l ∷ ls) s k h = delegate_text l.construct ls l.before s a n k h

further_text : {A : Type 0} → (st : Progress A) (x : Marked A) (k : List (Marked A)) → IsRead (further st x) → read_text (further st x) k ≡ read_text st (x ∷ k)
further_text (Within ls s) x k h = further_within_text x.control x.shown ls s k h
further_text (Whole b) x k h = absurd h
further_text NoBody x k h = absurd h

pub no_body_stays : {A : Type 0} → (xs : List (Marked A)) → progress_after NoBody xs ≡ NoBody
no_body_stays [] = refl
no_body_stays (x ∷ xs) = no_body_stays xs

-- if operators more give a front, there was a front before them
pub was_front : {A : Type 0} → (xs : List (Marked A)) (st : Progress A) → IsRead (progress_after st xs) → IsRead st
was_front xs (Within ls s) h = tt
was_front xs (Whole b) h = tt
was_front xs NoBody h = subst IsRead (no_body_stays xs) h

-- the operators that were read are the text of the constructs that are open after them
pub text_read : {A : Type 0} → (xs : List (Marked A)) (st : Progress A) (k : List (Marked A)) → IsRead (progress_after st xs) → read_text (progress_after st xs) k ≡ read_text st (xs ++ k)
text_read [] st k h = refl
text_read (x ∷ xs) st k h = text_read xs (further st x) k h ∙ further_text st x (xs ++ k) (was_front xs (further st x) h)
