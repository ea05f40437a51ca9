-- The sequences around an operator, innermost first: the control frames of the standard's validation algorithm.
use Rattle.std.specs.Prelude.{ℕ, zero, suc, List, [], ◌∷◌, Bool, true, false, Option, Some, None, is_some}
use Rattle.wasm_body.specs.Control.{Construct, Block, Loop, TryTable, If, Try, Control, Does, Opens, Else, Catch, CatchAll, End, Delegate, Marked, with_control}
use Rattle.wasm_body.specs.SourceTree.{construct_of, Sequence, Empty, Single, Wrapped, IfThen, IfElse, TryCatch, TryDelegate, Clauses, Ended, Catches, CatchesAll, Body}

-- an open sequence, with the value that is shown for the operator that opened its construct
pub data SequenceFrame (A : Type 0) : Type 0 where
  OfFunction : SequenceFrame A
  OfWrapper : (a : A) → SequenceFrame A
  Consequent : (a : A) → SequenceFrame A
  Alternative : (a : A) → SequenceFrame A
  TryBody : (a : A) → SequenceFrame A
  Handler : (a : A) → SequenceFrame A
  HandlerOfAll : (a : A) → SequenceFrame A

-- a condition on an operator and the frames around it
abbrev pub FrameRule : Type 0 → Type 1
FrameRule A = List (SequenceFrame A) → Marked A → Type 0

-- ---- a rule along a tree

-- The rule holds at each operator of a sequence, inside these frames, the sequence's own included.
abbrev mutual
  pub Follows : {A : Type 0} → FrameRule A → List (SequenceFrame A) → Sequence A → Type 0
  Follows R fs Empty = Unit {0}
  Follows R fs (Single a action r) = R fs (with_control a (Does action)) × Follows R fs r
  Follows R fs (Wrapped a w b e r) =
      R fs (with_control a (Opens (construct_of w))) × Follows R (OfWrapper a ∷ fs) b × R (OfWrapper a ∷ fs) (with_control e End) × Follows R fs r
  Follows R fs (IfThen a b e r) =
      R fs (with_control a (Opens If)) × Follows R (Consequent a ∷ fs) b × R (Consequent a ∷ fs) (with_control e End) × Follows R fs r
  Follows R fs (IfElse a b l c e r) =
      R fs (with_control a (Opens If))
      × Follows R (Consequent a ∷ fs) b
      × R (Consequent a ∷ fs) (with_control l Else)
      × Follows R (Alternative a ∷ fs) c
      × R (Alternative a ∷ fs) (with_control e End)
      × Follows R fs r
  Follows R fs (TryCatch a b cs r) =
      R fs (with_control a (Opens Try)) × Follows R (TryBody a ∷ fs) b × FollowsIn R fs a (TryBody a) cs × Follows R fs r
  Follows R fs (TryDelegate a b e n r) =
      R fs (with_control a (Opens Try)) × Follows R (TryBody a ∷ fs) b × R (TryBody a ∷ fs) (with_control e (Delegate n)) × Follows R fs r

  -- the clauses after the sequence f of the `try` that a opens
  pub FollowsIn : {A : Type 0} → FrameRule A → List (SequenceFrame A) → A → SequenceFrame A → Clauses A → Type 0
  FollowsIn R fs a f (Ended e) = R (f ∷ fs) (with_control e End)
  FollowsIn R fs a f (Catches h t b cs) = R (f ∷ fs) (with_control h (Catch t)) × Follows R (Handler a ∷ fs) b × FollowsIn R fs a (Handler a) cs
  FollowsIn R fs a f (CatchesAll h b e) =
      R (f ∷ fs) (with_control h CatchAll) × Follows R (HandlerOfAll a ∷ fs) b × R (HandlerOfAll a ∷ fs) (with_control e End)

abbrev pub function_frames : {A : Type 0} → List (SequenceFrame A)
function_frames = OfFunction ∷ []

-- The rule holds at each operator of the body.
abbrev pub BodyFollows : {A : Type 0} → FrameRule A → Body A → Type 0
BodyFollows R b = Follows R function_frames b.sequence × R function_frames (with_control b.close End)

-- ---- the frames after an operator

abbrev pub frame_opened : {A : Type 0} → A → Construct → SequenceFrame A
frame_opened a Block = OfWrapper a
frame_opened a Loop = OfWrapper a
frame_opened a (TryTable cs) = OfWrapper a
frame_opened a If = Consequent a
frame_opened a Try = TryBody a

abbrev pub else_moves : {A : Type 0} → SequenceFrame A → Option (SequenceFrame A)
else_moves (Consequent a) = Some (Alternative a)
else_moves _ = None

abbrev pub catch_moves : {A : Type 0} → SequenceFrame A → Option (SequenceFrame A)
catch_moves (TryBody a) = Some (Handler a)
catch_moves (Handler a) = Some (Handler a)
catch_moves _ = None

abbrev pub catch_all_moves : {A : Type 0} → SequenceFrame A → Option (SequenceFrame A)
catch_all_moves (TryBody a) = Some (HandlerOfAll a)
catch_all_moves (Handler a) = Some (HandlerOfAll a)
catch_all_moves _ = None

abbrev pub onto : {A : Type 0} → List (SequenceFrame A) → Option (SequenceFrame A) → Option (List (SequenceFrame A))
onto fs (Some f) = Some (f ∷ fs)
onto fs None = None

abbrev pub delegate_moves : {A : Type 0} → List (SequenceFrame A) → SequenceFrame A → Option (List (SequenceFrame A))
delegate_moves fs (TryBody a) = Some fs
delegate_moves fs _ = None

-- The frames after an operator, or none if the operator is not allowed. An operator that opens a construct adds a frame;
-- `else`, `catch` and `catch_all` change the innermost frame; an operator that closes a construct removes it.
abbrev pub moves : {A : Type 0} → Control → A → List (SequenceFrame A) → Option (List (SequenceFrame A))
moves c a [] = None
moves (Does action) a (f ∷ fs) = Some (f ∷ fs)
moves (Opens construct) a (f ∷ fs) = Some (frame_opened a construct ∷ f ∷ fs)
moves Else a (f ∷ fs) = onto fs (else_moves f)
moves (Catch t) a (f ∷ fs) = onto fs (catch_moves f)
moves CatchAll a (f ∷ fs) = onto fs (catch_all_moves f)
moves End a (f ∷ fs) = Some fs
moves (Delegate n) a (f ∷ fs) = delegate_moves fs f

abbrev pub moved : {A : Type 0} → Option (List (SequenceFrame A)) → Marked A → Option (List (SequenceFrame A))
moved None x = None
moved (Some fs) x = moves x.control x.shown fs

-- the frames after these operators
abbrev pub frames_after : {A : Type 0} → Option (List (SequenceFrame A)) → List (Marked A) → Option (List (SequenceFrame A))
frames_after frames [] = frames
frames_after frames (x ∷ xs) = frames_after (moved frames x) xs

-- ---- conditions of the rules on frames

-- whether an operator is allowed in the innermost sequence
abbrev pub is_allowed : {A : Type 0} → List (SequenceFrame A) → Control → Bool
is_allowed [] c = false
is_allowed (f ∷ fs) (Does action) = true
is_allowed (f ∷ fs) (Opens construct) = true
is_allowed (f ∷ fs) Else = is_some (else_moves f)
is_allowed (f ∷ fs) (Catch t) = is_some (catch_moves f)
is_allowed (f ∷ fs) CatchAll = is_some (catch_all_moves f)
is_allowed (f ∷ fs) End = true
is_allowed (f ∷ fs) (Delegate n) = is_some (delegate_moves fs f)

-- whether the sequence is a handler, which `rethrow` may name
abbrev pub is_handler : {A : Type 0} → SequenceFrame A → Bool
is_handler (Handler a) = true
is_handler (HandlerOfAll a) = true
is_handler _ = false

abbrev pub handler_at : {A : Type 0} → List (SequenceFrame A) → ℕ → Bool
handler_at [] n = false
handler_at (f ∷ fs) zero = is_handler f
handler_at (f ∷ fs) (suc n) = handler_at fs n

-- the frames outside the innermost sequence's construct
abbrev pub outside : {A : Type 0} → List (SequenceFrame A) → List (SequenceFrame A)
outside [] = []
outside (f ∷ fs) = fs

-- the value that is shown for the operator that opened the construct of the innermost sequence
abbrev pub opener_of : {A : Type 0} → SequenceFrame A → Option A
opener_of OfFunction = None
opener_of (OfWrapper a) = Some a
opener_of (Consequent a) = Some a
opener_of (Alternative a) = Some a
opener_of (TryBody a) = Some a
opener_of (Handler a) = Some a
opener_of (HandlerOfAll a) = Some a
