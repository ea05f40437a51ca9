-- What the validation algorithm takes of a sequence, it takes of a right rewriting of it.
use Rattle.std.proofs.Common.{◌≡◌, ℕ, List, [], ◌∷◌, map, reverse, true, Ok, Err, refl, sym, ap, ◌∙◌, subst}
use Rattle.std.specs.Prelude.{if◌then◌else◌}
use Rattle.wasm_types.specs.declared.val_type.ValType.{ValType}
use Rattle.wasm_numbers.specs.Results.{◌>>=◌}
use Rattle.wasm_body.specs.Control.{Action, Nop, Plain, Branch, ConditionalBranch, TableBranch, Return, Unreachable, Throw, ThrowRef, Rethrow, TailCall, Construct, If, Try, Control, Does, Opens, Else, Catch, CatchAll, End, Delegate, control_of, Marked, with_control}
use Rattle.wasm_body.specs.SourceTree.{Sequence, Empty, Single, Wrapped, IfThen, IfElse, TryCatch, TryDelegate, Clauses, Ended, Catches, CatchesAll, construct_of, text, clauses_text, Body, body_text}
use Rattle.wasm_body.specs.Translation.{Located}
use Rattle.wasm_body.specs.Naming.{NamedOperation}
use Rattle.wasm_body.specs.NormalForm.{Typing, fate, MakesUnreachable}
use Rattle.wasm_body.specs.TextLaws.{mark_named, IsNamedBody}
use Rattle.wasm_body.specs.Validity.{Point, Opened, OfIf, OperandRules, Checked, demand, opened_by, transfers, push_each, is_if, is_try, may_catch}
use Rattle.wasm_body.proofs.Validity.NestedFrames.{NestedFrame, NestedFrames, none, at, unreachable, after_action, pop_each, pop_all, label, opened_in, frame_by, handler, handler_of_all, closes, given, taken, taken_by, catching, opens, alternative, ends, next_sequence, step, validate, function_frame, IsValid}
use Rattle.wasm_body.proofs.Executions.RewritesTo.{RewritesTo, empty, drop_nop, keep, unreachable_after, wrapped, if_then, if_else, add_else, drop_else, try_catch, try_delegate, ClausesRewriteTo, ended, catches_one, catches_all}

-- ---- what is checked in turn

-- a success comes from one before it
from : {X Z : Type 0} → (a : Checked X) (k : X → Checked Z) (z : Z) → (a >>= k) ≡ Ok z → (x : X) × (k x ≡ Ok z)
from (Ok x) k z h = (x, h)
from (Err e) k z h = absurd (cc)

-- and from two
from_two : {X Y Z : Type 0} → (a : Checked X) (g : X → Checked Y) (k : Y → Checked Z) (z : Z) → ((a >>= g) >>= k) ≡ Ok z → (x : X) × ((g x >>= k) ≡ Ok z)
from_two (Ok x) g k z h = (x, h)
from_two (Err e) g k z h = absurd (cc)

-- another that goes on from the same
onwards : {X Y Z : Type 0} → (a : Checked X) (g g' : X → Checked Y) (k k' : Y → Checked Z) (z : Z) → ((x : X) → (g x >>= k) ≡ Ok z → (g' x >>= k') ≡ Ok z) → ((a >>= g) >>= k) ≡ Ok z
    → ((a >>= g') >>= k') ≡ Ok z
onwards (Ok x) g g' k k' z f h = f x h
onwards (Err e) g g' k k' z f h = h

-- where the first is known to succeed
after : {Y Z : Type 0} → (a : Checked (Unit {0})) (g : Unit {0} → Checked Y) (k : Y → Checked Z) (z : Z) → a ≡ Ok tt → (g tt >>= k) ≡ Ok z → ((a >>= g) >>= k) ≡ Ok z
after (Ok u) g k z e h = h
after (Err e) g k z d h = absurd (cc)

same_bind : {X Z : Type 0} → (a : Checked X) (k k' : X → Checked Z) → ((x : X) → k x ≡ k' x) → (a >>= k) ≡ (a >>= k')
same_bind (Ok x) k k' f = f x
same_bind (Err e) k k' f = refl

-- ---- what can't be reached

unreachable_after_transfers : (action : Action) → fate action ≡ MakesUnreachable → transfers action ≡ true
unreachable_after_transfers Nop h = absurd (cc)
unreachable_after_transfers Plain h = absurd (cc)
unreachable_after_transfers (Branch n) h = refl
unreachable_after_transfers (ConditionalBranch n) h = absurd (cc)
unreachable_after_transfers (TableBranch ts d) h = refl
unreachable_after_transfers Return h = refl
unreachable_after_transfers Unreachable h = refl
unreachable_after_transfers (Throw t) h = refl
unreachable_after_transfers ThrowRef h = refl
unreachable_after_transfers (Rethrow n) h = refl
unreachable_after_transfers TailCall h = refl

after_unreachable_after : {T : Type 0} → (action : Action) (p : Point T) → fate action ≡ MakesUnreachable → after_action action p ≡ unreachable p
after_unreachable_after action p h = ap (λ b. if b then unreachable p else p) (unreachable_after_transfers action h)

-- an operator that parts or closes a construct
abbrev Parts : Control → Type 0
Parts (Does action) = ⊥
Parts (Opens construct) = ⊥
Parts _ = Unit {0}

module _ {T : Type 0} (m : Typing) (r : OperandRules T) where
  -- what a frame is to give can be popped where code can't be reached
  unreachable_pops : (ts : List (ValType ℕ)) (p : Point T) → pop_each m r ts (unreachable p) ≡ Ok (unreachable p)
  unreachable_pops [] p = refl
  unreachable_pops (t ∷ ts) p = unreachable_pops ts p

  unreachable_closes : (f : NestedFrame T) (p : Point T) → closes m r (at f (unreachable p)) ≡ Ok tt
  unreachable_closes f p = ap (λ a. a >>= λ q. demand (none q.operands)) (unreachable_pops (reverse f.end_types) p)

  -- ---- validity of marked operators

  abbrev over : List (Marked (Located NamedOperation)) → NestedFrames T → Checked (NestedFrames T)
  over [] fs = Ok fs
  over (x ∷ xs) fs = step m r x.control x.shown.op fs >>= λ gs. over xs gs

  -- the operators close these frames
  abbrev Valid : List (Marked (Located NamedOperation)) → NestedFrames T → Type 0
  Valid xs fs = over xs fs ≡ Ok []

  validate_over : (xs : List (Located NamedOperation)) (fs : NestedFrames T) → validate m r xs fs ≡ over (map mark_named xs) fs
  validate_over [] fs = refl
  validate_over (x ∷ xs) fs = same_bind (step m r (control_of x.op) x.op fs) (validate m r xs) (over (map mark_named xs)) (validate_over xs)

  -- ---- operators that part and close

  step_parts : (c : Control) → Parts c → (o : NamedOperation) (f : NestedFrame T) (fs : NestedFrames T) → step m r c o (f ∷ fs) ≡ (closes m r f >>= λ u. next_sequence m r c f fs)
  step_parts Else h o f fs = refl
  step_parts (Catch t) h o f fs = refl
  step_parts CatchAll h o f fs = refl
  step_parts End h o f fs = refl
  step_parts (Delegate n) h o f fs = refl
  step_parts (Does action) h o f fs = absurd h
  step_parts (Opens construct) h o f fs = absurd h

  -- What is required of the operators after two sequences in a frame: from the same point on the second are valid where the first are, and
  -- where they are from any point on, the second are from one that can't be reached.
  record Continues (f : NestedFrame T) (fs : NestedFrames T) (k k' : List (Marked (Located NamedOperation))) : Type 0 where
    same : (p : Point T) → Valid k (at f p ∷ fs) → Valid k' (at f p ∷ fs)
    in_unreachable : (p q : Point T) → Valid k (at f p ∷ fs) → Valid k' (at f (unreachable q) ∷ fs)

  -- what comes after operators that part and close: it knows no point
  abbrev Continuation : Control → Control → NestedFrame T → NestedFrames T → (z z' : List (Marked (Located NamedOperation))) → Type 0
  Continuation c c' f fs z z' = (p q : Point T) → (next_sequence m r c (at f p) fs >>= over z) ≡ Ok [] → (next_sequence m r c' (at f q) fs >>= over z') ≡ Ok []

  continues_part : (c c' : Control) → Parts c → Parts c' → (a a' : Located NamedOperation) (f : NestedFrame T) (fs : NestedFrames T) (z z' : List (Marked (Located NamedOperation)))
      → Continuation c c' f fs z z' → Continues f fs (with_control a c ∷ z) (with_control a' c' ∷ z')
  continues_part c c' g g' a a' f fs z z' h = record {
    same = λ p v.
        ap (λ x. x >>= over z') (step_parts c' g' a'.op (at f p) fs)
        ∙ onwards (closes m r (at f p)) (λ u. next_sequence m r c (at f p) fs) (λ u. next_sequence m r c' (at f p) fs) (over z) (over z') [] (λ u. h p p)
        (sym (ap (λ x. x >>= over z) (step_parts c g a.op (at f p) fs)) ∙ v);
    in_unreachable = λ p q v.
        let w = from_two (closes m r (at f p)) (λ u. next_sequence m r c (at f p) fs) (over z) [] (sym (ap (λ x. x >>= over z) (step_parts c g a.op (at f p) fs)) ∙ v) in
        ap (λ x. x >>= over z') (step_parts c' g' a'.op (at f (unreachable q)) fs)
        ∙ after (closes m r (at f (unreachable q))) (λ u. next_sequence m r c' (at f (unreachable q)) fs) (over z') [] (unreachable_closes f q) (h p (unreachable q) w.1);
  }

  -- what comes after one that is valid
  left : (c : Control) → Parts c → (a : Located NamedOperation) (f : NestedFrame T) (fs : NestedFrames T) (z : List (Marked (Located NamedOperation))) (p : Point T) → Valid (with_control a c ∷ z) (at f p ∷ fs)
      → (next_sequence m r c (at f p) fs >>= over z) ≡ Ok []
  left c h a f fs z p v =
      (from_two (closes m r (at f p)) (λ u. next_sequence m r c (at f p) fs) (over z) [] (sym (ap (λ x. x >>= over z) (step_parts c h a.op (at f p) fs)) ∙ v)).1

  left_end : (a : Located NamedOperation) (f : NestedFrame T) (fs : NestedFrames T) (z : List (Marked (Located NamedOperation))) (p : Point T) → Valid (with_control a End ∷ z) (at f p ∷ fs)
      → Valid z (given m r f.end_types fs)
  left_end a f fs z p v = (from_two (ends m r f.opened (at f p) fs) (λ u. Ok (given m r f.end_types fs)) (over z) [] (left End tt a f fs z p v)).1

  left_else : (a : Located NamedOperation) (f : NestedFrame T) (fs : NestedFrames T) (z : List (Marked (Located NamedOperation))) (p : Point T) → Valid (with_control a Else ∷ z) (at f p ∷ fs)
      → Valid z (alternative m r f fs ∷ fs)
  left_else a f fs z p v = (from_two (demand (is_if f.opened)) (λ u. Ok (alternative m r f fs ∷ fs)) (over z) [] (left Else tt a f fs z p v)).1

  left_catch : (a : Located NamedOperation) (t : ℕ) (f : NestedFrame T) (fs : NestedFrames T) (z : List (Marked (Located NamedOperation))) (p : Point T) → Valid (with_control a (Catch t) ∷ z) (at f p ∷ fs)
      → Valid z (handler m r t f fs ∷ fs)
  left_catch a t f fs z p v =
      (from_two (demand (may_catch f.opened)) (λ u. Ok (handler m r t f fs ∷ fs)) (over z) [] (left (Catch t) tt a f fs z p v)).1

  left_catch_all : (a : Located NamedOperation) (f : NestedFrame T) (fs : NestedFrames T) (z : List (Marked (Located NamedOperation))) (p : Point T) → Valid (with_control a CatchAll ∷ z) (at f p ∷ fs)
      → Valid z (handler_of_all m r f fs ∷ fs)
  left_catch_all a f fs z p v =
      (from_two (demand (may_catch f.opened)) (λ u. Ok (handler_of_all m r f fs ∷ fs)) (over z) [] (left CatchAll tt a f fs z p v)).1

  left_delegate : (a : Located NamedOperation) (n : ℕ) (f : NestedFrame T) (fs : NestedFrames T) (z : List (Marked (Located NamedOperation))) (p : Point T) → Valid (with_control a (Delegate n) ∷ z) (at f p ∷ fs)
      → Valid z (given m r f.end_types fs)
  left_delegate a n f fs z p v =
      let w = from_two (demand (is_try f.opened)) (λ u. label fs n >>= λ g. Ok (given m r f.end_types fs)) (over z) [] (left (Delegate n) tt a f fs z p v) in
      (from_two (label fs n) (λ g. Ok (given m r f.end_types fs)) (over z) [] w.1).1

  left_open : (construct : Construct) (a : Located NamedOperation) (f : NestedFrame T) (fs : NestedFrames T) (z : List (Marked (Located NamedOperation))) (p : Point T) → Valid (with_control a (Opens construct) ∷ z) (at f p ∷ fs)
      → (q : Point T) × (let gs = at f q ∷ fs in Valid z (frame_by m r construct a.op gs ∷ gs))
  left_open construct a f fs z p v =
      let w = from_two (taken_by m r construct a.op p) (λ q. opens m r construct a.op (at f q ∷ fs)) (over z) [] v in
      let gs = at f w.0 ∷ fs in
      (w.0, (from_two (catching m r construct a.op gs) (λ u. Ok (frame_by m r construct a.op gs ∷ gs)) (over z) [] w.1).1)

  -- a point, with what a frame in it gives
  abbrev taking : NestedFrame T → Point T → Point T
  taking g q = record q { operands = push_each m r g.end_types q.operands }

  -- ---- From a sequence on, whatever it holds, one comes to what follows it in the same frame, at some point.

  mutual
    walk : (s : Sequence (Located NamedOperation)) (k : List (Marked (Located NamedOperation))) (f : NestedFrame T) (fs : NestedFrames T) (p : Point T) → Valid (text s k) (at f p ∷ fs)
        → (q : Point T) × Valid k (at f q ∷ fs)
    walk Empty k f fs p v = (p, v)
    walk (Single a action s) k f fs p v =
        let w = from_two (taken m r action a.op (at f p ∷ fs) p) (λ q. Ok (at f (after_action action q) ∷ fs)) (over (text s k)) [] v in walk s k f fs (after_action action w.0) w.1
    walk (Wrapped a w b e s) k f fs p v =
        let o = left_open (construct_of w) a f fs (text b (with_control e End ∷ text s k)) p v in
        let gs = at f o.0 ∷ fs in
        let g = frame_by m r (construct_of w) a.op gs in
        let x = walk b (with_control e End ∷ text s k) g gs g.point o.1 in
        walk s k f fs (taking g o.0) (left_end e g gs (text s k) x.0 x.1)
    walk (IfThen a b e s) k f fs p v =
        let o = left_open If a f fs (text b (with_control e End ∷ text s k)) p v in
        let gs = at f o.0 ∷ fs in
        let g = frame_by m r If a.op gs in
        let x = walk b (with_control e End ∷ text s k) g gs g.point o.1 in
        walk s k f fs (taking g o.0) (left_end e g gs (text s k) x.0 x.1)
    walk (IfElse a b l c e s) k f fs p v =
        let z = text c (with_control e End ∷ text s k) in
        let o = left_open If a f fs (text b (with_control l Else ∷ z)) p v in
        let gs = at f o.0 ∷ fs in
        let g = frame_by m r If a.op gs in
        let h = alternative m r g gs in
        let x = walk b (with_control l Else ∷ z) g gs g.point o.1 in
        let y = walk c (with_control e End ∷ text s k) h gs h.point (left_else l g gs z x.0 x.1) in
        walk s k f fs (taking h o.0) (left_end e h gs (text s k) y.0 y.1)
    walk (TryCatch a b cs s) k f fs p v =
        let o = left_open Try a f fs (text b (clauses_text cs (text s k))) p v in
        let gs = at f o.0 ∷ fs in
        let g = frame_by m r Try a.op gs in
        let x = walk b (clauses_text cs (text s k)) g gs g.point o.1 in
        let y = walk_clauses cs (text s k) g f fs x.0 o.0 x.1 in
        walk s k f fs y.0 y.1
    walk (TryDelegate a b e n s) k f fs p v =
        let o = left_open Try a f fs (text b (with_control e (Delegate n) ∷ text s k)) p v in
        let gs = at f o.0 ∷ fs in
        let g = frame_by m r Try a.op gs in
        let x = walk b (with_control e (Delegate n) ∷ text s k) g gs g.point o.1 in
        walk s k f fs (taking g o.0) (left_delegate e n g gs (text s k) x.0 x.1)

    walk_clauses : (cs : Clauses (Located NamedOperation)) (k : List (Marked (Located NamedOperation))) (g f : NestedFrame T) (fs : NestedFrames T) (p q : Point T)
        → Valid (clauses_text cs k) (at g p ∷ at f q ∷ fs) → (s : Point T) × Valid k (at f s ∷ fs)
    walk_clauses (Ended e) k g f fs p q v = (taking g q, left_end e g (at f q ∷ fs) k p v)
    walk_clauses (Catches a t b cs) k g f fs p q v =
        let gs = at f q ∷ fs in
        let h = handler m r t g gs in
        let x = walk b (clauses_text cs k) h gs h.point (left_catch a t g gs (text b (clauses_text cs k)) p v) in
        walk_clauses cs k h f fs x.0 q x.1
    walk_clauses (CatchesAll a b e) k g f fs p q v =
        let gs = at f q ∷ fs in
        let h = handler_of_all m r g gs in
        let x = walk b (with_control e End ∷ k) h gs h.point (left_catch_all a g gs (text b (with_control e End ∷ k)) p v) in
        (taking h q, left_end e h gs k x.0 x.1)

  -- ---- constructs, where what follows in the frame f is as valid

  abbrev Rest : NestedFrame T → NestedFrames T → (z z' : List (Marked (Located NamedOperation))) → Type 0
  Rest f fs z z' = (p : Point T) → Valid z (at f p ∷ fs) → Valid z' (at f p ∷ fs)

  -- `end` asks the same from any point
  ends_at : (o : Opened) (f : NestedFrame T) (fs : NestedFrames T) (p q : Point T) → ends m r o (at f p) fs ≡ ends m r o (at f q) fs
  ends_at OfIf f fs p q = refl
  ends_at _ f fs p q = refl

  module _ (f : NestedFrame T) (fs : NestedFrames T) (q : Point T) (z z' : List (Marked (Located NamedOperation))) (rest : Rest f fs z z') where
    continues_end : (g : NestedFrame T) (e e' : Located NamedOperation) → Continues g (at f q ∷ fs) (with_control e End ∷ z) (with_control e' End ∷ z')
    continues_end g e e' = continues_part End End tt tt e e' g (at f q ∷ fs) z z' λ p s v.
        let w = onwards (ends m r g.opened (at g p) (at f q ∷ fs)) (λ u. Ok (given m r g.end_types (at f q ∷ fs))) (λ u. Ok (given m r g.end_types (at f q ∷ fs))) (over z) (over z') [] (λ u. rest (taking g q)) v in
        ap (λ a. (a >>= λ u. Ok (given m r g.end_types (at f q ∷ fs))) >>= over z') (ends_at g.opened g (at f q ∷ fs) s p) ∙ w

    continues_delegate : (g : NestedFrame T) (e e' : Located NamedOperation) (n : ℕ) → Continues g (at f q ∷ fs) (with_control e (Delegate n) ∷ z) (with_control e' (Delegate n) ∷ z')
    continues_delegate g e e' n = continues_part (Delegate n) (Delegate n) tt tt e e' g (at f q ∷ fs) z z' λ p s.
        let to : NestedFrame T → Checked (NestedFrames T) = λ h. Ok (given m r g.end_types (at f q ∷ fs)) in
        onwards (demand (is_try g.opened)) (λ u. label (at f q ∷ fs) n >>= to) (λ u. label (at f q ∷ fs) n >>= to) (over z) (over z') [] λ u.
        onwards (label (at f q ∷ fs) n) to to (over z) (over z') [] λ h. rest (taking g q)

    -- the `end` of an `if`, and `else end`
    continues_added : (a e l e' : Located NamedOperation) → Continues (frame_by m r If a.op (at f q ∷ fs)) (at f q ∷ fs) (with_control e End ∷ z) (with_control l Else ∷ with_control e' End ∷ z')
    continues_added a e l e' =
        let gs = at f q ∷ fs in
        let g = frame_by m r If a.op gs in
        let to : Unit {0} → Checked (NestedFrames T) = λ u. Ok (given m r g.end_types gs) in
        continues_part End Else tt tt e l g gs z (with_control e' End ∷ z') λ p s. onwards (closes m r (alternative m r g gs)) to to (over z) (over z') [] λ u. rest (taking g q)

    -- an alternative that is as good as an `end`
    continues_dropped : (a l e' : Located NamedOperation) (y : List (Marked (Located NamedOperation)))
        → (let gs = at f q ∷ fs in let h = alternative m r (frame_by m r If a.op gs) gs in Valid y (h ∷ gs) → Valid (with_control e' End ∷ z') (h ∷ gs))
        → Continues (frame_by m r If a.op (at f q ∷ fs)) (at f q ∷ fs) (with_control l Else ∷ y) (with_control e' End ∷ z')
    continues_dropped a l e' y body = continues_part Else End tt tt l e' (frame_by m r If a.op (at f q ∷ fs)) (at f q ∷ fs) y z' λ p s. body

  -- ---- a further sequence of a construct

  continues_else : (g : NestedFrame T) (gs : NestedFrames T) (l l' : Located NamedOperation) (z z' : List (Marked (Located NamedOperation)))
      → (Valid z (alternative m r g gs ∷ gs) → Valid z' (alternative m r g gs ∷ gs)) → Continues g gs (with_control l Else ∷ z) (with_control l' Else ∷ z')
  continues_else g gs l l' z z' body =
      let to : Unit {0} → Checked (NestedFrames T) = λ u. Ok (alternative m r g gs ∷ gs) in
      continues_part Else Else tt tt l l' g gs z z' λ p s. onwards (demand (is_if g.opened)) to to (over z) (over z') [] λ u. body

  continues_catch : (t : ℕ) (g : NestedFrame T) (gs : NestedFrames T) (l l' : Located NamedOperation) (z z' : List (Marked (Located NamedOperation)))
      → (Valid z (handler m r t g gs ∷ gs) → Valid z' (handler m r t g gs ∷ gs)) → Continues g gs (with_control l (Catch t) ∷ z) (with_control l' (Catch t) ∷ z')
  continues_catch t g gs l l' z z' body =
      let to : Unit {0} → Checked (NestedFrames T) = λ u. Ok (handler m r t g gs ∷ gs) in
      continues_part (Catch t) (Catch t) tt tt l l' g gs z z' λ p s. onwards (demand (may_catch g.opened)) to to (over z) (over z') [] λ u. body

  continues_catch_all : (g : NestedFrame T) (gs : NestedFrames T) (l l' : Located NamedOperation) (z z' : List (Marked (Located NamedOperation)))
      → (Valid z (handler_of_all m r g gs ∷ gs) → Valid z' (handler_of_all m r g gs ∷ gs)) → Continues g gs (with_control l CatchAll ∷ z) (with_control l' CatchAll ∷ z')
  continues_catch_all g gs l l' z z' body =
      let to : Unit {0} → Checked (NestedFrames T) = λ u. Ok (handler_of_all m r g gs ∷ gs) in
      continues_part CatchAll CatchAll tt tt l l' g gs z z' λ p s. onwards (demand (may_catch g.opened)) to to (over z) (over z') [] λ u. body

  kept_open : (construct : Construct) (a : Located NamedOperation) (f : NestedFrame T) (fs : NestedFrames T) (z z' : List (Marked (Located NamedOperation)))
      → ((q : Point T) → let gs = at f q ∷ fs in Valid z (frame_by m r construct a.op gs ∷ gs) → Valid z' (frame_by m r construct a.op gs ∷ gs))
      → (p : Point T) → Valid (with_control a (Opens construct) ∷ z) (at f p ∷ fs) → Valid (with_control a (Opens construct) ∷ z') (at f p ∷ fs)
  kept_open construct a f fs z z' body p =
      let to : Point T → Checked (NestedFrames T) = λ q. opens m r construct a.op (at f q ∷ fs) in
      onwards (taken_by m r construct a.op p) to to (over z) (over z') [] λ q.
      let gs = at f q ∷ fs in
      let on : Unit {0} → Checked (NestedFrames T) = λ u. Ok (frame_by m r construct a.op gs ∷ gs) in
      onwards (catching m r construct a.op gs) on on (over z) (over z') [] λ u. body q

  -- ---- sequences

  abbrev Kept : (s s' : Sequence (Located NamedOperation)) → Type 0
  Kept s s' = (f : NestedFrame T) (fs : NestedFrames T) (k k' : List (Marked (Located NamedOperation))) → Continues f fs k k' → (p : Point T) → Valid (text s k) (at f p ∷ fs) → Valid (text s' k') (at f p ∷ fs)

  mutual
    kept : {s s' : Sequence (Located NamedOperation)} → RewritesTo s s' → Kept s s'
    kept empty f fs k k' h = h.same
    kept (drop_nop x) f fs k k' h = kept x f fs k k' h
    kept (keep {a = a} {action = action} {r = s} {r' = s'} x) f fs k k' h = λ p.
        let to : Point T → Checked (NestedFrames T) = λ q. Ok (at f (after_action action q) ∷ fs) in
        onwards (taken m r action a.op (at f p ∷ fs) p) to to (over (text s k)) (over (text s' k')) [] (λ q. kept x f fs k k' h (after_action action q))
    kept (unreachable_after {a = a} {action = action} {r = s} c) f fs k k' h = λ p.
        let to : Point T → Checked (NestedFrames T) = λ q. Ok (at f (after_action action q) ∷ fs) in
        onwards (taken m r action a.op (at f p ∷ fs) p) to to (over (text s k)) (over k') []
        (λ q w. let x = walk s k f fs (after_action action q) w in subst (λ x. Valid k' (at f x ∷ fs)) (sym (after_unreachable_after action q c)) (h.in_unreachable x.0 q x.1))
    kept (wrapped {a = a} {e = e} {e' = e'} {w = w} {b = b} {b' = b'} {r = s} {r' = s'} x y) f fs k k' h =
        kept_open (construct_of w) a f fs (text b (with_control e End ∷ text s k)) (text b' (with_control e' End ∷ text s' k')) λ q.
        let gs = at f q ∷ fs in
        let g = frame_by m r (construct_of w) a.op gs in
        kept x g gs (with_control e End ∷ text s k) (with_control e' End ∷ text s' k') (continues_end f fs q (text s k) (text s' k') (kept y f fs k k' h) g e e') g.point
    kept (if_then {a = a} {e = e} {e' = e'} {b = b} {b' = b'} {r = s} {r' = s'} x y) f fs k k' h =
        kept_open If a f fs (text b (with_control e End ∷ text s k)) (text b' (with_control e' End ∷ text s' k')) λ q.
        let gs = at f q ∷ fs in
        let g = frame_by m r If a.op gs in
        kept x g gs (with_control e End ∷ text s k) (with_control e' End ∷ text s' k') (continues_end f fs q (text s k) (text s' k') (kept y f fs k k' h) g e e') g.point
    kept (if_else {a = a} {l = l} {l' = l'} {e = e} {e' = e'} {b = b} {b' = b'} {c = c} {c' = c'} {r = s} {r' = s'} x i y) f fs k k' h =
        let z = text c (with_control e End ∷ text s k) in
        let z' = text c' (with_control e' End ∷ text s' k') in
        kept_open If a f fs (text b (with_control l Else ∷ z)) (text b' (with_control l' Else ∷ z')) λ q.
        let gs = at f q ∷ fs in
        let g = frame_by m r If a.op gs in
        let j = alternative m r g gs in
        kept x g gs (with_control l Else ∷ z) (with_control l' Else ∷ z')
        (continues_else g gs l l' z z' (kept i j gs (with_control e End ∷ text s k) (with_control e' End ∷ text s' k') (continues_end f fs q (text s k) (text s' k') (kept y f fs k k' h) j e e') j.point)) g.point
    kept (add_else {a = a} {l' = l'} {e = e} {e' = e'} {b = b} {b' = b'} {r = s} {r' = s'} x y) f fs k k' h =
        kept_open If a f fs (text b (with_control e End ∷ text s k)) (text b' (with_control l' Else ∷ with_control e' End ∷ text s' k')) λ q.
        let gs = at f q ∷ fs in
        let g = frame_by m r If a.op gs in
        kept x g gs (with_control e End ∷ text s k) (with_control l' Else ∷ with_control e' End ∷ text s' k') (continues_added f fs q (text s k) (text s' k') (kept y f fs k k' h) a e l' e') g.point
    kept (drop_else {a = a} {l = l} {e = e} {e' = e'} {b = b} {b' = b'} {c = c} {r = s} {r' = s'} x i y) f fs k k' h =
        let z = text c (with_control e End ∷ text s k) in
        kept_open If a f fs (text b (with_control l Else ∷ z)) (text b' (with_control e' End ∷ text s' k')) λ q.
        let gs = at f q ∷ fs in
        let g = frame_by m r If a.op gs in
        let j = alternative m r g gs in
        kept x g gs (with_control l Else ∷ z) (with_control e' End ∷ text s' k')
        (continues_dropped f fs q (text s k) (text s' k') (kept y f fs k k' h) a l e' z
        (kept i j gs (with_control e End ∷ text s k) (with_control e' End ∷ text s' k') (continues_end f fs q (text s k) (text s' k') (kept y f fs k k' h) j e e') j.point)) g.point
    kept (try_catch {a = a} {b = b} {b' = b'} {r = s} {r' = s'} {cs = cs} {cs' = cs'} x i y) f fs k k' h =
        kept_open Try a f fs (text b (clauses_text cs (text s k))) (text b' (clauses_text cs' (text s' k'))) λ q.
        let gs = at f q ∷ fs in
        let g = frame_by m r Try a.op gs in
        kept x g gs (clauses_text cs (text s k)) (clauses_text cs' (text s' k')) (kept_clauses i f fs q (text s k) (text s' k') (kept y f fs k k' h) g) g.point
    kept (try_delegate {a = a} {e = e} {e' = e'} {n = n} {b = b} {b' = b'} {r = s} {r' = s'} x y) f fs k k' h =
        kept_open Try a f fs (text b (with_control e (Delegate n) ∷ text s k)) (text b' (with_control e' (Delegate n) ∷ text s' k')) λ q.
        let gs = at f q ∷ fs in
        let g = frame_by m r Try a.op gs in
        kept x g gs (with_control e (Delegate n) ∷ text s k) (with_control e' (Delegate n) ∷ text s' k') (continues_delegate f fs q (text s k) (text s' k') (kept y f fs k k' h) g e e' n) g.point

    kept_clauses : {cs cs' : Clauses (Located NamedOperation)} → ClausesRewriteTo cs cs' → (f : NestedFrame T) (fs : NestedFrames T) (q : Point T) (k k' : List (Marked (Located NamedOperation))) → Rest f fs k k' → (g : NestedFrame T)
        → Continues g (at f q ∷ fs) (clauses_text cs k) (clauses_text cs' k')
    kept_clauses (ended {e = e} {e' = e'}) f fs q k k' rest g = continues_end f fs q k k' rest g e e'
    kept_clauses (catches_one {a = a} {a' = a'} {t = t} {b = b} {b' = b'} {cs = cs} {cs' = cs'} x i) f fs q k k' rest g =
        let gs = at f q ∷ fs in
        let j = handler m r t g gs in
        continues_catch t g gs a a' (text b (clauses_text cs k)) (text b' (clauses_text cs' k')) (kept x j gs (clauses_text cs k) (clauses_text cs' k') (kept_clauses i f fs q k k' rest j) j.point)
    kept_clauses (catches_all {a = a} {a' = a'} {e = e} {e' = e'} {b = b} {b' = b'} x) f fs q k k' rest g =
        let gs = at f q ∷ fs in
        let j = handler_of_all m r g gs in
        continues_catch_all g gs a a' (text b (with_control e End ∷ k)) (text b' (with_control e' End ∷ k')) (kept x j gs (with_control e End ∷ k) (with_control e' End ∷ k') (continues_end f fs q k k' rest j e e') j.point)

  -- ---- bodies

  -- after a function's own sequence
  continues_body : (f : NestedFrame T) (e e' : Located NamedOperation) → Continues f [] (with_control e End ∷ []) (with_control e' End ∷ [])
  continues_body f e e' = continues_part End End tt tt e e' f [] [] [] λ p q v.
      ap (λ a. (a >>= λ u. Ok (given m r f.end_types [])) >>= over []) (ends_at f.opened f [] q p) ∙ v

  pub valid_kept : (b b' : Body (Located NamedOperation)) → RewritesTo b.sequence b'.sequence → (xs ys : List (Located NamedOperation)) → IsNamedBody xs b
      → IsNamedBody ys b' → (rs : List (ValType ℕ)) (ls : List ℕ) → IsValid m r rs ls xs → IsValid m r rs ls ys
  valid_kept b b' x xs ys hx hy rs ls v =
      let f = function_frame m r rs ls in
      let w : Valid (body_text b) (f ∷ []) = ap (λ l. over l (f ∷ [])) (sym hx) ∙ (sym (validate_over xs (f ∷ [])) ∙ v) in
      validate_over ys (f ∷ [])
      ∙ (ap (λ l. over l (f ∷ [])) hy
      ∙ kept x f [] (with_control b.close End ∷ []) (with_control b'.close End ∷ []) (continues_body f b.close b'.close) f.point w)
