-- Validation by two rules that are alike, over operators and over the same operators with other locals, where each frame holds its own
-- operands (NestedFrames).
use Rattle.std.proofs.Common.{◌≡◌, ℕ, zero, suc, List, [], ◌∷◌, length, map, reverse, Bool, true, false, Ok, Err, refl, sym, ap, ◌∙◌, subst}
use Rattle.std.specs.Prelude.{nat_eq, if◌then◌else◌}
use Rattle.std.specs.List.{AllByRecursion}
use Rattle.wasm_types.specs.declared.val_type.ValType.{ValType}
use Rattle.wasm_numbers.specs.Results.{◌>>=◌}
use Rattle.wasm_operators.specs.Operations.{CatchClause}
use Rattle.wasm_body.specs.Control.{Action, Nop, Plain, Branch, ConditionalBranch, TableBranch, Return, Unreachable, Throw, ThrowRef, Rethrow, TailCall, Construct, If, TryTable, Control, Does, Opens, Else, Catch, CatchAll, End, Delegate, control_of}
use Rattle.wasm_body.specs.Translation.{Located}
use Rattle.wasm_body.specs.Naming.{NamedOperation, block_signature}
use Rattle.wasm_body.specs.NormalForm.{Typing}
use Rattle.wasm_body.specs.Validity.{Operand, Unknown, Known, Point, Change, Opened, OfLoop, OfIf, OfElse, OfCatch, OfCatchAll, OperandRules, Checked, demand, required, i32, exnref, is_if, is_try, may_catch, is_catch, opened_by, try_table_clauses, handed, transfers, set_locals, push_each}
use Rattle.wasm_body.specs.Validity as heights
use Rattle.wasm_body.proofs.Validity.NestedFrames.{NestedFrame, NestedFrames, none, at, initialised_in, label, types_by, label_types, results, changed, unreachable, after_action, popped, pop, pop_each, pop_all, opened_in, closes, given, targets, taken, condition, hand, catching, taken_by, frame_by, opens, alternative, handler, handler_of_all, ends, next_sequence, step, validate, function_frame}
use Rattle.wasm_body.proofs.Validity.HeightsAgree.{valid_by_heights, valid_with_heights}
use Rattle.wasm_typing.specs.Contexts.{contains}
use Rattle.renamed_locals.specs.RenamedLocals.{renamed, renamed_at, Names}
use Rattle.renamed_locals.proofs.SameControl.{same_control, same_signature, same_clauses}

-- ---- results that are alike

abbrev pub Like : {X Y : Type 0} → (X → Y → Type 0) → Checked X → Checked Y → Type 0
Like R (Ok x) (Ok y) = R x y
Like R (Err e) (Err d) = Unit {0}
Like R _ _ = ⊥

pub like_bind : {X Y P Q : Type 0} → (R : X → Y → Type 0) (S : P → Q → Type 0) (a : Checked X) (b : Checked Y) (k : X → Checked P) (l : Y → Checked Q) → Like R a b
    → ((x : X) (y : Y) → R x y → Like S (k x) (l y)) → Like S (a >>= k) (b >>= l)
like_bind R S (Ok x) (Ok y) k l h f = f x y h
like_bind R S (Err e) (Err d) k l h f = tt
like_bind R S (Ok x) (Err d) k l h f = absurd h
like_bind R S (Err e) (Ok y) k l h f = absurd h

-- the same first result, and what follows it
pub like_same : {X P Q : Type 0} → (S : P → Q → Type 0) (a : Checked X) (k : X → Checked P) (l : X → Checked Q) → ((x : X) → Like S (k x) (l x)) → Like S (a >>= k) (a >>= l)
like_same S (Ok x) k l f = f x
like_same S (Err e) k l f = tt

abbrev Any : {X : Type 0} → X → X → Type 0
Any x y = Unit {0}

any_same : {X : Type 0} → (a : Checked X) → Like Any a a
any_same (Ok x) = tt
any_same (Err e) = tt

-- ---- points that differ in what is initialised

abbrev pub moved : {T : Type 0} → List ℕ → Point T → Point T
moved ks p = record p { initialised = ks }

module _ (Used : ℕ → Type 0) (f : ℕ → ℕ) where
  -- Of the used locals, the same are initialised.
  abbrev pub SameSet : List ℕ → List ℕ → Type 0
  SameSet ls ks = (n : ℕ) → Used n → contains n ls ≡ contains (f n) ks

  abbrev pub PointAlike : {T : Type 0} → Point T → Point T → Type 0
  PointAlike p s = (ks : List ℕ) × (s ≡ moved ks p) × SameSet p.initialised ks

  -- The changes make the same operands, and initialise the same.
  pub record ChangeAlike {T : Type 0} (k j : Change T) : Type 0 where
    pub operands : j.operands ≡ k.operands
    pub initialises : (ls ks : List ℕ) → SameSet ls ks → SameSet (set_locals k.initialises ls) (set_locals j.initialises ks)

  pub record RulesAlike {T : Type 0} (r q : OperandRules T) : Type 0 where
    pub type_of : (t : ValType ℕ) → q.type_of t ≡ r.type_of t
    pub matches : (x : T) (t : ValType ℕ) → q.matches x t ≡ r.matches x t
    pub plain : (o : NamedOperation) → Names Used o → (p : Point T) (ks : List ℕ) → SameSet p.initialised ks
        → Like ChangeAlike (required (r.plain o p)) (required (q.plain (renamed f o) (moved ks p)))
    pub conditional : (o : NamedOperation) → Names Used o → (ts : List (ValType ℕ)) (p : Point T) (ks : List ℕ) → SameSet p.initialised ks
        → Like ChangeAlike (required (r.conditional o ts p)) (required (q.conditional (renamed f o) ts (moved ks p)))
    pub tail_call : (o : NamedOperation) → Names Used o → (ts : List (ValType ℕ)) (p : Point T) (ks : List ℕ) → SameSet p.initialised ks
        → q.tail_call (renamed f o) ts (moved ks p) ≡ r.tail_call o ts p

  module _ {T : Type 0} (m : Typing) (r q : OperandRules T) (alike : RulesAlike r q) where
    -- ---- operands

    same_push : (ts : List (ValType ℕ)) (xs : List (Operand T)) → push_each m q ts xs ≡ push_each m r ts xs
    same_push [] xs = refl
    same_push (t ∷ ts) xs = same_push ts (Known (q.type_of t) ∷ xs) ∙ ap (λ y. push_each m r ts (Known y ∷ xs)) (alike.type_of t)

    popped_like : (t : ValType ℕ) (p : Point T) (ks : List ℕ) → SameSet p.initialised ks → (xs : List (Operand T)) → Like PointAlike (popped m r t p xs) (popped m q t (moved ks p) xs)
    popped_like t p ks s [] = like_same PointAlike (demand p.unreachable) (λ u. Ok p) (λ u. Ok (moved ks p)) (λ u. (ks, refl, s))
    popped_like t p ks s (Unknown ∷ xs) = (ks, refl, s)
    popped_like t p ks s (Known x ∷ xs) =
        subst (λ b. Like PointAlike (demand (r.matches x t) >>= λ u. Ok (record p { operands = xs })) (demand b >>= λ u. Ok (record p { operands = xs; initialised = ks }))) (sym (alike.matches x t))
        (like_same PointAlike (demand (r.matches x t)) (λ u. Ok (record p { operands = xs })) (λ u. Ok (record p { operands = xs; initialised = ks })) (λ u. (ks, refl, s)))

    pop_like : (t : ValType ℕ) (p s : Point T) → PointAlike p s → Like PointAlike (pop m r t p) (pop m q t s)
    pop_like t p s a = subst (λ y. Like PointAlike (pop m r t p) (pop m q t y)) (sym a.1) (popped_like t p a.0 a.2 p.operands)

    pop_each_like : (ts : List (ValType ℕ)) (p s : Point T) → PointAlike p s → Like PointAlike (pop_each m r ts p) (pop_each m q ts s)
    pop_each_like [] p s a = a
    pop_each_like (t ∷ ts) p s a = like_bind PointAlike PointAlike (pop m r t p) (pop m q t s) (pop_each m r ts) (pop_each m q ts) (pop_like t p s a) (pop_each_like ts)

    pop_all_like : (ts : List (ValType ℕ)) (p s : Point T) → PointAlike p s → Like PointAlike (pop_all m r ts p) (pop_all m q ts s)
    pop_all_like ts p s a = pop_each_like (reverse ts) p s a

    -- ---- frames

    abbrev FrameAlike : NestedFrame T → NestedFrame T → Type 0
    FrameAlike g h = (ks : List ℕ) × (h ≡ at g (moved ks g.point)) × SameSet g.point.initialised ks

    abbrev FramesAlike : NestedFrames T → NestedFrames T → Type 0
    FramesAlike [] [] = Unit {0}
    FramesAlike (g ∷ gs) (h ∷ hs) = FrameAlike g h × FramesAlike gs hs
    FramesAlike _ _ = ⊥

    label_like : (gs hs : NestedFrames T) → FramesAlike gs hs → (n : ℕ) → Like FrameAlike (label gs n) (label hs n)
    label_like [] [] a n = tt
    label_like [] (h ∷ hs) a n = absurd a
    label_like (g ∷ gs) [] a n = absurd a
    label_like (g ∷ gs) (h ∷ hs) a zero = a.0
    label_like (g ∷ gs) (h ∷ hs) a (suc n) = label_like gs hs a.1 n

    types_at : (o : Opened) (g : NestedFrame T) (p : Point T) → types_by o (at g p) ≡ types_by o g
    types_at OfLoop g p = refl
    types_at _ g p = refl

    same_types : (g h : NestedFrame T) → FrameAlike g h → label_types h ≡ label_types g
    same_types g h a = ap label_types a.1 ∙ types_at g.opened g (moved a.0 g.point)

    same_results : (gs hs : NestedFrames T) → FramesAlike gs hs → results hs ≡ results gs
    same_results [] [] a = refl
    same_results [] (h ∷ hs) a = absurd a
    same_results (g ∷ gs) [] a = absurd a
    same_results (g ∷ []) (h ∷ []) a = ap (λ (x : NestedFrame T). x.end_types) a.0.1
    same_results (g ∷ []) (h ∷ i ∷ hs) a = absurd a.1
    same_results (g ∷ e ∷ gs) (h ∷ []) a = absurd a.1
    same_results (g ∷ e ∷ gs) (h ∷ i ∷ hs) a = same_results (e ∷ gs) (i ∷ hs) a.1

    same_initialised : (gs hs : NestedFrames T) → FramesAlike gs hs → SameSet (initialised_in gs) (initialised_in hs)
    same_initialised [] [] a = λ n u. refl
    same_initialised [] (h ∷ hs) a = absurd a
    same_initialised (g ∷ gs) [] a = absurd a
    same_initialised (g ∷ gs) (h ∷ hs) a = subst (λ (x : NestedFrame T). SameSet g.point.initialised x.point.initialised) (sym a.0.1) a.0.2

    opened_like : (gs hs : NestedFrames T) → FramesAlike gs hs → (o : Opened) (ins outs : List (ValType ℕ)) → FrameAlike (opened_in m r gs o ins outs) (opened_in m q hs o ins outs)
    opened_like gs hs a o ins outs =
        let frame : List (Operand T) → NestedFrame T =
        λ xs. record { opened = o; start_types = ins; end_types = outs; point = record { operands = xs; unreachable = false; initialised = initialised_in hs } } in
        (initialised_in hs, ap frame (same_push ins []), same_initialised gs hs a)

    given_like : (ts : List (ValType ℕ)) (gs hs : NestedFrames T) → FramesAlike gs hs → FramesAlike (given m r ts gs) (given m q ts hs)
    given_like ts [] [] a = tt
    given_like ts [] (h ∷ hs) a = absurd a
    given_like ts (g ∷ gs) [] a = absurd a
    given_like ts (g ∷ gs) (h ∷ hs) a =
        let give : List (Operand T) → NestedFrame T = λ xs. at g (record g.point { operands = xs; initialised = a.0.0 }) in
        let there : NestedFrame T → NestedFrame T = λ x. at x (record x.point { operands = push_each m q ts x.point.operands }) in
        ((a.0.0, ap there a.0.1 ∙ ap give (same_push ts g.point.operands), a.0.2), a.1)

    closes_like : (g h : NestedFrame T) → FrameAlike g h → Like Any (closes m r g) (closes m q h)
    closes_like g h a =
        subst (λ x. Like Any (closes m r g) (closes m q x)) (sym a.1)
        (like_bind PointAlike Any (pop_all m r g.end_types g.point) (pop_all m q g.end_types (moved a.0 g.point)) (λ p. demand (none p.operands)) (λ p. demand (none p.operands))
        (pop_all_like g.end_types g.point (moved a.0 g.point) (a.0, refl, a.2))
        (λ p s b. subst (λ (x : Point T). Like Any (demand (none p.operands)) (demand (none x.operands))) (sym b.1) (any_same (demand (none p.operands)))))

    targets_like : (gs hs : NestedFrames T) → FramesAlike gs hs → (p s : Point T) → PointAlike p s → (arity : ℕ) (ns : List ℕ) → Like Any (targets m r gs p arity ns) (targets m q hs s arity ns)
    targets_like gs hs a p s b arity [] = tt
    targets_like gs hs a p s b arity (n ∷ ns) =
        like_bind FrameAlike Any (label gs n) (label hs n)
        (λ g. demand (nat_eq (length (label_types g)) arity) >>= λ u. pop_all m r (label_types g) p >>= λ z. targets m r gs p arity ns)
        (λ h. demand (nat_eq (length (label_types h)) arity) >>= λ u. pop_all m q (label_types h) s >>= λ z. targets m q hs s arity ns)
        (label_like gs hs a n) λ g h e.
        subst (λ ts. Like Any (demand (nat_eq (length (label_types g)) arity) >>= λ u. pop_all m r (label_types g) p >>= λ z. targets m r gs p arity ns)
        (demand (nat_eq (length ts) arity) >>= λ u. pop_all m q ts s >>= λ z. targets m q hs s arity ns)) (sym (same_types g h e))
        (like_same Any (demand (nat_eq (length (label_types g)) arity)) (λ u. pop_all m r (label_types g) p >>= λ z. targets m r gs p arity ns) (λ u. pop_all m q (label_types g) s >>= λ z. targets m q hs s arity ns)
        (λ u. like_bind PointAlike Any (pop_all m r (label_types g) p) (pop_all m q (label_types g) s) (λ z. targets m r gs p arity ns) (λ z. targets m q hs s arity ns)
        (pop_all_like (label_types g) p s b) (λ x y c. targets_like gs hs a p s b arity ns)))

    -- to the label n, whose types are popped
    branch_like : (gs hs : NestedFrames T) → FramesAlike gs hs → (p s : Point T) → PointAlike p s → (n : ℕ)
        → Like PointAlike (label gs n >>= λ g. pop_all m r (label_types g) p) (label hs n >>= λ h. pop_all m q (label_types h) s)
    branch_like gs hs a p s b n =
        like_bind FrameAlike PointAlike (label gs n) (label hs n) (λ g. pop_all m r (label_types g) p) (λ h. pop_all m q (label_types h) s) (label_like gs hs a n)
        (λ g h e. subst (λ ts. Like PointAlike (pop_all m r (label_types g) p) (pop_all m q ts s)) (sym (same_types g h e)) (pop_all_like (label_types g) p s b))

    change_like : (p : Point T) (ks : List ℕ) → SameSet p.initialised ks → (k j : Change T) → ChangeAlike k j → PointAlike (changed k p) (changed j (moved ks p))
    change_like p ks s k j c =
        (set_locals j.initialises ks, ap (λ xs. record p { operands = xs; initialised = set_locals j.initialises ks }) c.operands, c.initialises p.initialised ks s)

    plain_like : (o : NamedOperation) → Names Used o → (p s : Point T) → PointAlike p s
        → Like PointAlike (required (r.plain o p) >>= λ k. Ok (changed k p)) (required (q.plain (renamed f o) s) >>= λ k. Ok (changed k s))
    plain_like o u p s b =
        subst (λ x. Like PointAlike (required (r.plain o p) >>= λ k. Ok (changed k p)) (required (q.plain (renamed f o) x) >>= λ k. Ok (changed k x))) (sym b.1)
        (like_bind ChangeAlike PointAlike (required (r.plain o p)) (required (q.plain (renamed f o) (moved b.0 p))) (λ k. Ok (changed k p)) (λ k. Ok (changed k (moved b.0 p)))
        (alike.plain o u p b.0 b.2) (change_like p b.0 b.2))

    conditional_like : (o : NamedOperation) → Names Used o → (ts : List (ValType ℕ)) (p s : Point T) → PointAlike p s
        → Like PointAlike (required (r.conditional o ts p) >>= λ k. Ok (changed k p)) (required (q.conditional (renamed f o) ts s) >>= λ k. Ok (changed k s))
    conditional_like o u ts p s b =
        subst (λ x. Like PointAlike (required (r.conditional o ts p) >>= λ k. Ok (changed k p)) (required (q.conditional (renamed f o) ts x) >>= λ k. Ok (changed k x))) (sym b.1)
        (like_bind ChangeAlike PointAlike (required (r.conditional o ts p)) (required (q.conditional (renamed f o) ts (moved b.0 p))) (λ k. Ok (changed k p)) (λ k. Ok (changed k (moved b.0 p)))
        (alike.conditional o u ts p b.0 b.2) (change_like p b.0 b.2))

    taken_like : (a : Action) (o : NamedOperation) → Names Used o → (gs hs : NestedFrames T) → FramesAlike gs hs → (p s : Point T) → PointAlike p s
        → Like PointAlike (taken m r a o gs p) (taken m q a (renamed f o) hs s)
    taken_like Nop o u gs hs e p s b = b
    taken_like Plain o u gs hs e p s b = plain_like o u p s b
    taken_like (Branch n) o u gs hs e p s b = branch_like gs hs e p s b n
    taken_like (ConditionalBranch n) o u gs hs e p s b =
        like_bind FrameAlike PointAlike (label gs n) (label hs n) (λ g. required (r.conditional o (label_types g) p) >>= λ k. Ok (changed k p))
        (λ h. required (q.conditional (renamed f o) (label_types h) s) >>= λ k. Ok (changed k s)) (label_like gs hs e n)
        (λ g h d. subst (λ ts. Like PointAlike (required (r.conditional o (label_types g) p) >>= λ k. Ok (changed k p)) (required (q.conditional (renamed f o) ts s) >>= λ k. Ok (changed k s)))
        (sym (same_types g h d)) (conditional_like o u (label_types g) p s b))
    taken_like (TableBranch ns d) o u gs hs e p s b =
        like_bind PointAlike PointAlike (pop m r i32 p) (pop m q i32 s)
        (λ x. label gs d >>= λ g. targets m r gs x (length (label_types g)) ns >>= λ v. pop_all m r (label_types g) x)
        (λ y. label hs d >>= λ h. targets m q hs y (length (label_types h)) ns >>= λ v. pop_all m q (label_types h) y) (pop_like i32 p s b) λ x y c.
        like_bind FrameAlike PointAlike (label gs d) (label hs d) (λ g. targets m r gs x (length (label_types g)) ns >>= λ v. pop_all m r (label_types g) x)
        (λ h. targets m q hs y (length (label_types h)) ns >>= λ v. pop_all m q (label_types h) y) (label_like gs hs e d) λ g h k.
        subst (λ ts. Like PointAlike (targets m r gs x (length (label_types g)) ns >>= λ v. pop_all m r (label_types g) x) (targets m q hs y (length ts) ns >>= λ v. pop_all m q ts y)) (sym (same_types g h k))
        (like_bind Any PointAlike (targets m r gs x (length (label_types g)) ns) (targets m q hs y (length (label_types g)) ns) (λ v. pop_all m r (label_types g) x) (λ v. pop_all m q (label_types g) y)
        (targets_like gs hs e x y c (length (label_types g)) ns) (λ v w t. pop_all_like (label_types g) x y c))
    taken_like Return o u gs hs e p s b = subst (λ ts. Like PointAlike (pop_all m r (results gs) p) (pop_all m q ts s)) (sym (same_results gs hs e)) (pop_all_like (results gs) p s b)
    taken_like Unreachable o u gs hs e p s b = b
    taken_like (Throw tag) o u gs hs e p s b = pop_all_like (m.tag_parameters tag) p s b
    taken_like ThrowRef o u gs hs e p s b = pop_like exnref p s b
    taken_like (Rethrow n) o u gs hs e p s b =
        like_bind FrameAlike PointAlike (label gs n) (label hs n) (λ g. demand (is_catch g.opened) >>= λ v. Ok p) (λ h. demand (is_catch h.opened) >>= λ v. Ok s) (label_like gs hs e n)
        (λ g h d. subst (λ (x : NestedFrame T). Like PointAlike (demand (is_catch g.opened) >>= λ v. Ok p) (demand (is_catch x.opened) >>= λ v. Ok s)) (sym d.1)
        (like_same PointAlike (demand (is_catch g.opened)) (λ v. Ok p) (λ v. Ok s) (λ v. b)))
    taken_like TailCall o u gs hs e p s b =
        let same : q.tail_call (renamed f o) (results hs) s ≡ r.tail_call o (results gs) p =
        ap (λ x. q.tail_call (renamed f o) (results hs) x) b.1 ∙ (ap (λ ts. q.tail_call (renamed f o) ts (moved b.0 p)) (same_results gs hs e) ∙ alike.tail_call o u (results gs) p b.0 b.2) in
        subst (λ x. Like PointAlike (demand (r.tail_call o (results gs) p) >>= λ v. Ok p) (demand x >>= λ v. Ok s)) (sym same)
        (like_same PointAlike (demand (r.tail_call o (results gs) p)) (λ v. Ok p) (λ v. Ok s) (λ v. b))

    -- ---- operators that open, part and close

    condition_like : (k : Construct) (p s : Point T) → PointAlike p s → Like PointAlike (condition m r k p) (condition m q k s)
    condition_like If p s b = pop_like i32 p s b
    condition_like _ p s b = b

    hand_like : (gs hs : NestedFrames T) → FramesAlike gs hs → (cs : List (CatchClause ℕ)) → Like Any (hand m r gs cs) (hand m q hs cs)
    hand_like gs hs a [] = tt
    hand_like gs hs a (c ∷ cs) =
        like_bind FrameAlike Any (label gs c.label) (label hs c.label) (λ g. closes m r (opened_in m r gs OfCatch (handed m c) (label_types g)) >>= λ u. hand m r gs cs)
        (λ h. closes m q (opened_in m q hs OfCatch (handed m c) (label_types h)) >>= λ u. hand m q hs cs) (label_like gs hs a c.label) λ g h e.
        subst (λ ts. Like Any (closes m r (opened_in m r gs OfCatch (handed m c) (label_types g)) >>= λ u. hand m r gs cs) (closes m q (opened_in m q hs OfCatch (handed m c) ts) >>= λ u. hand m q hs cs)) (sym (same_types g h e))
        (like_bind Any Any (closes m r (opened_in m r gs OfCatch (handed m c) (label_types g))) (closes m q (opened_in m q hs OfCatch (handed m c) (label_types g))) (λ u. hand m r gs cs) (λ u. hand m q hs cs)
        (closes_like (opened_in m r gs OfCatch (handed m c) (label_types g)) (opened_in m q hs OfCatch (handed m c) (label_types g)) (opened_like gs hs a OfCatch (handed m c) (label_types g)))
        (λ u v t. hand_like gs hs a cs))

    catching_like : (k : Construct) (o : NamedOperation) (gs hs : NestedFrames T) → FramesAlike gs hs → Like Any (catching m r k o gs) (catching m q k (renamed f o) hs)
    catching_like (TryTable cs) o gs hs a = subst (λ ds. Like Any (hand m r gs (try_table_clauses o.immediates)) (hand m q hs ds)) (sym (same_clauses f o)) (hand_like gs hs a (try_table_clauses o.immediates))
    catching_like _ o gs hs a = tt

    taken_by_like : (k : Construct) (o : NamedOperation) (p s : Point T) → PointAlike p s → Like PointAlike (taken_by m r k o p) (taken_by m q k (renamed f o) s)
    taken_by_like k o p s b =
        subst (λ g. Like PointAlike (taken_by m r k o p) (condition m q k s >>= λ x. pop_all m q g.parameters x)) (sym (same_signature f o))
        (like_bind PointAlike PointAlike (condition m r k p) (condition m q k s) (pop_all m r (block_signature o).parameters) (pop_all m q (block_signature o).parameters) (condition_like k p s b)
        (pop_all_like (block_signature o).parameters))

    opens_like : (k : Construct) (o : NamedOperation) (gs hs : NestedFrames T) → FramesAlike gs hs → Like FramesAlike (opens m r k o gs) (opens m q k (renamed f o) hs)
    opens_like k o gs hs a =
        subst (λ g. Like FramesAlike (opens m r k o gs) (catching m q k (renamed f o) hs >>= λ u. Ok (opened_in m q hs (opened_by k) g.parameters g.results ∷ hs))) (sym (same_signature f o))
        (like_bind Any FramesAlike (catching m r k o gs) (catching m q k (renamed f o) hs) (λ u. Ok (frame_by m r k o gs ∷ gs))
        (λ u. Ok (opened_in m q hs (opened_by k) (block_signature o).parameters (block_signature o).results ∷ hs)) (catching_like k o gs hs a)
        (λ u v t. (opened_like gs hs a (opened_by k) (block_signature o).parameters (block_signature o).results, a)))

    abbrev framed : NestedFrame T → List ℕ → NestedFrame T
    framed g ks = at g (moved ks g.point)

    ends_like : (o : Opened) (g : NestedFrame T) (ks : List ℕ) (gs hs : NestedFrames T) → FramesAlike gs hs → Like Any (ends m r o g gs) (ends m q o (framed g ks) hs)
    ends_like OfIf g ks gs hs a = closes_like (alternative m r g gs) (alternative m q (framed g ks) hs) (opened_like gs hs a OfElse g.start_types g.end_types)
    ends_like _ g ks gs hs a = tt

    next_like : (k : Control) (g : NestedFrame T) (ks : List ℕ) (gs hs : NestedFrames T) → FramesAlike gs hs → Like FramesAlike (next_sequence m r k g gs) (next_sequence m q k (framed g ks) hs)
    next_like Else g ks gs hs a =
        like_same FramesAlike (demand (is_if g.opened)) (λ u. Ok (alternative m r g gs ∷ gs)) (λ u. Ok (alternative m q (framed g ks) hs ∷ hs)) (λ u. (opened_like gs hs a OfElse g.start_types g.end_types, a))
    next_like (Catch tag) g ks gs hs a =
        like_same FramesAlike (demand (may_catch g.opened)) (λ u. Ok (handler m r tag g gs ∷ gs)) (λ u. Ok (handler m q tag (framed g ks) hs ∷ hs))
        (λ u. (opened_like gs hs a OfCatch (m.tag_parameters tag) g.end_types, a))
    next_like CatchAll g ks gs hs a =
        like_same FramesAlike (demand (may_catch g.opened)) (λ u. Ok (handler_of_all m r g gs ∷ gs)) (λ u. Ok (handler_of_all m q (framed g ks) hs ∷ hs)) (λ u. (opened_like gs hs a OfCatchAll [] g.end_types, a))
    next_like End g ks gs hs a =
        like_bind Any FramesAlike (ends m r g.opened g gs) (ends m q g.opened (framed g ks) hs) (λ u. Ok (given m r g.end_types gs)) (λ u. Ok (given m q g.end_types hs)) (ends_like g.opened g ks gs hs a)
        (λ u v t. given_like g.end_types gs hs a)
    next_like (Delegate n) g ks gs hs a =
        like_same FramesAlike (demand (is_try g.opened)) (λ u. label gs n >>= λ x. Ok (given m r g.end_types gs)) (λ u. label hs n >>= λ x. Ok (given m q g.end_types hs)) λ u.
        like_bind FrameAlike FramesAlike (label gs n) (label hs n) (λ x. Ok (given m r g.end_types gs)) (λ x. Ok (given m q g.end_types hs)) (label_like gs hs a n) (λ x y t. given_like g.end_types gs hs a)
    next_like (Does action) g ks gs hs a = tt
    next_like (Opens construct) g ks gs hs a = tt

    closing_like : (k : Control) (g h : NestedFrame T) (gs hs : NestedFrames T) → FrameAlike g h → FramesAlike gs hs
        → Like FramesAlike (closes m r g >>= λ u. next_sequence m r k g gs) (closes m q h >>= λ u. next_sequence m q k h hs)
    closing_like k g h gs hs a b =
        like_bind Any FramesAlike (closes m r g) (closes m q h) (λ u. next_sequence m r k g gs) (λ u. next_sequence m q k h hs) (closes_like g h a)
        (λ u v t. subst (λ x. Like FramesAlike (next_sequence m r k g gs) (next_sequence m q k x hs)) (sym a.1) (next_like k g a.0 gs hs b))

    -- ---- validation

    after_like : (b : Bool) (p s : Point T) → PointAlike p s → PointAlike (if b then unreachable p else p) (if b then unreachable s else s)
    after_like true p s a = (a.0, ap unreachable a.1, a.2)
    after_like false p s a = a

    at_like : (g h : NestedFrame T) → FrameAlike g h → (p s : Point T) → PointAlike p s → FrameAlike (at g p) (at h s)
    at_like g h a p s b = (b.0, ap (λ x. at x s) a.1 ∙ ap (at g) b.1, b.2)

    frame_point : (g h : NestedFrame T) → FrameAlike g h → PointAlike g.point h.point
    frame_point g h a = (a.0, ap (λ (x : NestedFrame T). x.point) a.1, a.2)

    step_like : (k : Control) (o : NamedOperation) → Names Used o → (gs hs : NestedFrames T) → FramesAlike gs hs → Like FramesAlike (step m r k o gs) (step m q k (renamed f o) hs)
    step_like k o u [] [] a = tt
    step_like k o u [] (h ∷ hs) a = absurd a
    step_like k o u (g ∷ gs) [] a = absurd a
    step_like (Does action) o u (g ∷ gs) (h ∷ hs) a =
        like_bind PointAlike FramesAlike (taken m r action o (g ∷ gs) g.point) (taken m q action (renamed f o) (h ∷ hs) h.point) (λ p. Ok (at g (after_action action p) ∷ gs))
        (λ s. Ok (at h (after_action action s) ∷ hs)) (taken_like action o u (g ∷ gs) (h ∷ hs) a g.point h.point (frame_point g h a.0))
        (λ p s b. (at_like g h a.0 (after_action action p) (after_action action s) (after_like (transfers action) p s b), a.1))
    step_like (Opens construct) o u (g ∷ gs) (h ∷ hs) a =
        like_bind PointAlike FramesAlike (taken_by m r construct o g.point) (taken_by m q construct (renamed f o) h.point) (λ p. opens m r construct o (at g p ∷ gs))
        (λ s. opens m q construct (renamed f o) (at h s ∷ hs)) (taken_by_like construct o g.point h.point (frame_point g h a.0))
        (λ p s b. opens_like construct o (at g p ∷ gs) (at h s ∷ hs) (at_like g h a.0 p s b, a.1))
    step_like Else o u (g ∷ gs) (h ∷ hs) a = closing_like Else g h gs hs a.0 a.1
    step_like (Catch tag) o u (g ∷ gs) (h ∷ hs) a = closing_like (Catch tag) g h gs hs a.0 a.1
    step_like CatchAll o u (g ∷ gs) (h ∷ hs) a = closing_like CatchAll g h gs hs a.0 a.1
    step_like End o u (g ∷ gs) (h ∷ hs) a = closing_like End g h gs hs a.0 a.1
    step_like (Delegate n) o u (g ∷ gs) (h ∷ hs) a = closing_like (Delegate n) g h gs hs a.0 a.1

    validate_like : (xs : List (Located NamedOperation)) → AllByRecursion (λ x. Names Used x.op) xs → (gs hs : NestedFrames T) → FramesAlike gs hs
        → Like FramesAlike (validate m r xs gs) (validate m q (map (renamed_at f) xs) hs)
    validate_like [] u gs hs a = a
    validate_like (x ∷ xs) u gs hs a =
        subst (λ k. Like FramesAlike (validate m r (x ∷ xs) gs) (step m q k (renamed f x.op) hs >>= λ y. validate m q (map (renamed_at f) xs) y)) (sym (same_control f x.op))
        (like_bind FramesAlike FramesAlike (step m r (control_of x.op) x.op gs) (step m q (control_of x.op) (renamed f x.op) hs) (λ y. validate m r xs y) (λ y. validate m q (map (renamed_at f) xs) y)
        (step_like (control_of x.op) x.op u.0 gs hs a) (validate_like xs u.1))

    ends_alike : (a b : Checked (NestedFrames T)) → Like FramesAlike a b → a ≡ Ok [] → b ≡ Ok []
    ends_alike (Ok []) (Ok []) h e = refl
    ends_alike (Ok []) (Ok (g ∷ gs)) h e = absurd h
    ends_alike (Ok (g ∷ gs)) b h e = absurd cc
    ends_alike (Ok []) (Err e) h i = absurd h
    ends_alike (Err e) b h i = absurd cc

    pub valid_alike : (results : List (ValType ℕ)) (ls ks : List ℕ) → SameSet ls ks → (xs : List (Located NamedOperation)) → AllByRecursion (λ x. Names Used x.op) xs
        → heights.IsValid m r results ls xs → heights.IsValid m q results ks (map (renamed_at f) xs)
    valid_alike results ls ks s xs u v =
        valid_with_heights m q results ks (map (renamed_at f) xs)
        (ends_alike (validate m r xs (function_frame m r results ls ∷ [])) (validate m q (map (renamed_at f) xs) (function_frame m q results ks ∷ []))
        (validate_like xs u (function_frame m r results ls ∷ []) (function_frame m q results ks ∷ []) ((ks, refl, s), tt)) (valid_by_heights m r results ls xs v))
