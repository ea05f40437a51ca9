-- The validation algorithm, whose frames have heights, and the one whose frames hold their own operands accept the same bodies.
use Rattle.std.proofs.Common.{◌≡◌, ℕ, zero, suc, ◌-◌, List, [], ◌∷◌, ◌++◌, length, reverse, take, drop, Bool, true, false, Option, Ok, Err, refl, sym, ap, ◌∙◌, subst, arith, eq-eqb, length-append, append_assoc, append-nil}
use Rattle.std.specs.Prelude.{nat_eq, if◌then◌else◌}
use Rattle.std.proofs.Math.Seq.{take-append_seam, drop-append_seam}
use Rattle.std.proofs.lemmas.Bool.Decides.{nat_tests}
use Rattle.wasm_types.specs.declared.val_type.ValType.{ValType}
use Rattle.wasm_numbers.specs.Results.{◌>>=◌}
use Rattle.wasm_operators.specs.Operations.{CatchClause}
use Rattle.wasm_body.specs.Control.{Action, Nop, Plain, Branch, ConditionalBranch, TableBranch, Return, Unreachable, Throw, ThrowRef, Rethrow, TailCall, Construct, If, TryTable, Control, Does, Opens, Else, Catch, CatchAll, End, Delegate, control_of}
use Rattle.wasm_body.specs.Translation.{Located}
use Rattle.wasm_body.specs.Naming.{NamedOperation, block_signature}
use Rattle.wasm_body.specs.NormalForm.{Typing}
use Rattle.wasm_body.specs.Validity.{Operand, Unknown, Known, Point, Change, Opened, OfLoop, OfIf, OfElse, OfCatch, OfCatchAll, OperandRules, Checked, demand, required, i32, exnref, opened_by, is_if, is_try, may_catch, is_catch, transfers, try_table_clauses, handed, unset, set_locals, push_each, ControlFrame, Stacks, State, state, above, up_to}
use Rattle.wasm_body.specs.Validity as heights
use Rattle.wasm_body.proofs.Validity.NestedFrames.{NestedFrame, NestedFrames, none, at, initialised_in, label, label_types, results, changed, unreachable, after_action, pop, pop_each, pop_all, opened_in, closes, given, targets, taken, condition, hand, catching, taken_by, frame_by, opens, alternative, handler, handler_of_all, ends, next_sequence, step, validate, function_frame, IsValid}

-- ---- results that are alike

abbrev Like : {X Y : Type 0} → (X → Y → Type 0) → Checked X → Checked Y → Type 0
Like R (Ok x) (Ok y) = R x y
Like R (Err e) (Err d) = Unit {0}
Like R _ _ = ⊥

like_bind : {X Y P Q : Type 0} → (R : X → Y → Type 0) (S : P → Q → Type 0) (a : Checked X) (b : Checked Y) (k : X → Checked P) (l : Y → Checked Q) → Like R a b
    → ((x : X) (y : Y) → R x y → Like S (k x) (l y)) → Like S (a >>= k) (b >>= l)
like_bind R S (Ok x) (Ok y) k l h f = f x y h
like_bind R S (Err e) (Err d) k l h f = tt
like_bind R S (Ok x) (Err d) k l h f = absurd h
like_bind R S (Err e) (Ok y) k l h f = absurd h

-- the same first result, and what follows it
like_same : {X P Q : Type 0} → (S : P → Q → Type 0) (a : Checked X) (k : X → Checked P) (l : X → Checked Q) → ((x : X) → Like S (k x) (l x)) → Like S (a >>= k) (a >>= l)
like_same S (Ok x) k l f = f x
like_same S (Err e) k l f = tt

like_map : {X Y P : Type 0} → (R : X → Y → Type 0) (S : P → Y → Type 0) (a : Checked X) (b : Checked Y) (g : X → P) → Like R a b → ((x : X) (y : Y) → R x y → S (g x) y)
    → Like S (a >>= λ x. Ok (g x)) b
like_map R S (Ok x) (Ok y) g h f = f x y h
like_map R S (Err e) (Err d) g h f = tt
like_map R S (Ok x) (Err d) g h f = absurd h
like_map R S (Err e) (Ok y) g h f = absurd h

-- ---- heights

at_height : {X : Type 0} → (b : List X) → nat_eq (length b) (length b) ≡ true
at_height b = eq-eqb (length b) (length b) refl

over_height : {X : Type 0} → (x : X) (a b : List X) → nat_eq (length (x ∷ (a ++ b))) (length b) ≡ false
over_height x a b = let e = length-append a b in grind (arith, nat_tests)

above_height : {X : Type 0} → (a b : List X) → above (length b) (a ++ b) ≡ a
above_height a b =
    let e : length (a ++ b) - length b ≡ length a = omega (arith, length-append a b) in
    ap (λ n. take n (a ++ b)) e ∙ take-append_seam a b

up_to_height : {X : Type 0} → (a b : List X) → up_to (length b) (a ++ b) ≡ b
up_to_height a b =
    let e : length (a ++ b) - length b ≡ length a = omega (arith, length-append a b) in
    ap (λ n. drop n (a ++ b)) e ∙ drop-append_seam a b

-- ---- the stacks of frames

abbrev operands_of : {T : Type 0} → NestedFrames T → List (Operand T)
operands_of [] = []
operands_of (f ∷ fs) = f.point.operands ++ operands_of fs

abbrev control_in : {T : Type 0} → NestedFrames T → NestedFrame T → ControlFrame
control_in fs f = record {
  opened = f.opened;
  start_types = f.start_types;
  end_types = f.end_types;
  height = length (operands_of fs);
  locals_height = length (initialised_in fs);
  unreachable = f.point.unreachable;
}

abbrev controls_of : {T : Type 0} → NestedFrames T → List ControlFrame
controls_of [] = []
controls_of (f ∷ fs) = control_in fs f ∷ controls_of fs

abbrev stacks_of : {T : Type 0} → NestedFrames T → Stacks T
stacks_of fs = record { operands = operands_of fs; initialised = initialised_in fs }

abbrev state_of : {T : Type 0} → NestedFrames T → State T
state_of fs = state (stacks_of fs) (controls_of fs)

-- Each frame has the locals of the one around it, and more.
abbrev Nested : {T : Type 0} → NestedFrames T → Type 0
Nested [] = Unit {0}
Nested (f ∷ fs) = ((new : List ℕ) × (f.point.initialised ≡ new ++ initialised_in fs)) × Nested fs

abbrev IsStateOf : {T : Type 0} → State T → NestedFrames T → Type 0
IsStateOf s fs = (s ≡ state_of fs) × Nested fs

-- ---- labels

abbrev Names : {T : Type 0} → ControlFrame → NestedFrame T → Type 0
Names {T} c f = (fs : NestedFrames T) × (c ≡ control_in fs f)

label_like : {T : Type 0} → (fs : NestedFrames T) (n : ℕ) → Like Names (heights.labelled_frame (controls_of fs) n) (label fs n)
label_like [] n = tt
label_like (f ∷ fs) zero = (fs, refl)
label_like (f ∷ fs) (suc n) = label_like fs n

types_by_like : {T : Type 0} → (o : Opened) (fs : NestedFrames T) (f : NestedFrame T) → heights.types_by o (control_in fs f) ≡ label_types (record f { opened = o })
types_by_like OfLoop fs f = refl
types_by_like _ fs f = refl

types_like : {T : Type 0} → (c : ControlFrame) (f : NestedFrame T) → Names c f → heights.label_types c ≡ label_types f
types_like c f h = ap heights.label_types h.1 ∙ types_by_like f.opened h.0 f

opened_like : {T : Type 0} → (c : ControlFrame) (f : NestedFrame T) → Names c f → c.opened ≡ f.opened
opened_like c f h = ap (λ d. d.opened) h.1

results_like : {T : Type 0} → (fs : NestedFrames T) → heights.results (controls_of fs) ≡ results fs
results_like [] = refl
results_like (f ∷ []) = refl
results_like (f ∷ g ∷ fs) = results_like (g ∷ fs)

module _ {T : Type 0} (m : Typing) (r : OperandRules T) where
  -- ---- operands above the height of the frame f in fs

  -- These operands are those of the point, above the height; else the point is the frame's.
  record Above (fs : NestedFrames T) (f : NestedFrame T) (xs : List (Operand T)) (p : Point T) : Type 0 where
    held : List (Operand T)
    operands : xs ≡ held ++ operands_of fs
    point : p ≡ record f.point { operands = held }

  above_is : (fs : NestedFrames T) (f : NestedFrame T) (a : List (Operand T)) → Above fs f (a ++ operands_of fs) (record f.point { operands = a })
  above_is fs f a = record { held = a; operands = refl; point = refl }

  pop_at : (fs : NestedFrames T) (f : NestedFrame T) (t : ValType ℕ) (a : List (Operand T))
      → Like (Above fs f) (heights.pop m r (control_in fs f) t (a ++ operands_of fs)) (pop m r t (record f.point { operands = a }))
  pop_at fs f t [] =
      let o = at_height (operands_of fs) in
      rw o (like_same (Above fs f) (demand f.point.unreachable) (λ v. Ok (operands_of fs)) (λ v. Ok (record f.point { operands = [] })) (λ v. above_is fs f []))
  pop_at fs f t (Unknown ∷ a) = let o = over_height (let x : Operand T = Unknown in x) a (operands_of fs) in rw o (above_is fs f a)
  pop_at fs f t (Known x ∷ a) =
      let o = over_height (Known x) a (operands_of fs) in
      rw o (like_same (Above fs f) (demand (r.matches x t)) (λ v. Ok (a ++ operands_of fs)) (λ v. Ok (record f.point { operands = a })) (λ v. above_is fs f a))

  pop_like : (fs : NestedFrames T) (f : NestedFrame T) (t : ValType ℕ) (xs : List (Operand T)) (p : Point T) → Above fs f xs p
      → Like (Above fs f) (heights.pop m r (control_in fs f) t xs) (pop m r t p)
  pop_like fs f t xs p e =
      subst (λ ys. Like (Above fs f) (heights.pop m r (control_in fs f) t ys) (pop m r t p)) (sym e.operands)
      (subst (λ q. Like (Above fs f) (heights.pop m r (control_in fs f) t (e.held ++ operands_of fs)) (pop m r t q)) (sym e.point) (pop_at fs f t e.held))

  pop_each_like : (fs : NestedFrames T) (f : NestedFrame T) (ts : List (ValType ℕ)) (xs : List (Operand T)) (p : Point T) → Above fs f xs p
      → Like (Above fs f) (heights.pop_each m r (control_in fs f) ts xs) (pop_each m r ts p)
  pop_each_like fs f [] xs p e = e
  pop_each_like fs f (t ∷ ts) xs p e =
      like_bind (Above fs f) (Above fs f) (heights.pop m r (control_in fs f) t xs) (pop m r t p) (heights.pop_each m r (control_in fs f) ts) (pop_each m r ts)
      (pop_like fs f t xs p e) (pop_each_like fs f ts)

  pop_all_like : (fs : NestedFrames T) (f : NestedFrame T) (ts : List (ValType ℕ)) (xs : List (Operand T)) (p : Point T) → Above fs f xs p
      → Like (Above fs f) (heights.pop_all m r (control_in fs f) ts xs) (pop_all m r ts p)
  pop_all_like fs f ts = pop_each_like fs f (reverse ts)

  push_above : (ts : List (ValType ℕ)) (a b : List (Operand T)) → push_each m r ts (a ++ b) ≡ push_each m r ts a ++ b
  push_above [] a b = refl
  push_above (t ∷ ts) a b = push_above ts (Known (r.type_of t) ∷ a) b

  -- ---- frames that open and close

  pushes_control : (fs : NestedFrames T) → Nested fs → (o : Opened) (ins outs : List (ValType ℕ)) → IsStateOf (heights.push_control m r o ins outs (stacks_of fs) (controls_of fs)) (opened_in m r fs o ins outs ∷ fs)
  pushes_control fs h o ins outs =
      (ap (λ xs. state (record { operands = xs; initialised = initialised_in fs }) (heights.control m r (stacks_of fs) o ins outs ∷ controls_of fs)) (push_above ins [] (operands_of fs)), (([], refl), h))

  -- what is left when a frame's types are popped, and none is above the height
  closed : (fs : NestedFrames T) (ls new : List ℕ) (xs : List (Operand T)) (a : List (Operand T)) → xs ≡ a ++ operands_of fs → ls ≡ new ++ initialised_in fs
      → Like (λ s (u : Unit {0}). s ≡ stacks_of fs)
      (demand (nat_eq (length xs) (length (operands_of fs))) >>= λ u. Ok (record { operands = xs; initialised = up_to (length (initialised_in fs)) ls })) (demand (none a))
  closed fs ls new xs [] e n =
      let o = at_height (operands_of fs) in
      rw (e, o) (ap (λ l. record { operands = operands_of fs; initialised = l }) (ap (up_to (length (initialised_in fs))) n ∙ up_to_height new (initialised_in fs)))
  closed fs ls new xs (x ∷ a) e n = let o = over_height x a (operands_of fs) in rw (e, o) tt

  pops_control : (f : NestedFrame T) (fs : NestedFrames T) → Nested (f ∷ fs) → Like (λ s u. s ≡ stacks_of fs) (heights.pop_control m r (control_in fs f) (stacks_of (f ∷ fs))) (closes m r f)
  pops_control f fs h =
      let c = control_in fs f in
      like_bind (Above fs f) (λ s u. s ≡ stacks_of fs) (heights.pop_all m r c f.end_types (operands_of (f ∷ fs))) (pop_all m r f.end_types f.point)
      (λ xs. demand (nat_eq (length xs) c.height) >>= λ u. Ok (record { operands = xs; initialised = up_to c.locals_height f.point.initialised })) (λ p. demand (none p.operands))
      (pop_all_like fs f f.end_types (operands_of (f ∷ fs)) f.point (above_is fs f f.point.operands))
      (λ xs p e. subst (λ q. Like (λ s u. s ≡ stacks_of fs) (demand (nat_eq (length xs) c.height) >>= λ u. Ok (record { operands = xs; initialised = up_to c.locals_height f.point.initialised })) (demand (none q.operands)))
      (sym e.point) (closed fs f.point.initialised h.0.0 xs e.held e.operands h.0.1))

  -- ---- operators that neither open nor close, in the frame f of fs

  -- the stacks are those of the frame at the point
  record Holds (fs : NestedFrames T) (f : NestedFrame T) (s : Stacks T) (q : Point T) : Type 0 where
    stacks : s ≡ stacks_of (at f q ∷ fs)
    unreachable : q.unreachable ≡ f.point.unreachable
    new : List ℕ
    nested : q.initialised ≡ new ++ initialised_in fs

  module _ (fs : NestedFrames T) (f : NestedFrame T) (h : Nested (f ∷ fs)) where
    abbrev c : ControlFrame
    c = control_in fs f

    abbrev here : Stacks T
    here = stacks_of (f ∷ fs)

    holds_same : Holds fs f here f.point
    holds_same = record { stacks = refl; unreachable = refl; new = h.0.0; nested = h.0.1 }

    holds_above : (xs : List (Operand T)) (p : Point T) → Above fs f xs p → Holds fs f (record { operands = xs; initialised = f.point.initialised }) p
    holds_above xs p e = record {
      stacks = ap (λ ys. record { operands = ys; initialised = f.point.initialised }) e.operands ∙ sym (ap (λ q. stacks_of (at f q ∷ fs)) e.point);
      unreachable = ap (λ q. q.unreachable) e.point;
      new = h.0.0;
      nested = ap (λ q. q.initialised) e.point ∙ h.0.1;
    }

    above_here : Above fs f (operands_of (f ∷ fs)) f.point
    above_here = above_is fs f f.point.operands

    point_like : heights.point m r c here ≡ f.point
    point_like = ap (λ xs. record f.point { operands = xs }) (above_height f.point.operands (operands_of fs))

    changed_like : (k : Change T) → Holds fs f (heights.changed m r c k here) (changed k f.point)
    changed_like k = record {
      stacks = ap (λ xs. record { operands = k.operands ++ xs; initialised = set_locals k.initialises f.point.initialised }) (up_to_height f.point.operands (operands_of fs));
      unreachable = refl;
      new = unset k.initialises f.point.initialised ++ h.0.0;
      nested = let ns = unset k.initialises f.point.initialised in ap (λ l. ns ++ l) h.0.1 ∙ sym (append_assoc ns h.0.0 (initialised_in fs));
    }

    required_like : (change_of : Point T → Option (Change T))
        → Like (Holds fs f) (required (change_of (heights.point m r c here)) >>= λ k. Ok (heights.changed m r c k here)) (required (change_of f.point) >>= λ k. Ok (changed k f.point))
    required_like change_of =
        let to : Change T → Checked (Stacks T) = λ k. Ok (heights.changed m r c k here) in
        let on : Change T → Checked (Point T) = λ k. Ok (changed k f.point) in
        subst (λ p. Like (Holds fs f) (required (change_of p) >>= to) (required (change_of f.point) >>= on)) (sym point_like) (like_same (Holds fs f) (required (change_of f.point)) to on changed_like)

    popping_like : (ts : List (ValType ℕ)) (xs : List (Operand T)) (p : Point T) → Above fs f xs p
        → Like (Holds fs f) (heights.popping m r c ts (record { operands = xs; initialised = f.point.initialised })) (pop_all m r ts p)
    popping_like ts xs p e =
        like_map (Above fs f) (Holds fs f) (heights.pop_all m r c ts xs) (pop_all m r ts p) (λ ys. record { operands = ys; initialised = f.point.initialised })
        (pop_all_like fs f ts xs p e) holds_above

    abbrev Both : Unit {0} → Unit {0} → Type 0
    Both u v = Unit {0}

    targets_like : (xs : List (Operand T)) (p : Point T) → Above fs f xs p → (arity : ℕ) (ns : List ℕ)
        → Like Both (heights.targets m r c (controls_of (f ∷ fs)) xs arity ns) (targets m r (f ∷ fs) p arity ns)
    targets_like xs p e arity [] = tt
    targets_like xs p e arity (n ∷ ns) =
        let rest : List (Operand T) → Checked (Unit {0}) = λ q. heights.targets m r c (controls_of (f ∷ fs)) xs arity ns in
        let on : Point T → Checked (Unit {0}) = λ q. targets m r (f ∷ fs) p arity ns in
        like_bind Names Both (heights.labelled_frame (controls_of (f ∷ fs)) n) (label (f ∷ fs) n)
        (λ d. demand (nat_eq (length (heights.label_types d)) arity) >>= λ u. heights.pop_all m r c (heights.label_types d) xs >>= rest)
        (λ g. demand (nat_eq (length (label_types g)) arity) >>= λ u. pop_all m r (label_types g) p >>= on)
        (label_like (f ∷ fs) n)
        (λ d g w.
        subst (λ ts. Like Both (demand (nat_eq (length ts) arity) >>= λ u. heights.pop_all m r c ts xs >>= rest) (demand (nat_eq (length (label_types g)) arity) >>= λ u. pop_all m r (label_types g) p >>= on))
        (sym (types_like d g w))
        (like_same Both (demand (nat_eq (length (label_types g)) arity)) (λ u. heights.pop_all m r c (label_types g) xs >>= rest) (λ u. pop_all m r (label_types g) p >>= on)
        (λ u. like_bind (Above fs f) Both (heights.pop_all m r c (label_types g) xs) (pop_all m r (label_types g) p) rest on (pop_all_like fs f (label_types g) xs p e)
        (λ ys q i. targets_like xs p e arity ns))))

    taken_like : (action : Action) (o : NamedOperation) → Like (Holds fs f) (heights.taken m r action o c (controls_of (f ∷ fs)) here) (taken m r action o (f ∷ fs) f.point)
    taken_like Nop o = holds_same
    taken_like Plain o = required_like (r.plain o)
    taken_like (Branch n) o =
        like_bind Names (Holds fs f) (heights.labelled_frame (controls_of (f ∷ fs)) n) (label (f ∷ fs) n) (λ d. heights.popping m r c (heights.label_types d) here) (λ g. pop_all m r (label_types g) f.point)
        (label_like (f ∷ fs) n) λ d g w.
        subst (λ ts. Like (Holds fs f) (heights.popping m r c ts here) (pop_all m r (label_types g) f.point)) (sym (types_like d g w)) (popping_like (label_types g) (operands_of (f ∷ fs)) f.point above_here)
    taken_like (ConditionalBranch n) o =
        let to : Change T → Checked (Stacks T) = λ k. Ok (heights.changed m r c k here) in
        let on : Change T → Checked (Point T) = λ k. Ok (changed k f.point) in
        like_bind Names (Holds fs f) (heights.labelled_frame (controls_of (f ∷ fs)) n) (label (f ∷ fs) n)
        (λ d. required (r.conditional o (heights.label_types d) (heights.point m r c here)) >>= to) (λ g. required (r.conditional o (label_types g) f.point) >>= on) (label_like (f ∷ fs) n) λ d g w.
        subst (λ ts. Like (Holds fs f) (required (r.conditional o ts (heights.point m r c here)) >>= to) (required (r.conditional o (label_types g) f.point) >>= on)) (sym (types_like d g w))
        (required_like (r.conditional o (label_types g)))
    taken_like (TableBranch ns n) o =
        let to : List (Operand T) → List (ValType ℕ) → Checked (Stacks T) = λ xs ts. heights.popping m r c ts (record { operands = xs; initialised = f.point.initialised }) in
        let on : Point T → List (ValType ℕ) → Checked (Point T) = λ p ts. pop_all m r ts p in
        like_bind (Above fs f) (Holds fs f) (heights.pop m r c i32 (operands_of (f ∷ fs))) (pop m r i32 f.point)
        (λ xs. heights.labelled_frame (controls_of (f ∷ fs)) n >>= λ d. heights.targets m r c (controls_of (f ∷ fs)) xs (length (heights.label_types d)) ns >>= λ u. to xs (heights.label_types d))
        (λ p. label (f ∷ fs) n >>= λ g. targets m r (f ∷ fs) p (length (label_types g)) ns >>= λ u. on p (label_types g))
        (pop_like fs f i32 (operands_of (f ∷ fs)) f.point above_here) λ xs p e.
        like_bind Names (Holds fs f) (heights.labelled_frame (controls_of (f ∷ fs)) n) (label (f ∷ fs) n)
        (λ d. heights.targets m r c (controls_of (f ∷ fs)) xs (length (heights.label_types d)) ns >>= λ u. to xs (heights.label_types d))
        (λ g. targets m r (f ∷ fs) p (length (label_types g)) ns >>= λ u. on p (label_types g))
        (label_like (f ∷ fs) n) λ d g w.
        subst (λ ts. Like (Holds fs f) (heights.targets m r c (controls_of (f ∷ fs)) xs (length ts) ns >>= λ u. to xs ts) (targets m r (f ∷ fs) p (length (label_types g)) ns >>= λ u. on p (label_types g)))
        (sym (types_like d g w))
        (like_bind Both (Holds fs f) (heights.targets m r c (controls_of (f ∷ fs)) xs (length (label_types g)) ns) (targets m r (f ∷ fs) p (length (label_types g)) ns)
        (λ u. to xs (label_types g)) (λ u. on p (label_types g)) (targets_like xs p e (length (label_types g)) ns) (λ u v i. popping_like (label_types g) xs p e))
    taken_like Return o =
        subst (λ ts. Like (Holds fs f) (heights.popping m r c ts here) (pop_all m r (results (f ∷ fs)) f.point)) (sym (results_like (f ∷ fs)))
        (popping_like (results (f ∷ fs)) (operands_of (f ∷ fs)) f.point above_here)
    taken_like Unreachable o = holds_same
    taken_like (Throw tag) o = popping_like (m.tag_parameters tag) (operands_of (f ∷ fs)) f.point above_here
    taken_like ThrowRef o =
        like_map (Above fs f) (Holds fs f) (heights.pop m r c exnref (operands_of (f ∷ fs))) (pop m r exnref f.point) (λ ys. record { operands = ys; initialised = f.point.initialised })
        (pop_like fs f exnref (operands_of (f ∷ fs)) f.point above_here) holds_above
    taken_like (Rethrow n) o =
        like_bind Names (Holds fs f) (heights.labelled_frame (controls_of (f ∷ fs)) n) (label (f ∷ fs) n) (λ d. demand (is_catch d.opened) >>= λ u. Ok here) (λ g. demand (is_catch g.opened) >>= λ u. Ok f.point)
        (label_like (f ∷ fs) n) λ d g w.
        subst (λ x. Like (Holds fs f) (demand (is_catch x) >>= λ u. Ok here) (demand (is_catch g.opened) >>= λ u. Ok f.point)) (sym (opened_like d g w))
        (like_same (Holds fs f) (demand (is_catch g.opened)) (λ u. Ok here) (λ u. Ok f.point) (λ u. holds_same))
    taken_like TailCall o =
        let to : Unit {0} → Checked (Stacks T) = λ u. Ok here in
        let on : Unit {0} → Checked (Point T) = λ u. Ok f.point in
        subst (λ p. Like (Holds fs f) (demand (r.tail_call o (heights.results (controls_of (f ∷ fs))) p) >>= to) (demand (r.tail_call o (results (f ∷ fs)) f.point) >>= on)) (sym point_like)
        (subst (λ ts. Like (Holds fs f) (demand (r.tail_call o ts f.point) >>= to) (demand (r.tail_call o (results (f ∷ fs)) f.point) >>= on)) (sym (results_like (f ∷ fs)))
        (like_same (Holds fs f) (demand (r.tail_call o (results (f ∷ fs)) f.point)) to on (λ u. holds_same)))

    -- the state of the frame at a point
    state_at : (s : Stacks T) (q : Point T) → Holds fs f s q → IsStateOf (state s (c ∷ controls_of fs)) (at f q ∷ fs)
    state_at s q e = (
      ap (λ t. state t (c ∷ controls_of fs)) e.stacks
          ∙ ap (λ u. state (stacks_of (at f q ∷ fs)) (record c { unreachable = u } ∷ controls_of fs)) (sym e.unreachable),
      ((e.new, e.nested), h.1),
    )

    unreachable_at : (s : Stacks T) (q : Point T) → Holds fs f s q → IsStateOf (heights.unreachable m r c s (controls_of fs)) (at f (unreachable q) ∷ fs)
    unreachable_at s q e = (
      ap (λ t. heights.unreachable m r c t (controls_of fs)) e.stacks
          ∙ ap (λ xs. state (record { operands = xs; initialised = q.initialised }) (record c { unreachable = true } ∷ controls_of fs)) (up_to_height q.operands (operands_of fs)),
      ((e.new, e.nested), h.1),
    )

    after_by : (b : Bool) (s : Stacks T) (q : Point T) → Holds fs f s q
        → IsStateOf (if b then heights.unreachable m r c s (controls_of fs) else state s (c ∷ controls_of fs)) (at f (if b then unreachable q else q) ∷ fs)
    after_by true = unreachable_at
    after_by false = state_at

    -- ---- an operator that opens a construct

    condition_like : (construct : Construct) → Like (Above fs f) (heights.condition m r construct c (operands_of (f ∷ fs))) (condition m r construct f.point)
    condition_like If = pop_like fs f i32 (operands_of (f ∷ fs)) f.point above_here
    condition_like _ = above_here

    taken_by_like : (construct : Construct) (o : NamedOperation) → Like (Holds fs f) (heights.taken_by m r construct o c here) (taken_by m r construct o f.point)
    taken_by_like construct o =
        like_bind (Above fs f) (Holds fs f) (heights.condition m r construct c (operands_of (f ∷ fs))) (condition m r construct f.point)
        (λ xs. heights.popping m r c (block_signature o).parameters (record { operands = xs; initialised = f.point.initialised })) (pop_all m r (block_signature o).parameters) (condition_like construct)
        (popping_like (block_signature o).parameters)

  module _ (fs : NestedFrames T) (h : Nested fs) where
    abbrev Same : Stacks T → Unit {0} → Type 0
    Same s u = s ≡ stacks_of fs

    hand_like : (ks : List (CatchClause ℕ)) → Like (λ (u v : Unit {0}). Unit {0}) (heights.hand m r (controls_of fs) (stacks_of fs) ks) (hand m r fs ks)
    hand_like [] = tt
    hand_like (k ∷ ks) =
        let Both : Unit {0} → Unit {0} → Type 0 = λ u v. Unit {0} in
        let pushed : List (Operand T) → List (ValType ℕ) → Checked (Stacks T) = λ xs ts.
        heights.pop_control m r (heights.control m r (stacks_of fs) OfCatch (handed m k) ts) (record { operands = xs; initialised = initialised_in fs }) in
        let to : Stacks T → Checked (Unit {0}) = λ t. heights.hand m r (controls_of fs) (stacks_of fs) ks in
        let on : Unit {0} → Checked (Unit {0}) = λ u. hand m r fs ks in
        like_bind Names Both (heights.labelled_frame (controls_of fs) k.label) (label fs k.label)
        (λ d. pushed (push_each m r (handed m k) (operands_of fs)) (heights.label_types d) >>= to)
        (λ g. closes m r (opened_in m r fs OfCatch (handed m k) (label_types g)) >>= on) (label_like fs k.label) λ d g w.
        subst (λ ts. Like Both (pushed (push_each m r (handed m k) (operands_of fs)) ts >>= to) (closes m r (opened_in m r fs OfCatch (handed m k) (label_types g)) >>= on)) (sym (types_like d g w))
        (subst (λ xs. Like Both (pushed xs (label_types g) >>= to) (closes m r (opened_in m r fs OfCatch (handed m k) (label_types g)) >>= on)) (sym (push_above (handed m k) [] (operands_of fs)))
        (like_bind Same Both (pushed (push_each m r (handed m k) [] ++ operands_of fs) (label_types g)) (closes m r (opened_in m r fs OfCatch (handed m k) (label_types g))) to on
        (pops_control (opened_in m r fs OfCatch (handed m k) (label_types g)) fs (([], refl), h)) (λ s u e. hand_like ks)))

    catching_like : (construct : Construct) (o : NamedOperation) → Like (λ (u v : Unit {0}). Unit {0}) (heights.checks_catches m r construct o (controls_of fs) (stacks_of fs)) (catching m r construct o fs)
    catching_like (TryTable ks) o = hand_like (try_table_clauses o.immediates)
    catching_like _ o = tt

    opens_like : (construct : Construct) (o : NamedOperation) → Like IsStateOf (heights.opens m r construct o (stacks_of fs) (controls_of fs)) (opens m r construct o fs)
    opens_like construct o =
        like_bind (λ (u v : Unit {0}). Unit {0}) IsStateOf (heights.checks_catches m r construct o (controls_of fs) (stacks_of fs)) (catching m r construct o fs)
        (λ u. Ok (heights.push_control m r (opened_by construct) (block_signature o).parameters (block_signature o).results (stacks_of fs) (controls_of fs))) (λ u. Ok (frame_by m r construct o fs ∷ fs))
        (catching_like construct o) (λ u v e. pushes_control fs h (opened_by construct) (block_signature o).parameters (block_signature o).results)

    -- ---- operators that part or close a construct

    given_like : (ts : List (ValType ℕ)) → IsStateOf (heights.given m r ts (stacks_of fs) (controls_of fs)) (given m r ts fs)
    given_like ts = by fs h where
      by : (gs : NestedFrames T) → Nested gs → IsStateOf (heights.given m r ts (stacks_of gs) (controls_of gs)) (given m r ts gs)
      by [] i = (refl, tt)
      by (g ∷ gs) i = (ap (λ xs. state (record { operands = xs; initialised = g.point.initialised }) (controls_of (g ∷ gs))) (push_above ts g.point.operands (operands_of gs)), i)

    ends_like : (o : Opened) (f : NestedFrame T) → Like Same (heights.checks_end m r o (control_in fs f) (stacks_of fs)) (ends m r o f fs)
    ends_like OfIf f =
        subst (λ xs. Like Same (heights.pop_control m r (control_in fs (alternative m r f fs)) (record { operands = xs; initialised = initialised_in fs })) (closes m r (alternative m r f fs)))
        (sym (push_above f.start_types [] (operands_of fs))) (pops_control (alternative m r f fs) fs (([], refl), h))
    ends_like _ f = refl

    next_sequence_like : (k : Control) (f : NestedFrame T) → Like IsStateOf (heights.next_sequence m r k (control_in fs f) (stacks_of fs) (controls_of fs)) (next_sequence m r k f fs)
    next_sequence_like Else f =
        like_same IsStateOf (demand (is_if f.opened)) (λ u. Ok (heights.push_control m r OfElse f.start_types f.end_types (stacks_of fs) (controls_of fs))) (λ u. Ok (alternative m r f fs ∷ fs))
        (λ u. pushes_control fs h OfElse f.start_types f.end_types)
    next_sequence_like (Catch tag) f =
        like_same IsStateOf (demand (may_catch f.opened)) (λ u. Ok (heights.push_control m r OfCatch (m.tag_parameters tag) f.end_types (stacks_of fs) (controls_of fs))) (λ u. Ok (handler m r tag f fs ∷ fs))
        (λ u. pushes_control fs h OfCatch (m.tag_parameters tag) f.end_types)
    next_sequence_like CatchAll f =
        like_same IsStateOf (demand (may_catch f.opened)) (λ u. Ok (heights.push_control m r OfCatchAll [] f.end_types (stacks_of fs) (controls_of fs))) (λ u. Ok (handler_of_all m r f fs ∷ fs))
        (λ u. pushes_control fs h OfCatchAll [] f.end_types)
    next_sequence_like End f =
        like_bind Same IsStateOf (heights.checks_end m r f.opened (control_in fs f) (stacks_of fs)) (ends m r f.opened f fs)
        (λ t. Ok (heights.given m r f.end_types t (controls_of fs))) (λ u. Ok (given m r f.end_types fs)) (ends_like f.opened f)
        (λ t u e. subst (λ x. IsStateOf (heights.given m r f.end_types x (controls_of fs)) (given m r f.end_types fs)) (sym e) (given_like f.end_types))
    next_sequence_like (Delegate n) f =
        like_same IsStateOf (demand (is_try f.opened)) (λ u. heights.labelled_frame (controls_of fs) n >>= λ d. Ok (heights.given m r f.end_types (stacks_of fs) (controls_of fs)))
        (λ u. label fs n >>= λ g. Ok (given m r f.end_types fs)) λ u.
        like_bind Names IsStateOf (heights.labelled_frame (controls_of fs) n) (label fs n) (λ d. Ok (heights.given m r f.end_types (stacks_of fs) (controls_of fs))) (λ g. Ok (given m r f.end_types fs))
        (label_like fs n) (λ d g w. given_like f.end_types)
    next_sequence_like (Does action) f = tt
    next_sequence_like (Opens construct) f = tt

  -- ---- operators

  closing_like : (k : Control) (f : NestedFrame T) (fs : NestedFrames T) → Nested (f ∷ fs)
      → Like IsStateOf (heights.pop_control m r (control_in fs f) (stacks_of (f ∷ fs)) >>= λ t. heights.next_sequence m r k (control_in fs f) t (controls_of fs)) (closes m r f >>= λ u. next_sequence m r k f fs)
  closing_like k f fs h =
      like_bind (λ s (u : Unit {0}). s ≡ stacks_of fs) IsStateOf (heights.pop_control m r (control_in fs f) (stacks_of (f ∷ fs))) (closes m r f)
      (λ t. heights.next_sequence m r k (control_in fs f) t (controls_of fs)) (λ u. next_sequence m r k f fs) (pops_control f fs h)
      (λ t u e. subst (λ x. Like IsStateOf (heights.next_sequence m r k (control_in fs f) x (controls_of fs)) (next_sequence m r k f fs)) (sym e) (next_sequence_like fs h.1 k f))

  step_like : (k : Control) (o : NamedOperation) (fs : NestedFrames T) → Nested fs → Like IsStateOf (heights.step_in m r k o (stacks_of fs) (controls_of fs)) (step m r k o fs)
  step_like k o [] h = tt
  step_like (Does action) o (f ∷ fs) h =
      like_bind (Holds fs f) IsStateOf (heights.taken m r action o (control_in fs f) (controls_of (f ∷ fs)) (stacks_of (f ∷ fs))) (taken m r action o (f ∷ fs) f.point)
      (λ t. Ok (heights.after_action m r action (control_in fs f) t (controls_of fs))) (λ p. Ok (at f (after_action action p) ∷ fs)) (taken_like fs f h action o) (after_by fs f h (transfers action))
  step_like (Opens construct) o (f ∷ fs) h =
      like_bind (Holds fs f) IsStateOf (heights.taken_by m r construct o (control_in fs f) (stacks_of (f ∷ fs))) (taken_by m r construct o f.point)
      (λ t. heights.opens m r construct o t (controls_of (f ∷ fs))) (λ p. opens m r construct o (at f p ∷ fs)) (taken_by_like fs f h construct o) λ t q e.
      let gs = at f q ∷ fs in
      let s = state_at fs f h t q e in
      subst (λ x. Like IsStateOf (heights.opens m r construct o x.stacks x.controls) (opens m r construct o gs)) (sym s.0) (opens_like gs s.1 construct o)
  step_like Else o (f ∷ fs) h = closing_like Else f fs h
  step_like (Catch t) o (f ∷ fs) h = closing_like (Catch t) f fs h
  step_like CatchAll o (f ∷ fs) h = closing_like CatchAll f fs h
  step_like End o (f ∷ fs) h = closing_like End f fs h
  step_like (Delegate n) o (f ∷ fs) h = closing_like (Delegate n) f fs h

  validate_like : (xs : List (Located NamedOperation)) (fs : NestedFrames T) → Nested fs → Like IsStateOf (heights.validate m r xs (state_of fs)) (validate m r xs fs)
  validate_like [] fs h = (refl, h)
  validate_like (x ∷ xs) fs h =
      like_bind IsStateOf IsStateOf (heights.step_in m r (control_of x.op) x.op (stacks_of fs) (controls_of fs)) (step m r (control_of x.op) x.op fs) (heights.validate m r xs) (validate m r xs)
      (step_like (control_of x.op) x.op fs h)
      (λ s gs e. subst (λ t. Like IsStateOf (heights.validate m r xs t) (validate m r xs gs)) (sym e.0) (validate_like xs gs e.1))

  -- ---- bodies

  body_like : (rs : List (ValType ℕ)) (ls : List ℕ) (xs : List (Located NamedOperation)) → Like IsStateOf (heights.validate m r xs (heights.start m r rs ls)) (validate m r xs (function_frame m r rs ls ∷ []))
  body_like rs ls xs = validate_like xs (function_frame m r rs ls ∷ []) ((ls, sym (append-nil ls)), tt)

  no_frames : (fs : NestedFrames T) → [] ≡ controls_of fs → fs ≡ []
  no_frames [] h = refl
  no_frames (f ∷ fs) h = absurd (cc)

  from_heights : (a : Checked (State T)) (b : Checked (NestedFrames T)) (left : Stacks T) → Like IsStateOf a b → a ≡ Ok (state left []) → b ≡ Ok []
  from_heights (Ok s) (Ok fs) left h e =
      let i : s ≡ state left [] = cc in
      ap Ok (no_frames fs (ap (λ x. x.controls) (sym i ∙ h.0)))
  from_heights (Ok s) (Err d) left h e = absurd h
  from_heights (Err e) b left h i = absurd (cc)

  to_heights : (a : Checked (State T)) (b : Checked (NestedFrames T)) → Like IsStateOf a b → b ≡ Ok [] → a ≡ Ok (state (stacks_of []) [])
  to_heights (Ok s) (Ok fs) h e =
      let i : fs ≡ [] = cc in
      ap Ok (h.0 ∙ ap state_of i)
  to_heights (Err e) (Ok fs) h i = absurd h
  to_heights a (Err d) h i = absurd (cc)

  pub valid_by_heights : (rs : List (ValType ℕ)) (ls : List ℕ) (xs : List (Located NamedOperation)) → heights.IsValid m r rs ls xs → IsValid m r rs ls xs
  valid_by_heights rs ls xs v = from_heights (heights.validate m r xs (heights.start m r rs ls)) (validate m r xs (function_frame m r rs ls ∷ [])) v.0 (body_like rs ls xs) v.1

  pub valid_with_heights : (rs : List (ValType ℕ)) (ls : List ℕ) (xs : List (Located NamedOperation)) → IsValid m r rs ls xs → heights.IsValid m r rs ls xs
  valid_with_heights rs ls xs v = (stacks_of [], to_heights (heights.validate m r xs (heights.start m r rs ls)) (validate m r xs (function_frame m r rs ls ∷ [])) (body_like rs ls xs) v)
