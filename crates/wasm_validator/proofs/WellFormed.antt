-- Well-formed states: after a step of the algorithm they are well-formed again.
use Rattle.std.proofs.Common.{◌≡◌, ℕ, ◌-◌, ◌≤◌, List, [], ◌∷◌, length, reverse, Bool, true, false, Ok, Err, refl, sym, ap, ◌∙◌, subst, arith, length-append}
use Rattle.std.specs.Prelude.{nat_eq, if◌then◌else◌, Option}
use Rattle.std.proofs.lemmas.List.{length-drop}
use Rattle.std.proofs.lemmas.Bool.Decides.{nat_tests}
use Rattle.wasm_types.specs.declared.val_type.ValType.{ValType}
use Rattle.wasm_numbers.specs.Results.{◌>>=◌}
use Rattle.wasm_body.specs.Control.{Action, Nop, Plain, Branch, ConditionalBranch, TableBranch, Return, Unreachable, Throw, ThrowRef, Rethrow, TailCall, Construct, Block, Loop, TryTable, If, Try, Control, Does, Opens, Else, Catch, CatchAll, End, Delegate}
use Rattle.wasm_body.specs.Naming.{NamedOperation, block_signature}
use Rattle.wasm_body.specs.NormalForm.{Typing}
use Rattle.wasm_body.specs.Validity as algorithm
use Rattle.wasm_body.specs.Validity.{Operand, Unknown, Known, Change, OperandRules, Checked, refused, demand, required, i32, exnref, opened_by, is_if, is_try, may_catch, is_catch, transfers, ControlFrame, Stacks, State, state, up_to}
use Rattle.wasm_validator.specs.WellFormed.{is_function_frame, AreNested, AreOver, IsWellFormed}

-- ---- results

-- a step that was taken after another
pub before : {X Y : Type 0} (a : Checked X) (k : X → Checked Y) (y : Y) → (a >>= k) ≡ Ok y → (x : X) × (a ≡ Ok x) × (k x ≡ Ok y)
before (Ok x) k y h = (x, refl, h)
before (Err e) k y h = absurd cc

demanded : (test : Bool) (u : Unit {0}) → demand test ≡ Ok u → test ≡ true
demanded true u h = refl
demanded false u h = absurd cc

pub not_function_if : (o : algorithm.Opened) → is_if o ≡ true → is_function_frame o ≡ false
not_function_if algorithm.OfFunction h = absurd cc
not_function_if _ h = refl

pub not_function_try : (o : algorithm.Opened) → is_try o ≡ true → is_function_frame o ≡ false
not_function_try algorithm.OfFunction h = absurd cc
not_function_try _ h = refl

pub not_function_catch : (o : algorithm.Opened) → may_catch o ≡ true → is_function_frame o ≡ false
not_function_catch algorithm.OfFunction h = absurd cc
not_function_catch _ h = refl

not_function_opened : (k : Construct) → is_function_frame (opened_by k) ≡ false
not_function_opened Block = refl
not_function_opened Loop = refl
not_function_opened If = refl
not_function_opened Try = refl
not_function_opened (TryTable cs) = refl

-- ---- frames

abbrev same_place : ControlFrame → ControlFrame → Type 0
same_place f g = (is_function_frame f.opened ≡ is_function_frame g.opened) × (f.height ≡ g.height)

-- another frame in the place of the innermost
replaced : (f g : ControlFrame) (fs : List ControlFrame) → is_function_frame g.opened ≡ is_function_frame f.opened → g.height ≡ f.height → AreNested (f ∷ fs) → AreNested (g ∷ fs)
replaced f g [] o h n = o ∙ n
replaced f g (e ∷ fs) o h n = (o ∙ n.0, (let l : e.height ≤ f.height = n.1 in omega arith), n.2)

-- the frames around one that isn't the function's, where the operands are as many as its height
around : {X : Type 0} (xs : List X) (f : ControlFrame) (fs : List ControlFrame) → f.height ≤ length xs → AreNested (f ∷ fs) → AreOver xs fs
around xs f [] h n = tt
around xs f (g ∷ fs) h n = ((let l : g.height ≤ f.height = n.1 in omega arith), n.2)

-- a frame of another construct, in the place of one that isn't the function's
next_frame : {X : Type 0} (xs : List X) (f g : ControlFrame) (fs : List ControlFrame) → is_function_frame f.opened ≡ false → is_function_frame g.opened ≡ false → g.height ≡ f.height
    → f.height ≤ length xs → AreNested (f ∷ fs) → AreOver xs (g ∷ fs)
next_frame xs f g fs o p h l n = ((omega arith), replaced f g fs (p ∙ sym o) h n)

module _ {T : Type 0} (m : Typing) (r : OperandRules T) where
  -- ---- operands

  pops_by : (f : ControlFrame) (t : ValType ℕ) (xs ys : List (Operand T)) (test : Bool) → nat_eq (length xs) f.height ≡ test
      → (if test then (demand f.unreachable >>= λ u. Ok xs) else algorithm.fitting m r t xs) ≡ Ok ys → f.height ≤ length xs → f.height ≤ length ys
  pops_by f t xs ys true e h l =
      let p = before (demand f.unreachable) (λ u. Ok xs) ys h in
      let same : xs ≡ ys = cc (p.2) in
      subst (λ (zs : List (Operand T)). f.height ≤ length zs) same l
  pops_by f t [] ys false e h l = absurd cc
  pops_by f t (Unknown ∷ xs) ys false e h l =
      let same : xs ≡ ys = cc in
      subst (λ (zs : List (Operand T)). f.height ≤ length zs) same (grind (arith, nat_tests))
  pops_by f t (Known k ∷ xs) ys false e h l =
      let p = before (demand (r.matches k t)) (λ u. Ok xs) ys h in
      let same : xs ≡ ys = cc (p.2) in
      subst (λ (zs : List (Operand T)). f.height ≤ length zs) same (grind (arith, nat_tests))

  pops : (f : ControlFrame) (t : ValType ℕ) (xs ys : List (Operand T)) → algorithm.pop m r f t xs ≡ Ok ys → f.height ≤ length xs → f.height ≤ length ys
  pops f t xs ys h l = pops_by f t xs ys (nat_eq (length xs) f.height) refl h l

  pops_each : (f : ControlFrame) (ts : List (ValType ℕ)) (xs ys : List (Operand T)) → algorithm.pop_each m r f ts xs ≡ Ok ys → f.height ≤ length xs → f.height ≤ length ys
  pops_each f [] xs ys h l = let same : xs ≡ ys = cc in subst (λ (zs : List (Operand T)). f.height ≤ length zs) same l
  pops_each f (t ∷ ts) xs ys h l =
      let p = before (algorithm.pop m r f t xs) (algorithm.pop_each m r f ts) ys h in
      pops_each f ts p.0 ys p.2 (pops f t xs p.0 p.1 l)

  pushes : (ts : List (ValType ℕ)) (xs : List (Operand T)) → length xs ≤ length (algorithm.push_each m r ts xs)
  pushes [] xs = omega arith
  pushes (t ∷ ts) xs = let h = pushes ts (Known (r.type_of t) ∷ xs) in omega arith

  reaches_up : {X : Type 0} (h : ℕ) (xs : List X) → h ≤ length xs → length (up_to h xs) ≡ h
  reaches_up h xs l = let d = length-drop (length xs - h) xs in omega arith

  popping : (f : ControlFrame) (ts : List (ValType ℕ)) (s t : Stacks T) → algorithm.popping m r f ts s ≡ Ok t → f.height ≤ length s.operands → f.height ≤ length t.operands
  popping f ts s t h l =
      let p = before (algorithm.pop_all m r f ts s.operands) (λ xs. Ok (algorithm.with_operands m r s xs)) t h in
      let same : algorithm.with_operands m r s p.0 ≡ t = cc (p.2) in
      subst (λ (u : Stacks T). f.height ≤ length u.operands) same (pops_each f (reverse ts) s.operands p.0 p.1 l)

  changes : (f : ControlFrame) (o : Option (Change T)) (s t : Stacks T) → (required o >>= λ k. Ok (algorithm.changed m r f k s)) ≡ Ok t → f.height ≤ length s.operands
      → f.height ≤ length t.operands
  changes f o s t h l =
      let p = before (required o) (λ k. Ok (algorithm.changed m r f k s)) t h in
      let same : algorithm.changed m r f p.0 s ≡ t = cc (p.2) in
      let a = length-append p.0.operands (up_to f.height s.operands) in
      let b = reaches_up f.height s.operands l in
      subst (λ (u : Stacks T). f.height ≤ length u.operands) same (omega arith)

  -- ---- actions

  takes : (action : Action) (o : NamedOperation) (f : ControlFrame) (fs : List ControlFrame) (s t : Stacks T) → algorithm.taken m r action o f fs s ≡ Ok t
      → f.height ≤ length s.operands → f.height ≤ length t.operands
  takes Nop o f fs s t h l = let same : s ≡ t = cc in subst (λ (u : Stacks T). f.height ≤ length u.operands) same l
  takes Plain o f fs s t h l = changes f (r.plain o (algorithm.point m r f s)) s t h l
  takes (Branch n) o f fs s t h l =
      let p = before (algorithm.labelled_frame fs n) (λ d. algorithm.popping m r f (algorithm.label_types d) s) t h in
      popping f (algorithm.label_types p.0) s t p.2 l
  takes (ConditionalBranch n) o f fs s t h l =
      let p = before (algorithm.labelled_frame fs n) (λ d. required (r.conditional o (algorithm.label_types d) (algorithm.point m r f s)) >>= λ k. Ok (algorithm.changed m r f k s)) t h in
      changes f (r.conditional o (algorithm.label_types p.0) (algorithm.point m r f s)) s t p.2 l
  takes (TableBranch ns n) o f fs s t h l =
      let p = before (algorithm.pop m r f i32 s.operands) (λ xs. algorithm.labelled_frame fs n >>= λ d. algorithm.targets m r f fs xs (length (algorithm.label_types d)) ns >>= λ u. algorithm.popping m r f (algorithm.label_types d) (algorithm.with_operands m r s xs)) t h in
      let q = before (algorithm.labelled_frame fs n) (λ d. algorithm.targets m r f fs p.0 (length (algorithm.label_types d)) ns >>= λ u. algorithm.popping m r f (algorithm.label_types d) (algorithm.with_operands m r s p.0)) t p.2 in
      let z = before (algorithm.targets m r f fs p.0 (length (algorithm.label_types q.0)) ns) (λ u. algorithm.popping m r f (algorithm.label_types q.0) (algorithm.with_operands m r s p.0)) t q.2 in
      popping f (algorithm.label_types q.0) (algorithm.with_operands m r s p.0) t z.2 (pops f i32 s.operands p.0 p.1 l)
  takes Return o f fs s t h l = popping f (algorithm.results fs) s t h l
  takes Unreachable o f fs s t h l = let same : s ≡ t = cc in subst (λ (u : Stacks T). f.height ≤ length u.operands) same l
  takes (Throw tag) o f fs s t h l = popping f (m.tag_parameters tag) s t h l
  takes ThrowRef o f fs s t h l =
      let p = before (algorithm.pop m r f exnref s.operands) (λ xs. Ok (algorithm.with_operands m r s xs)) t h in
      let same : algorithm.with_operands m r s p.0 ≡ t = cc (p.2) in
      subst (λ (u : Stacks T). f.height ≤ length u.operands) same (pops f exnref s.operands p.0 p.1 l)
  takes (Rethrow n) o f fs s t h l =
      let p = before (algorithm.labelled_frame fs n) (λ d. demand (is_catch d.opened) >>= λ u. Ok s) t h in
      let q = before (demand (is_catch p.0.opened)) (λ u. Ok s) t p.2 in
      let same : s ≡ t = cc (q.2) in
      subst (λ (u : Stacks T). f.height ≤ length u.operands) same l
  takes TailCall o f fs s t h l =
      let q = before (demand (r.tail_call o (algorithm.results fs) (algorithm.point m r f s))) (λ u. Ok s) t h in
      let same : s ≡ t = cc (q.2) in
      subst (λ (u : Stacks T). f.height ≤ length u.operands) same l

  after : (test : Bool) (f : ControlFrame) (s : Stacks T) (fs : List ControlFrame) → f.height ≤ length s.operands → AreNested (f ∷ fs)
      → IsWellFormed (if test then algorithm.unreachable m r f s fs else state s (f ∷ fs))
  after false f s fs l n = (l, n)
  after true f s fs l n = let b = reaches_up f.height s.operands l in ((omega arith), replaced f (record f { unreachable = true }) fs refl refl n)

  -- ---- frames that are opened and closed

  condition : (k : Construct) (f : ControlFrame) (xs ys : List (Operand T)) → algorithm.condition m r k f xs ≡ Ok ys → f.height ≤ length xs → f.height ≤ length ys
  condition If f xs ys h l = pops f i32 xs ys h l
  condition Block f xs ys h l = let same : xs ≡ ys = cc in subst (λ (zs : List (Operand T)). f.height ≤ length zs) same l
  condition Loop f xs ys h l = let same : xs ≡ ys = cc in subst (λ (zs : List (Operand T)). f.height ≤ length zs) same l
  condition Try f xs ys h l = let same : xs ≡ ys = cc in subst (λ (zs : List (Operand T)). f.height ≤ length zs) same l
  condition (TryTable cs) f xs ys h l = let same : xs ≡ ys = cc in subst (λ (zs : List (Operand T)). f.height ≤ length zs) same l

  opens : (k : Construct) (ins outs : List (ValType ℕ)) (t : Stacks T) (f : ControlFrame) (fs : List ControlFrame) → f.height ≤ length t.operands → AreNested (f ∷ fs)
      → IsWellFormed (algorithm.push_control m r (opened_by k) ins outs t (f ∷ fs))
  opens k ins outs t f fs l n = (pushes ins t.operands, (not_function_opened k, l, n))

  closes : (f : ControlFrame) (s t : Stacks T) → algorithm.pop_control m r f s ≡ Ok t → length t.operands ≡ f.height
  closes f s t h =
      let p = before (algorithm.pop_all m r f f.end_types s.operands) (λ xs. demand (nat_eq (length xs) f.height) >>= λ u. Ok (record { operands = xs; initialised = up_to f.locals_height s.initialised })) t h in
      let q = before (demand (nat_eq (length p.0) f.height)) (λ u. Ok (record { operands = p.0; initialised = up_to f.locals_height s.initialised })) t p.2 in
      let same : record { operands = p.0; initialised = up_to f.locals_height s.initialised } ≡ t = cc (q.2) in
      let e = demanded (nat_eq (length p.0) f.height) q.0 q.1 in
      let is : length p.0 ≡ f.height = grind (arith, nat_tests) in
      subst (λ (u : Stacks T). length u.operands ≡ f.height) same is

  given : (ts : List (ValType ℕ)) (s : Stacks T) (fs : List ControlFrame) → AreOver s.operands fs → IsWellFormed (algorithm.given m r ts s fs)
  given ts s [] h = tt
  given ts s (f ∷ fs) h = let p = pushes ts s.operands in let l : f.height ≤ length s.operands = h.0 in ((omega arith), h.1)

  checks_end : (o : algorithm.Opened) (f : ControlFrame) (s t : Stacks T) → algorithm.checks_end m r o f s ≡ Ok t → length t.operands ≡ length s.operands
  checks_end algorithm.OfIf f s t h =
      closes (algorithm.control m r s algorithm.OfElse f.start_types f.end_types) (algorithm.with_operands m r s (algorithm.push_each m r f.start_types s.operands)) t h
  checks_end algorithm.OfFunction f s t h = let same : s ≡ t = cc in ap (λ (u : Stacks T). length u.operands) (sym same)
  checks_end algorithm.OfBlock f s t h = let same : s ≡ t = cc in ap (λ (u : Stacks T). length u.operands) (sym same)
  checks_end algorithm.OfLoop f s t h = let same : s ≡ t = cc in ap (λ (u : Stacks T). length u.operands) (sym same)
  checks_end algorithm.OfElse f s t h = let same : s ≡ t = cc in ap (λ (u : Stacks T). length u.operands) (sym same)
  checks_end algorithm.OfTryTable f s t h = let same : s ≡ t = cc in ap (λ (u : Stacks T). length u.operands) (sym same)
  checks_end algorithm.OfTry f s t h = let same : s ≡ t = cc in ap (λ (u : Stacks T). length u.operands) (sym same)
  checks_end algorithm.OfCatch f s t h = let same : s ≡ t = cc in ap (λ (u : Stacks T). length u.operands) (sym same)
  checks_end algorithm.OfCatchAll f s t h = let same : s ≡ t = cc in ap (λ (u : Stacks T). length u.operands) (sym same)

  reopens : (o : algorithm.Opened) (ins outs : List (ValType ℕ)) (f : ControlFrame) (s : Stacks T) (fs : List ControlFrame) → is_function_frame o ≡ false → is_function_frame f.opened ≡ false
      → length s.operands ≡ f.height → AreNested (f ∷ fs) → IsWellFormed (algorithm.push_control m r o ins outs s fs)
  reopens o ins outs f s fs p q e n =
      let l = pushes ins s.operands in
      next_frame (algorithm.push_each m r ins s.operands) f (algorithm.control m r s o ins outs) fs q p e (omega arith) n

  continues : (k : Control) (f : ControlFrame) (s : Stacks T) (fs : List ControlFrame) (next : State T) → algorithm.next_sequence m r k f s fs ≡ Ok next
      → length s.operands ≡ f.height → AreNested (f ∷ fs) → IsWellFormed next
  continues Else f s fs next h e n =
      let p = before (demand (is_if f.opened)) (λ u. Ok (algorithm.push_control m r algorithm.OfElse f.start_types f.end_types s fs)) next h in
      let same : algorithm.push_control m r algorithm.OfElse f.start_types f.end_types s fs ≡ next = cc (p.2) in
      subst (λ (u : State T). IsWellFormed u) same (reopens algorithm.OfElse f.start_types f.end_types f s fs refl (not_function_if f.opened (demanded (is_if f.opened) p.0 p.1)) e n)
  continues (Catch tag) f s fs next h e n =
      let p = before (demand (may_catch f.opened)) (λ u. Ok (algorithm.push_control m r algorithm.OfCatch (m.tag_parameters tag) f.end_types s fs)) next h in
      let same : algorithm.push_control m r algorithm.OfCatch (m.tag_parameters tag) f.end_types s fs ≡ next = cc (p.2) in
      subst (λ (u : State T). IsWellFormed u) same (reopens algorithm.OfCatch (m.tag_parameters tag) f.end_types f s fs refl (not_function_catch f.opened (demanded (may_catch f.opened) p.0 p.1)) e n)
  continues CatchAll f s fs next h e n =
      let p = before (demand (may_catch f.opened)) (λ u. Ok (algorithm.push_control m r algorithm.OfCatchAll [] f.end_types s fs)) next h in
      let same : algorithm.push_control m r algorithm.OfCatchAll [] f.end_types s fs ≡ next = cc (p.2) in
      subst (λ (u : State T). IsWellFormed u) same (reopens algorithm.OfCatchAll [] f.end_types f s fs refl (not_function_catch f.opened (demanded (may_catch f.opened) p.0 p.1)) e n)
  continues End f s fs next h e n =
      let p = before (algorithm.checks_end m r f.opened f s) (λ t. Ok (algorithm.given m r f.end_types t fs)) next h in
      let same : algorithm.given m r f.end_types p.0 fs ≡ next = cc (p.2) in
      let long = checks_end f.opened f s p.0 p.1 in
      subst (λ (u : State T). IsWellFormed u) same (given f.end_types p.0 fs (around p.0.operands f fs (omega arith) n))
  continues (Delegate d) f s fs next h e n =
      let p = before (demand (is_try f.opened)) (λ u. algorithm.labelled_frame fs d >>= λ g. Ok (algorithm.given m r f.end_types s fs)) next h in
      let q = before (algorithm.labelled_frame fs d) (λ g. Ok (algorithm.given m r f.end_types s fs)) next p.2 in
      let same : algorithm.given m r f.end_types s fs ≡ next = cc (q.2) in
      subst (λ (u : State T). IsWellFormed u) same (given f.end_types s fs (around s.operands f fs (omega arith) n))
  continues (Does action) f s fs next h e n = absurd cc
  continues (Opens k) f s fs next h e n = absurd cc

  -- ---- a step

  pub steps : (k : Control) (o : NamedOperation) (s : Stacks T) (fs : List ControlFrame) (next : State T) → algorithm.step_in m r k o s fs ≡ Ok next → AreOver s.operands fs → IsWellFormed next
  steps k o s [] next h g = absurd cc
  steps (Does action) o s (f ∷ fs) next h g =
      let p = before (algorithm.taken m r action o f (f ∷ fs) s) (λ t. Ok (algorithm.after_action m r action f t fs)) next h in
      let same : algorithm.after_action m r action f p.0 fs ≡ next = cc (p.2) in
      subst (λ (u : State T). IsWellFormed u) same (after (transfers action) f p.0 fs (takes action o f (f ∷ fs) s p.0 p.1 g.0) g.1)
  steps (Opens k) o s (f ∷ fs) next h g =
      let p = before (algorithm.taken_by m r k o f s) (λ t. algorithm.opens m r k o t (f ∷ fs)) next h in
      let c = before (algorithm.condition m r k f s.operands) (λ xs. algorithm.popping m r f (block_signature o).parameters (algorithm.with_operands m r s xs)) p.0 p.1 in
      let l = popping f (block_signature o).parameters (algorithm.with_operands m r s c.0) p.0 c.2 (condition k f s.operands c.0 c.1 g.0) in
      let q = before (algorithm.checks_catches m r k o (f ∷ fs) p.0) (λ u. Ok (algorithm.push_control m r (opened_by k) (block_signature o).parameters (block_signature o).results p.0 (f ∷ fs))) next p.2 in
      let same : algorithm.push_control m r (opened_by k) (block_signature o).parameters (block_signature o).results p.0 (f ∷ fs) ≡ next = cc (q.2) in
      subst (λ (u : State T). IsWellFormed u) same (opens k (block_signature o).parameters (block_signature o).results p.0 f fs l g.1)
  steps Else o s (f ∷ fs) next h g =
      let p = before (algorithm.pop_control m r f s) (λ t. algorithm.next_sequence m r Else f t fs) next h in
      continues Else f p.0 fs next p.2 (closes f s p.0 p.1) g.1
  steps (Catch tag) o s (f ∷ fs) next h g =
      let p = before (algorithm.pop_control m r f s) (λ t. algorithm.next_sequence m r (Catch tag) f t fs) next h in
      continues (Catch tag) f p.0 fs next p.2 (closes f s p.0 p.1) g.1
  steps CatchAll o s (f ∷ fs) next h g =
      let p = before (algorithm.pop_control m r f s) (λ t. algorithm.next_sequence m r CatchAll f t fs) next h in
      continues CatchAll f p.0 fs next p.2 (closes f s p.0 p.1) g.1
  steps End o s (f ∷ fs) next h g =
      let p = before (algorithm.pop_control m r f s) (λ t. algorithm.next_sequence m r End f t fs) next h in
      continues End f p.0 fs next p.2 (closes f s p.0 p.1) g.1
  steps (Delegate n) o s (f ∷ fs) next h g =
      let p = before (algorithm.pop_control m r f s) (λ t. algorithm.next_sequence m r (Delegate n) f t fs) next h in
      continues (Delegate n) f p.0 fs next p.2 (closes f s p.0 p.1) g.1
