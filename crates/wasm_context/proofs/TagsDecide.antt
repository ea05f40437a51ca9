-- Of the types of sequences, the validation algorithm asks only for the parameters of tags.
use Rattle.std.proofs.Common.{◌≡◌, ℕ, List, [], ◌∷◌, ◌++◌, length, Result, Ok, Err, refl, ap, ◌∙◌}
use Rattle.std.specs.Prelude.{Bool, Option, Some, None, reverse, nat_eq, if◌then◌else◌}
use Rattle.wasm_types.specs.declared.val_type.ValType.{ValType}
use Rattle.wasm_numbers.specs.Results.{◌>>=◌}
use Rattle.wasm_operators.specs.Operations.{CatchClause}
use Rattle.wasm_body.specs.Control.{Action, Nop, Plain, Branch, ConditionalBranch, TableBranch, Return, Unreachable, Throw, ThrowRef, Rethrow, TailCall, Construct, Block, Loop, TryTable, If, Try, Control, Does, Opens, Else, Catch, CatchAll, End, Delegate, control_of}
use Rattle.wasm_body.specs.Translation.{Located}
use Rattle.wasm_body.specs.Naming.{NamedOperation, block_signature}
use Rattle.wasm_body.specs.NormalForm.{Typing}
use Rattle.wasm_body.specs.Validity as a
use Rattle.wasm_body.specs.Validity.{Operand, Unknown, Known, Opened, OfFunction, OfBlock, OfLoop, OfIf, OfElse, OfTryTable, OfTry, OfCatch, OfCatchAll, OperandRules, Checked, Refusal, demand, required, ControlFrame, Stacks, State, labelled_frame, label_types, results, caught, is_if, is_try, may_catch, is_catch, try_table_clauses, i32, exnref}

after_alike : {X Y E : Type 0} (f g : X → Result Y E) → ((x : X) → f x ≡ g x) → (r : Result X E) → (r >>= f) ≡ (r >>= g)
after_alike f g h (Ok x) = h x
after_alike f g h (Err d) = refl

bind_alike : {X Y E : Type 0} (r s : Result X E) (f g : X → Result Y E) → r ≡ s → ((x : X) → f x ≡ g x) → (r >>= f) ≡ (s >>= g)
bind_alike r s f g e h = ap (λ q. q >>= f) e ∙ after_alike f g h s

module _ {T : Type 0} (m n : Typing) (r : OperandRules T) (alike : (tag : ℕ) → m.tag_parameters tag ≡ n.tag_parameters tag) where
  pushes : (ts : List (ValType ℕ)) (xs : List (Operand T)) → a.push_each m r ts xs ≡ a.push_each n r ts xs
  pushes [] xs = refl
  pushes (t ∷ ts) xs = pushes ts (Known (r.type_of t) ∷ xs)

  fits : (t : ValType ℕ) (xs : List (Operand T)) → a.fitting m r t xs ≡ a.fitting n r t xs
  fits t [] = refl
  fits t (Unknown ∷ xs) = refl
  fits t (Known u ∷ xs) = refl

  pops : (c : ControlFrame) (t : ValType ℕ) (xs : List (Operand T)) → a.pop m r c t xs ≡ a.pop n r c t xs
  pops c t xs = ap (λ q. if nat_eq (length xs) c.height then (demand c.unreachable >>= λ u. Ok xs) else q) (fits t xs)

  pops_each : (c : ControlFrame) (ts : List (ValType ℕ)) (xs : List (Operand T)) → a.pop_each m r c ts xs ≡ a.pop_each n r c ts xs
  pops_each c [] xs = refl
  pops_each c (t ∷ ts) xs = bind_alike (a.pop m r c t xs) (a.pop n r c t xs) (λ ys. a.pop_each m r c ts ys) (λ ys. a.pop_each n r c ts ys) (pops c t xs) (pops_each c ts)

  pops_all : (c : ControlFrame) (ts : List (ValType ℕ)) (xs : List (Operand T)) → a.pop_all m r c ts xs ≡ a.pop_all n r c ts xs
  pops_all c ts xs = pops_each c (reverse ts) xs

  popping_alike : (c : ControlFrame) (ts : List (ValType ℕ)) (s : Stacks T) → a.popping m r c ts s ≡ a.popping n r c ts s
  popping_alike c ts s = ap (λ q. q >>= λ xs. Ok (record s { operands = xs })) (pops_all c ts s.operands)

  pushes_control : (o : Opened) (ins outs : List (ValType ℕ)) (s : Stacks T) (cs : List ControlFrame) → a.push_control m r o ins outs s cs ≡ a.push_control n r o ins outs s cs
  pushes_control o ins outs s cs = ap (λ xs. a.state (record s { operands = xs }) (a.control m r s o ins outs ∷ cs)) (pushes ins s.operands)

  pops_control : (c : ControlFrame) (s : Stacks T) → a.pop_control m r c s ≡ a.pop_control n r c s
  pops_control c s =
      ap (λ q. q >>= λ xs. demand (nat_eq (length xs) c.height) >>= λ u. Ok (record { operands = xs; initialised = a.up_to c.locals_height s.initialised })) (pops_all c c.end_types s.operands)

  gives : (ts : List (ValType ℕ)) (s : Stacks T) (cs : List ControlFrame) → a.given m r ts s cs ≡ a.given n r ts s cs
  gives ts s [] = refl
  gives ts s (c ∷ cs) = ap (λ xs. a.state (record s { operands = xs }) (c ∷ cs)) (pushes ts s.operands)

  targets_alike : (c : ControlFrame) (cs : List ControlFrame) (xs : List (Operand T)) (arity : ℕ) (ns : List ℕ) → a.targets m r c cs xs arity ns ≡ a.targets n r c cs xs arity ns
  targets_alike c cs xs arity [] = refl
  targets_alike c cs xs arity (l ∷ ls) =
      bind_alike (labelled_frame cs l) (labelled_frame cs l) _ _ refl λ d.
      bind_alike (demand (nat_eq (length (label_types d)) arity)) (demand (nat_eq (length (label_types d)) arity)) _ _ refl λ u.
      bind_alike (a.pop_all m r c (label_types d) xs) (a.pop_all n r c (label_types d) xs) _ _ (pops_all c (label_types d) xs) λ q. targets_alike c cs xs arity ls

  takes : (k : Action) (o : NamedOperation) (c : ControlFrame) (cs : List ControlFrame) (s : Stacks T) → a.taken m r k o c cs s ≡ a.taken n r k o c cs s
  takes Nop o c cs s = refl
  takes Plain o c cs s = refl
  takes (Branch l) o c cs s = bind_alike (labelled_frame cs l) (labelled_frame cs l) _ _ refl λ d. popping_alike c (label_types d) s
  takes (ConditionalBranch l) o c cs s = refl
  takes (TableBranch ls l) o c cs s =
      bind_alike (a.pop m r c i32 s.operands) (a.pop n r c i32 s.operands) _ _ (pops c i32 s.operands) λ xs.
      bind_alike (labelled_frame cs l) (labelled_frame cs l) _ _ refl λ d.
      bind_alike (a.targets m r c cs xs (length (label_types d)) ls) (a.targets n r c cs xs (length (label_types d)) ls) _ _
      (targets_alike c cs xs (length (label_types d)) ls) λ u. popping_alike c (label_types d) (record s { operands = xs })
  takes Return o c cs s = popping_alike c (results cs) s
  takes Unreachable o c cs s = refl
  takes (Throw tag) o c cs s = ap (λ ts. a.popping m r c ts s) (alike tag) ∙ popping_alike c (n.tag_parameters tag) s
  takes ThrowRef o c cs s = ap (λ q. q >>= λ xs. Ok (record s { operands = xs })) (pops c exnref s.operands)
  takes (Rethrow l) o c cs s = refl
  takes TailCall o c cs s = refl

  condition_alike : (k : Construct) (c : ControlFrame) (xs : List (Operand T)) → a.condition m r k c xs ≡ a.condition n r k c xs
  condition_alike If c xs = pops c i32 xs
  condition_alike Block c xs = refl
  condition_alike Loop c xs = refl
  condition_alike Try c xs = refl
  condition_alike (TryTable cs) c xs = refl

  types_alike : (tag : Option ℕ) → a.tag_types m tag ≡ a.tag_types n tag
  types_alike None = refl
  types_alike (Some tag) = alike tag

  hands_alike : (k : CatchClause ℕ) → a.handed m k ≡ a.handed n k
  hands_alike k = ap (λ ts. if k.by_reference then ts ++ caught ∷ [] else ts) (types_alike k.tag)

  hand_alike : (cs : List ControlFrame) (s : Stacks T) (ks : List (CatchClause ℕ)) → a.hand m r cs s ks ≡ a.hand n r cs s ks
  hand_alike cs s [] = refl
  hand_alike cs s (k ∷ ks) =
      bind_alike (labelled_frame cs k.label) (labelled_frame cs k.label) _ _ refl λ d.
      let by : List (ValType ℕ) → List (Operand T) → Checked (Stacks T) = λ ts xs. a.pop_control n r (a.control n r s OfCatch ts (label_types d)) (record s { operands = xs }) in
      let first = a.pop_control m r (a.control m r s OfCatch (a.handed m k) (label_types d)) (record s { operands = a.push_each m r (a.handed m k) s.operands }) in
      bind_alike first (by (a.handed n k) (a.push_each n r (a.handed n k) s.operands)) (λ t. a.hand m r cs s ks) (λ t. a.hand n r cs s ks)
      (pops_control (a.control m r s OfCatch (a.handed m k) (label_types d)) (record s { operands = a.push_each m r (a.handed m k) s.operands })
      ∙ ap (by (a.handed m k)) (pushes (a.handed m k) s.operands) ∙ ap (λ ts. by ts (a.push_each n r ts s.operands)) (hands_alike k))
      λ t. hand_alike cs s ks

  catches_alike : (k : Construct) (o : NamedOperation) (cs : List ControlFrame) (s : Stacks T) → a.checks_catches m r k o cs s ≡ a.checks_catches n r k o cs s
  catches_alike (TryTable ks) o cs s = hand_alike cs s (try_table_clauses o.immediates)
  catches_alike Block o cs s = refl
  catches_alike Loop o cs s = refl
  catches_alike If o cs s = refl
  catches_alike Try o cs s = refl

  takes_by : (k : Construct) (o : NamedOperation) (c : ControlFrame) (s : Stacks T) → a.taken_by m r k o c s ≡ a.taken_by n r k o c s
  takes_by k o c s =
      bind_alike (a.condition m r k c s.operands) (a.condition n r k c s.operands) _ _ (condition_alike k c s.operands) λ xs.
      popping_alike c (block_signature o).parameters (record s { operands = xs })

  opens_alike : (k : Construct) (o : NamedOperation) (s : Stacks T) (cs : List ControlFrame) → a.opens m r k o s cs ≡ a.opens n r k o s cs
  opens_alike k o s cs =
      bind_alike (a.checks_catches m r k o cs s) (a.checks_catches n r k o cs s) _ _ (catches_alike k o cs s) λ u.
      ap Ok (pushes_control (a.opened_by k) (block_signature o).parameters (block_signature o).results s cs)

  ends_alike : (o : Opened) (c : ControlFrame) (s : Stacks T) → a.checks_end m r o c s ≡ a.checks_end n r o c s
  ends_alike OfIf c s =
      pops_control (a.control m r s OfElse c.start_types c.end_types) (record s { operands = a.push_each m r c.start_types s.operands })
      ∙ ap (λ xs. a.pop_control n r (a.control n r s OfElse c.start_types c.end_types) (record s { operands = xs })) (pushes c.start_types s.operands)
  ends_alike OfFunction c s = refl
  ends_alike OfBlock c s = refl
  ends_alike OfLoop c s = refl
  ends_alike OfElse c s = refl
  ends_alike OfTryTable c s = refl
  ends_alike OfTry c s = refl
  ends_alike OfCatch c s = refl
  ends_alike OfCatchAll c s = refl

  next_alike : (k : Control) (c : ControlFrame) (s : Stacks T) (cs : List ControlFrame) → a.next_sequence m r k c s cs ≡ a.next_sequence n r k c s cs
  next_alike Else c s cs = bind_alike (demand (is_if c.opened)) (demand (is_if c.opened)) _ _ refl λ u. ap Ok (pushes_control OfElse c.start_types c.end_types s cs)
  next_alike (Catch tag) c s cs =
      bind_alike (demand (may_catch c.opened)) (demand (may_catch c.opened)) _ _ refl λ u.
      ap Ok (ap (λ ts. a.push_control m r OfCatch ts c.end_types s cs) (alike tag) ∙ pushes_control OfCatch (n.tag_parameters tag) c.end_types s cs)
  next_alike CatchAll c s cs = bind_alike (demand (may_catch c.opened)) (demand (may_catch c.opened)) _ _ refl λ u. ap Ok (pushes_control OfCatchAll [] c.end_types s cs)
  next_alike End c s cs = bind_alike (a.checks_end m r c.opened c s) (a.checks_end n r c.opened c s) _ _ (ends_alike c.opened c s) λ t. ap Ok (gives c.end_types t cs)
  next_alike (Delegate l) c s cs =
      bind_alike (demand (is_try c.opened)) (demand (is_try c.opened)) _ _ refl λ u.
      bind_alike (labelled_frame cs l) (labelled_frame cs l) _ _ refl λ d. ap Ok (gives c.end_types s cs)
  next_alike (Does k) c s cs = refl
  next_alike (Opens k) c s cs = refl

  closes_alike : (k : Control) (c : ControlFrame) (s : Stacks T) (cs : List ControlFrame)
      → (a.pop_control m r c s >>= λ t. a.next_sequence m r k c t cs) ≡ (a.pop_control n r c s >>= λ t. a.next_sequence n r k c t cs)
  closes_alike k c s cs = bind_alike (a.pop_control m r c s) (a.pop_control n r c s) _ _ (pops_control c s) λ t. next_alike k c t cs

  pub same_step : (k : Control) (o : NamedOperation) (s : Stacks T) (cs : List ControlFrame) → a.step_in m r k o s cs ≡ a.step_in n r k o s cs
  same_step k o s [] = refl
  same_step (Does action) o s (c ∷ cs) = ap (λ q. q >>= λ t. Ok (a.after_action n r action c t cs)) (takes action o c (c ∷ cs) s)
  same_step (Opens construct) o s (c ∷ cs) =
      bind_alike (a.taken_by m r construct o c s) (a.taken_by n r construct o c s) _ _ (takes_by construct o c s) λ t. opens_alike construct o t (c ∷ cs)
  same_step Else o s (c ∷ cs) = closes_alike Else c s cs
  same_step (Catch tag) o s (c ∷ cs) = closes_alike (Catch tag) c s cs
  same_step CatchAll o s (c ∷ cs) = closes_alike CatchAll c s cs
  same_step End o s (c ∷ cs) = closes_alike End c s cs
  same_step (Delegate l) o s (c ∷ cs) = closes_alike (Delegate l) c s cs
