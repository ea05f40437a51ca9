-- A body has at most one first fault, and a valid one has none: where a front ends that can't go on, every other such front ends.
use Rattle.std.proofs.Common.{◌≡◌, ℕ, ◌+◌, List, [], ◌∷◌, ◌++◌, length, Result, Ok, refl, sym, ap, subst, ◌∙◌, arith, length-append}
use Rattle.std.proofs.lemmas.List.{append_cancel_left}
use Rattle.wasm_numbers.proofs.Agreement.{one_spelling}
use Rattle.wasm_numbers.proofs.ResultLemmas.{bind_ok, with_fault_ok, ok_same}
use Rattle.wasm_operators.specs.Operations.{RawOperation}
use Rattle.wasm_operators.specs.OperatorList.{Placed, Lists}
use Rattle.wasm_operators.specs.Spelling.{Spells, read_operation}
use Rattle.wasm_operators.proofs.ListLaws.{spelt_length}
use Rattle.wasm_operators.proofs.OperationLaws.{operations_agree}
use Rattle.wasm_body.specs.Control.{Control, control_of}
use Rattle.wasm_body.specs.Naming.{NamedOperation}
use Rattle.wasm_body.specs.NormalForm.{Typing}
use Rattle.wasm_body.specs.Validity.{ControlFrame, OperandRules, Stacks, State, step_in}
use Rattle.wasm_typing.specs.StandardRules.{standard_rules}
use Rattle.wasm_context.specs.Validation.{BodyContext, BodyState, typing_in, named_step, raw_named, raw_step, check_in, steps_through, refusal_number}
use Rattle.wasm_validation.specs.declared.error.ValidationError.{ValidationError}
use Rattle.wasm_validation.specs.declared.error.ValidationFailure.{ValidationFailure}
use Rattle.wasm_validation.specs.BodyValidation.{taken_next, IsFaultOfRest}
use Rattle.wasm_validation.specs.ValidationVerdicts.{ValidHasNoFault, OneFaultOfCode}

-- ---- after the function no operator is taken

closed_refuses : {T : Type 0} (m : Typing) (r : OperandRules T) (k : Control) (o : NamedOperation) (s : Stacks T) (t : State T) → step_in m r k o s [] ≡ Ok t → ⊥
closed_refuses m r k o s t h = absurd cc

nothing_after : (c : BodyContext) (o : RawOperation) (s t : BodyState) → s.controls ≡ [] → raw_step c o s ≡ Ok t → ⊥
nothing_after c o s t none h =
    let p = bind_ok (raw_named c o) (λ n. named_step c n s) t h in
    closed_refuses (typing_in c) (standard_rules c.operands) (control_of p.0) p.0 s.stacks t
    (subst (λ (fs : List ControlFrame). step_in (typing_in c) (standard_rules c.operands) (control_of p.0) p.0 s.stacks fs ≡ Ok t) none p.2)

-- ---- where a front can't go on

-- no operator is read and taken here
abbrev NoneIsTaken : BodyContext → BodyState → List ℕ → Type 0
NoneIsTaken c s rest = (o : RawOperation) (text following : List ℕ) (t : BodyState) → rest ≡ text ++ following → Spells o text → raw_step c o s ≡ Ok t → ⊥

takes_here : (c : BodyContext) (s t : BodyState) (o : RawOperation) (rest following : List ℕ) → read_operation rest ≡ Ok (o, following) → raw_step c o s ≡ Ok t → taken_next c s rest ≡ Ok t
takes_here c s t o rest following read step = rw (read, step) refl

at_fault : (c : BodyContext) (s : BodyState) (fs : List ControlFrame) (rest : List ℕ) (e : ValidationError) → s.controls ≡ fs → IsFaultOfRest c s fs rest e → NoneIsTaken c s rest
at_fault c s [] [] e same fault = absurd fault
at_fault c s [] (b ∷ rest) e same fault = λ o text following t parts spells step. nothing_after c o s t same step
at_fault c s (f ∷ fs) [] e same fault = λ o text following t parts spells step.
    omega (arith, spelt_length o text spells, length-append text following, ap length parts)
at_fault c s (f ∷ fs) (b ∷ rest) e same fault = λ o text following t parts spells step.
    let read : read_operation (b ∷ rest) ≡ Ok (o, following) = ap read_operation parts ∙ operations_agree.again o text following spells in
    let ok : taken_next c s (b ∷ rest) ≡ Ok t = takes_here c s t o (b ∷ rest) following read step in
    absurd (let both = sym ok ∙ fault in cc)

at_end : (c : BodyContext) (s : BodyState) → s.controls ≡ [] → NoneIsTaken c s []
at_end c s none = λ o text following t parts spells step. nothing_after c o s t none step

-- ---- two fronts

taken_first : (c : BodyContext) (s t : BodyState) (x : Placed) (xs : List Placed) → steps_through c s (x ∷ xs) ≡ Ok t
    → (w : BodyState) × (raw_step c x.spelt s ≡ Ok w) × (steps_through c w xs ≡ Ok t)
taken_first c s t x xs h =
    let p = bind_ok (check_in c s x) (λ w. steps_through c w xs) t h in
    (p.0, with_fault_ok (λ e. refusal_number) (raw_step c x.spelt s) p.0 p.1, p.2)

ok_state : (s t : BodyState) → (let r : Result BodyState ℕ = Ok s in r) ≡ Ok t → s ≡ t
ok_state s t h = ok_same s t h

one_end : (c : BodyContext) (xs ys : List Placed) (s t u : BodyState) (p q : ℕ) (bytes rest others : List ℕ) → Lists xs p bytes rest → Lists ys q bytes others
    → steps_through c s xs ≡ Ok t → steps_through c s ys ≡ Ok u → NoneIsTaken c t rest → NoneIsTaken c u others → (rest ≡ others) × (t ≡ u)
one_end c [] [] s t u p q bytes rest others h k i j stops stop = (sym h ∙ k, sym (ok_state s t i) ∙ ok_state s u j)
one_end c [] (y ∷ ys) s t u p q bytes rest others h k i j stops stop =
    let b = taken_first c s u y ys j in
    absurd (stops y.spelt k.1 k.2 b.0 (sym h ∙ k.3) k.4 (ap (raw_step c y.spelt) (sym (ok_state s t i)) ∙ b.1))
one_end c (x ∷ xs) [] s t u p q bytes rest others h k i j stops stop =
    let a = taken_first c s t x xs i in
    absurd (stop x.spelt h.1 h.2 a.0 (sym k ∙ h.3) h.4 (ap (raw_step c x.spelt) (sym (ok_state s u j)) ∙ a.1))
one_end c (x ∷ xs) (y ∷ ys) s t u p q bytes rest others h k i j stops stop =
    let both = one_spelling operations_agree x.spelt y.spelt h.1 k.1 h.2 k.2 h.4 k.4 (sym h.3 ∙ k.3) in
    let following : k.2 ≡ h.2 = append_cancel_left h.1 k.2 h.2 (ap (λ (z : List ℕ). z ++ k.2) both.1 ∙ sym k.3 ∙ h.3) in
    let a = taken_first c s t x xs i in
    let b = taken_first c s u y ys j in
    let one : b.0 ≡ a.0 = ok_same b.0 a.0 (sym b.1 ∙ ap (λ (o : RawOperation). raw_step c o s) (sym both.0) ∙ a.1) in
    one_end c xs ys a.0 t u (p + length h.1) (q + length k.1) h.2 rest others h.5 (subst (λ (z : List ℕ). Lists ys (q + length k.1) z others) following k.5) a.2
    (subst (λ (w : BodyState). steps_through c w ys ≡ Ok u) one b.2) stops stop

-- ---- one verdict

same_fault : (c : BodyContext) (s : BodyState) (fs : List ControlFrame) (rest : List ℕ) (e f : ValidationError) → IsFaultOfRest c s fs rest e → IsFaultOfRest c s fs rest f → e ≡ f
same_fault c s [] [] e f h k = absurd h
same_fault c s [] (b ∷ rest) e f h k = h ∙ sym k
same_fault c s (g ∷ fs) [] e f h k = h ∙ sym k
same_fault c s (g ∷ fs) (b ∷ rest) e f h k = (let both = sym h ∙ k in cc)

no_fault_at_end : (c : BodyContext) (s : BodyState) (fs : List ControlFrame) (rest : List ℕ) (e : ValidationError) → fs ≡ [] → rest ≡ [] → IsFaultOfRest c s fs rest e → ⊥
no_fault_at_end c s [] [] e none last h = h
no_fault_at_end c s [] (b ∷ rest) e none last h = absurd cc
no_fault_at_end c s (f ∷ fs) rest e none last h = absurd cc

pub valid_has_no_fault : ValidHasNoFault
valid_has_no_fault g place bytes f valid fault =
    let c = g.context in
    let stop = at_fault c fault.reached fault.reached.controls fault.rest f.error refl fault.fault in
    let same = one_end c valid.operators fault.front _ valid.reached fault.reached place place bytes [] fault.rest valid.leads.listed fault.leads.listed valid.leads.steps fault.leads.steps
    (at_end c valid.reached valid.closed) stop in
    no_fault_at_end c fault.reached fault.reached.controls fault.rest f.error (ap (λ (s : BodyState). s.controls) (sym same.1) ∙ valid.closed) (sym same.0) fault.fault

abbrev failure_at : ValidationError → ℕ → ValidationFailure
failure_at error at = record { error = error; at = at }

pub one_fault_of_code : OneFaultOfCode
one_fault_of_code g place bytes e f first second =
    let c = g.context in
    let stops = at_fault c first.reached first.reached.controls first.rest e.error refl first.fault in
    let stop = at_fault c second.reached second.reached.controls second.rest f.error refl second.fault in
    let same = one_end c first.front second.front _ first.reached second.reached place place bytes first.rest second.rest first.leads.listed second.leads.listed first.leads.steps second.leads.steps stops stop in
    let there : IsFaultOfRest c first.reached first.reached.controls first.rest f.error =
    subst (λ (s : BodyState). IsFaultOfRest c s s.controls first.rest f.error) (sym same.1) (subst (λ (rest : List ℕ). IsFaultOfRest c second.reached second.reached.controls rest f.error) (sym same.0) second.fault)
    in
    let errors : e.error ≡ f.error = same_fault c first.reached first.reached.controls first.rest e.error f.error first.fault there in
    let places : e.at ≡ f.at = (let h = first.place_is in let k = second.place_is in let l = ap length same.0 in omega arith) in
    ap (λ x. failure_at x e.at) errors ∙ ap (failure_at f.error) places
