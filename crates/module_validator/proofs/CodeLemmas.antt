-- The validity of code as a function follows the operators that its bytes encode.
use Rattle.std.proofs.Common.{◌≡◌, ◌⊎◌, ℕ, zero, suc, ◌+◌, ◌-◌, ◌<◌, ◌≤◌, Bool, true, false, cond, List, [], ◌∷◌, ◌++◌, length, Result, Ok, Err, refl, sym, ap, subst, ◌∙◌, inl, inr, arith, length-append}
use Rattle.wasm_numbers.specs.declared.fault.ReadFault.{ReadFault}
use Rattle.wasm_numbers.specs.Results.{◌>>=◌, with_fault}
use Rattle.wasm_numbers.proofs.ResultLemmas.{bind_ok, with_fault_ok, ok_same}
use Rattle.wasm_operators.specs.Laws.{AreBytes}
use Rattle.wasm_operators.specs.Operations.{RawOperation}
use Rattle.wasm_operators.specs.OperatorList.{Placed, Lists}
use Rattle.wasm_operators.specs.Spelling.{Spells, read_operation}
use Rattle.wasm_operators.proofs.ListLaws.{spelt_length}
use Rattle.wasm_operators.proofs.OperationLaws.{operations_agree}
use Rattle.wasm_operators.proofs.ReadingBytes.{reading_agrees}
use Rattle.wasm_body.specs.declared.error.ParseError.TheVariants as parse
use Rattle.wasm_body.specs.Control.{Control, control_of}
use Rattle.wasm_body.specs.Naming.{NamedOperation}
use Rattle.wasm_body.specs.NormalForm.{Typing}
use Rattle.wasm_body.specs.Validity.{ControlFrame, OperandRules, Refusal, Stacks, State, step_in}
use Rattle.wasm_typing.specs.StandardRules.{standard_rules}
use Rattle.wasm_context.specs.Validation.{BodyContext, BodyState, typing_in, named_step, raw_named, raw_step, check_in, steps_through, refusal_number}
use Rattle.wasm_sections.specs.declared.fault.ModuleError.{ModuleError}
use Rattle.wasm_sections.specs.declared.fault.ModuleFault.TheVariants as fault
use Rattle.wasm_validation.specs.declared.error.ValidationError.{ValidationError}
use Rattle.wasm_validation.specs.declared.error.ValidationError.TheVariants as error
use Rattle.wasm_validation.specs.declared.error.ValidationFailure.{ValidationFailure}
use Rattle.wasm_validation.specs.BodyValidation.{BodySetting, begin_state, IsValidCode, IsFaultOfRest, IsFirstFaultOfCode}
use Rattle.module_context.specs.InvalidFaults.{invalid_operator}
use Rattle.module_validator.specs.CodeValidity.{fault_there, no_frames, is_closed, code_from, code_validity}
use Rattle.module_validator.specs.CodeVerdicts.{fault_of_body, error_of_body, ValidCodeIsOk, FirstFaultIsErr}

-- ---- after the function no operator is taken

closed_refuses : {T : Type 0} (m : Typing) (r : OperandRules T) (k : Control) (o : NamedOperation) (s : Stacks T) (t : State T) → step_in m r k o s [] ≡ Ok t → ⊥
closed_refuses m r k o s t h = absurd cc

nothing_after : (c : BodyContext) (o : RawOperation) (s t : BodyState) → s.controls ≡ [] → raw_step c o s ≡ Ok t → ⊥
nothing_after c o s t none h =
    let p = bind_ok (raw_named c o) (λ n. named_step c n s) t h in
    closed_refuses (typing_in c) (standard_rules c.operands) (control_of p.0) p.0 s.stacks t
    (subst (λ (fs : List ControlFrame). step_in (typing_in c) (standard_rules c.operands) (control_of p.0) p.0 s.stacks fs ≡ Ok t) none p.2)

no_frames_are : (fs : List ControlFrame) → no_frames fs ≡ true → fs ≡ []
no_frames_are [] h = refl
no_frames_are (f ∷ fs) h = absurd cc

some_frames : (fs : List ControlFrame) → (fs ≡ [] → ⊥) → no_frames fs ≡ false
some_frames [] h = absurd (h refl)
some_frames (f ∷ fs) h = refl

-- where an operator is taken, the function is open
open_before : (c : BodyContext) (o : RawOperation) (s t : BodyState) → raw_step c o s ≡ Ok t → is_closed s ≡ false
open_before c o s t h = some_frames s.controls (λ none. nothing_after c o s t none h)

-- ---- one operator

-- what follows the operator at the front
abbrev after_read : (most : ℕ) → BodyContext → BodyState → (place : ℕ) → (bytes : List ℕ) → RawOperation × List ℕ → Result (Unit {0}) ModuleError
after_read most c s place bytes x =
    with_fault (λ e. fault_there place invalid_operator) (raw_step c x.0 s) >>= λ t. code_from most c t (place + (length bytes - length x.1)) x.1

abbrev code_at : (most : ℕ) → BodyContext → BodyState → (place : ℕ) → (bytes : List ℕ) → Result (Unit {0}) ModuleError
code_at most c s place bytes = with_fault (λ f. fault_there place (fault.Read f)) (read_operation bytes) >>= after_read most c s place bytes

begun : (most : ℕ) (c : BodyContext) (s : BodyState) (place b : ℕ) (bs : List ℕ)
    → code_from (suc most) c s place (b ∷ bs) ≡ cond (is_closed s) (Err (fault_there place (fault.Parse parse.Trailing))) (code_at most c s place (b ∷ bs))
unfolding code_from
begun most c s place b bs = refl

ended : (most : ℕ) (c : BodyContext) (s : BodyState) (place : ℕ)
    → code_from most c s place [] ≡ cond (is_closed s) (Ok tt) (Err (fault_there place (fault.Parse parse.MissingEnd)))
unfolding code_from
ended zero c s place = refl
ended (suc most) c s place = refl

-- with bytes that are left there is fuel
left_over : (most : ℕ) (c : BodyContext) (s : BodyState) (place : ℕ) (bytes : List ℕ) → 0 < length bytes → length bytes ≤ most
    → (k : ℕ) × (most ≡ suc k) × (code_from most c s place bytes ≡ cond (is_closed s) (Err (fault_there place (fault.Parse parse.Trailing))) (code_at k c s place bytes))
left_over most c s place [] some enough = absurd (omega arith)
left_over zero c s place (b ∷ bs) some enough = absurd (omega arith)
left_over (suc most) c s place (b ∷ bs) some enough = (most, refl, begun most c s place b bs)

-- ---- operators that are taken

-- After a front that is taken the validity is that of the rest.
record Follows (most : ℕ) (c : BodyContext) (s : BodyState) (place : ℕ) (bytes : List ℕ) (at : ℕ) (rest : List ℕ) (t : BodyState) : Type 0 where
  left : ℕ
  enough : length rest ≤ left
  same : code_from most c s place bytes ≡ code_from left c t at rest

one_taken : (most : ℕ) (c : BodyContext) (s t : BodyState) (o : RawOperation) (place at : ℕ) (bytes text following : List ℕ) → length bytes ≤ most → bytes ≡ text ++ following → Spells o text
    → at ≡ place + length text → raw_step c o s ≡ Ok t → Follows most c s place bytes at following t
one_taken most c s t o place at bytes text following enough parts spells here step =
    let some = spelt_length o text spells in
    let long : length bytes ≡ length text + length following = ap length parts ∙ length-append text following in
    let begin = left_over most c s place bytes (omega arith) enough in
    let read : read_operation bytes ≡ Ok (o, following) = ap read_operation parts ∙ operations_agree.again o text following spells in
    let taken : code_at begin.0 c s place bytes ≡ code_from begin.0 c t (place + (length bytes - length following)) following =
    ap (λ (r : Result (RawOperation × List ℕ) ReadFault). with_fault (λ f. fault_there place (fault.Read f)) r >>= after_read begin.0 c s place bytes) read
    ∙ ap (λ (r : Result BodyState Refusal). with_fault (λ e. fault_there place invalid_operator) r >>= λ t. code_from begin.0 c t (place + (length bytes - length following)) following) step
    in
    let next : place + (length bytes - length following) ≡ at = omega arith in
    record {
      left = begin.0;
      enough = (let h = begin.1 in omega arith);
      same = begin.2
          ∙ ap (λ (b : Bool). cond b (Err (fault_there place (fault.Parse parse.Trailing))) (code_at begin.0 c s place bytes)) (open_before c o s t step)
          ∙ taken ∙ ap (λ (n : ℕ). code_from begin.0 c t n following) next;
    }

taken_first : (c : BodyContext) (s t : BodyState) (x : Placed) (xs : List Placed) → steps_through c s (x ∷ xs) ≡ Ok t
    → (w : BodyState) × (raw_step c x.spelt s ≡ Ok w) × (steps_through c w xs ≡ Ok t)
taken_first c s t x xs h =
    let p = bind_ok (check_in c s x) (λ w. steps_through c w xs) t h in
    (p.0, with_fault_ok (λ e. refusal_number) (raw_step c x.spelt s) p.0 p.1, p.2)

front_taken : (xs : List Placed) (most : ℕ) (c : BodyContext) (s t : BodyState) (place at : ℕ) (bytes rest : List ℕ) → length bytes ≤ most → Lists xs place bytes rest
    → steps_through c s xs ≡ Ok t → at + length rest ≡ place + length bytes → Follows most c s place bytes at rest t
front_taken [] most c s t place at bytes rest enough listed steps here =
    let long : length bytes ≡ length rest = ap length listed in
    let one : s ≡ t = ok_same s t steps in
    let there : place ≡ at = omega arith in
    record {
      left = most;
      enough = omega arith;
      same = ap (λ (l : List ℕ). code_from most c s place l) listed ∙ ap (λ (n : ℕ). code_from most c s n rest) there ∙ ap (λ (u : BodyState). code_from most c u at rest) one;
    }
front_taken (x ∷ xs) most c s t place at bytes rest enough listed steps here =
    let text = listed.1 in
    let following = listed.2 in
    let p = taken_first c s t x xs steps in
    let long : length bytes ≡ length text + length following = ap length listed.3 ∙ length-append text following in
    let first = one_taken most c s p.0 x.spelt place (place + length text) bytes text following enough listed.3 listed.4 refl p.1 in
    let others = front_taken xs first.left c p.0 t (place + length text) at following rest first.enough listed.5 p.2 (omega arith) in
    record { left = others.left; enough = others.enough; same = first.same ∙ others.same }

-- ---- valid code

pub valid_is_ok : (g : BodySetting) (place : ℕ) (bytes : List ℕ) → IsValidCode g place bytes → code_validity g place bytes ≡ Ok tt
valid_is_ok g place bytes valid =
    let all = front_taken valid.operators (length bytes) g.context (begin_state g) valid.reached place (place + length bytes) bytes [] (omega arith) valid.leads.listed
    valid.leads.steps (omega arith) in
    all.same ∙ ended all.left g.context valid.reached (place + length bytes)
    ∙ ap (λ (fs : List ControlFrame). cond (no_frames fs) (Ok tt) (Err (fault_there (place + length bytes) (fault.Parse parse.MissingEnd)))) valid.closed

-- the operators of bytes whose validity is success
record Taken (c : BodyContext) (s : BodyState) (place : ℕ) (bytes : List ℕ) : Type 0 where
  operators : List Placed
  reached : BodyState
  listed : Lists operators place bytes []
  steps : steps_through c s operators ≡ Ok reached
  closed : reached.controls ≡ []

not_both : (x y : ModuleError) → (let r : Result (Unit {0}) ModuleError = Err x in r) ≡ Ok tt → ⊥
not_both x y e = absurd cc

ok_at_end : (b : Bool) (e : ModuleError) → cond b (Ok tt) (let r : Result (Unit {0}) ModuleError = Err e in r) ≡ Ok tt → b ≡ true
ok_at_end true e h = refl
ok_at_end false e h = absurd cc

ok_inside : (b : Bool) (e : ModuleError) (r : Result (Unit {0}) ModuleError) → cond b (Err e) r ≡ Ok tt → r ≡ Ok tt
ok_inside true e r h = absurd cc
ok_inside false e r h = h

abbrev operator_at : RawOperation → ℕ → Placed
operator_at o place = record { spelt = o; place = place }

one_more : (c : BodyContext) (s t : BodyState) (o : RawOperation) (place : ℕ) (bytes text following : List ℕ) → bytes ≡ text ++ following → Spells o text → raw_step c o s ≡ Ok t
    → Taken c t (place + (length bytes - length following)) following → Taken c s place bytes
one_more c s t o place bytes text following parts spells step others =
    let first : check_in c s (operator_at o place) ≡ Ok t = ap (with_fault (λ e. refusal_number)) step in
    let long : length bytes ≡ length text + length following = ap length parts ∙ length-append text following in
    let next : place + (length bytes - length following) ≡ place + length text = omega arith in
    record {
      operators = operator_at o place ∷ others.operators;
      reached = others.reached;
      listed = (refl, text, following, parts, spells, subst (λ (n : ℕ). Lists others.operators n following []) next others.listed);
      steps = ap (λ (r : Result BodyState ℕ). r >>= λ w. steps_through c w others.operators) first ∙ others.steps;
      closed = others.closed;
    }

ok_is_taken : (most : ℕ) (c : BodyContext) (s : BodyState) (place : ℕ) (bytes : List ℕ) → AreBytes bytes → code_from most c s place bytes ≡ Ok tt → Taken c s place bytes
unfolding code_from
ok_is_taken most c s place [] fits h = record {
  operators = [];
  reached = s;
  listed = refl;
  steps = refl;
  closed = no_frames_are s.controls (ok_at_end (is_closed s) (fault_there place (fault.Parse parse.MissingEnd)) (sym (ended most c s place) ∙ h));
}
ok_is_taken zero c s place (b ∷ bs) fits h = absurd cc
ok_is_taken (suc most) c s place (b ∷ bs) fits h =
    let bytes = b ∷ bs in
    let here = ok_inside (is_closed s) (fault_there place (fault.Parse parse.Trailing)) (code_at most c s place bytes) (sym (begun most c s place b bs) ∙ h) in
    let p = bind_ok (with_fault (λ f. fault_there place (fault.Read f)) (read_operation bytes)) (after_read most c s place bytes) tt here in
    let q = bind_ok (with_fault (λ e. fault_there place invalid_operator) (raw_step c p.0.0 s)) (λ t. code_from most c t (place + (length bytes - length p.0.1)) p.0.1) tt p.2 in
    let read = with_fault_ok (λ f. fault_there place (fault.Read f)) (read_operation bytes) p.0 p.1 in
    let step = with_fault_ok (λ e. fault_there place invalid_operator) (raw_step c p.0.0 s) q.0 q.1 in
    let spelt = reading_agrees.takes bytes p.0.0 p.0.1 fits read in
    one_more c s q.0 p.0.0 place bytes spelt.0 p.0.1 spelt.1 spelt.2 step
    (ok_is_taken most c q.0 (place + (length bytes - length p.0.1)) p.0.1 spelt.3 q.2)

pub valid_code_is_ok : ValidCodeIsOk
valid_code_is_ok g place bytes fits = (
  valid_is_ok g place bytes,
  λ h.
      let all = ok_is_taken (length bytes) g.context (begin_state g) place bytes fits h in
      record { operators = all.operators; reached = all.reached; leads = record { listed = all.listed; steps = all.steps }; closed = all.closed },
)

-- ---- the first fault

abbrev fault_code : ℕ → ValidationError → Result (Unit {0}) ModuleError
fault_code at e = Err (error_of_body (record { error = e; at = at }))

step_fails : (most : ℕ) (c : BodyContext) (at : ℕ) (bytes : List ℕ) (x : RawOperation × List ℕ) (step : Result BodyState Refusal) (e : ValidationError) → with_fault (λ e. error.Invalid) step ≡ Err e
    → (with_fault (λ e. fault_there at invalid_operator) step >>= λ t. code_from most c t (at + (length bytes - length x.1)) x.1) ≡ fault_code at e
step_fails most c at bytes x (Ok t) e h = absurd cc
step_fails most c at bytes x (Err r) e h = let same : error.Invalid ≡ e = cc in ap (fault_code at) same

read_fails : (most : ℕ) (c : BodyContext) (s : BodyState) (at : ℕ) (bytes : List ℕ) (read : Result (RawOperation × List ℕ) ReadFault) (e : ValidationError)
    → (with_fault error.Read read >>= λ x. with_fault (λ e. error.Invalid) (raw_step c x.0 s)) ≡ Err e
    → (with_fault (λ f. fault_there at (fault.Read f)) read >>= after_read most c s at bytes) ≡ fault_code at e
read_fails most c s at bytes (Ok x) e h = step_fails most c at bytes x (raw_step c x.0 s) e h
read_fails most c s at bytes (Err f) e h = let same : error.Read f ≡ e = cc in ap (fault_code at) same

rest_fails : (most : ℕ) (c : BodyContext) (s : BodyState) (fs : List ControlFrame) (at : ℕ) (rest : List ℕ) (e : ValidationError) → s.controls ≡ fs → length rest ≤ most
    → IsFaultOfRest c s fs rest e → code_from most c s at rest ≡ fault_code at e
rest_fails most c s [] at [] e frames enough fault_is = absurd fault_is
rest_fails most c s [] at (b ∷ rest) e frames enough fault_is =
    let begin = left_over most c s at (b ∷ rest) (omega arith) enough in
    begin.2 ∙ ap (λ (fs : List ControlFrame). cond (no_frames fs) (Err (fault_there at (fault.Parse parse.Trailing))) (code_at begin.0 c s at (b ∷ rest))) frames
    ∙ ap (fault_code at) (sym fault_is)
rest_fails most c s (f ∷ fs) at [] e frames enough fault_is =
    ended most c s at ∙ ap (λ (fs : List ControlFrame). cond (no_frames fs) (Ok tt) (Err (fault_there at (fault.Parse parse.MissingEnd)))) frames
    ∙ ap (fault_code at) (sym fault_is)
rest_fails most c s (f ∷ fs) at (b ∷ rest) e frames enough fault_is =
    let begin = left_over most c s at (b ∷ rest) (omega arith) enough in
    begin.2 ∙ ap (λ (fs : List ControlFrame). cond (no_frames fs) (Err (fault_there at (fault.Parse parse.Trailing))) (code_at begin.0 c s at (b ∷ rest))) frames
    ∙ read_fails begin.0 c s at (b ∷ rest) (read_operation (b ∷ rest)) e fault_is

pub first_fault_is_err : FirstFaultIsErr
first_fault_is_err g place bytes f first =
    let c = g.context in
    let all = front_taken first.front (length bytes) c (begin_state g) first.reached place f.at bytes first.rest (omega arith) first.leads.listed first.leads.steps first.place_is in
    all.same ∙ rest_fails all.left c first.reached first.reached.controls f.at first.rest f.error refl all.enough first.fault

-- the fault that the validator of bodies returns
pub fault_gives : (g : BodySetting) (place : ℕ) (bytes : List ℕ) (f : ValidationFailure) → (f.error ≡ error.Memory) ⊎ IsFirstFaultOfCode g place bytes f
    → ((error_of_body f).fault ≡ fault.Memory) ⊎ (code_validity g place bytes ≡ Err (error_of_body f))
fault_gives g place bytes f (inl memory) = inl (ap fault_of_body memory)
fault_gives g place bytes f (inr first) = inr (first_fault_is_err g place bytes f first)
