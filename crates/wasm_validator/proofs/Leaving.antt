-- Operators after which code can't be reached.
use Rattle.std.proofs.Common.{◌≡◌, ℕ, List, [], ◌∷◌, ◌++◌, Bool, true, false, Result, Ok, Err, refl, sym, ap, ◌∙◌, subst}
use Rattle.std.specs.Result.{result_ok}
use Rattle.std.specs.Prelude.{is_some, OnOk, IfErr}
use Rattle.wasm_types.specs.declared.val_type.ValType.{ValType}
use Rattle.walrus_ir.specs.Types.{Signature}
use Rattle.wasm_numbers.specs.Results.{◌>>=◌}
use Rattle.wasm_operators.specs.declared.types.Opcode.TheVariants.{Byte}
use Rattle.wasm_operators.specs.Operations.{operation, label}
use Rattle.wasm_body.specs.Validity as algorithm
use Rattle.wasm_body.specs.Validity.{ControlFrame, Stacks, Point, Change, Checked, refused, demand, exnref, up_to, label_types}
use Rattle.wasm_body.specs.ValidityLaws.{KnownOperand}
use Rattle.wasm_typing.specs.Matching.{matches_values}
use Rattle.wasm_typing.specs.Operands.{InstructionType, ◌⟶◌, Operands, pop_operands, push_operands, typed}
use Rattle.wasm_typing.specs.StandardRules.{standard_rules}
use Rattle.wasm_context.specs.Validation.{BodyContext, BodyState, typing_in, tag_signature, parameters_of}
use Rattle.wasm_validator.specs.declared.fault.Fault.{Fault}
use Rattle.wasm_validator.specs.declared.fault.Fault.TheVariants as fault
use Rattle.wasm_validator.specs.declared.state.Validator.{Validator}
use Rattle.wasm_validator.specs.States.{Known, of_value}
use Rattle.wasm_validator.specs.Steps.{ResultsIn, setting_of, operand_stack, stacks_of, inner_of, outer_of, labelled, pop_in, pop_all_in, push_each_in, typed_in, ReachesHeight}
use Rattle.wasm_validator.specs.Core.{step_of, open_frames, with_stack, unreachable_with, branch_in, leaves_with, throws_in, tail_in}
use Rattle.wasm_validator.proofs.TypedPoints.{pops_all}
use Rattle.wasm_validator.proofs.StepResults.{nested, goes_on}
use Rattle.wasm_validator.proofs.Branches.{last_first, push_after, high, low, whole, long, ends_low}

-- ---- types that are popped and pushed, and one more

exchange_rest : (b : BodyContext) (ts us : List (ValType ℕ)) (a : Checked (List Known))
    → (a >>= λ ys. Ok (push_each_in b (ts ++ us) ys)) ≡ ((a >>= λ ys. Ok (push_each_in b ts ys)) >>= λ ys. Ok (push_each_in b us ys))
exchange_rest b ts us (Err e) = refl
exchange_rest b ts us (Ok ys) = ap Ok (push_after b ts us ys)

exchange_first : (b : BodyContext) (f : ControlFrame) (ts us : List (ValType ℕ)) (a : Checked (List Known))
    → ((a >>= pop_all_in b f ts) >>= λ ys. Ok (push_each_in b (ts ++ us) ys)) ≡ (a >>= λ zs. typed_in b f ts ts zs >>= λ ys. Ok (push_each_in b us ys))
exchange_first b f ts us (Err e) = refl
exchange_first b f ts us (Ok zs) = exchange_rest b ts us (pop_all_in b f ts zs)

pub exchange_is : (b : BodyContext) (f : ControlFrame) (ts us : List (ValType ℕ)) (t : ValType ℕ) (xs : List Known)
    → typed_in b f (ts ++ t ∷ []) (ts ++ us) xs ≡ (pop_in b f t xs >>= λ zs. typed_in b f ts ts zs >>= λ ys. Ok (push_each_in b us ys))
exchange_is b f ts us t xs = ap (λ a. a >>= λ ys. Ok (push_each_in b (ts ++ us) ys)) (last_first b f ts t xs) ∙ exchange_first b f ts us (pop_in b f t xs)

-- ---- operators of the algorithm

abbrev pub leaving : Validator → Stacks KnownOperand → Checked BodyState
leaving v t = Ok (algorithm.unreachable (typing_in (setting_of v)) (standard_rules (setting_of v).operands) (inner_of v) t (outer_of v))

pub popped_then : (v : Validator) (ts : List (ValType ℕ)) → ((pop_all_in (setting_of v) (inner_of v) ts (operand_stack v) >>= λ xs. Ok (with_stack v xs)) >>= leaving v) ≡ leaves_with v ts
popped_then v ts = nested (pop_all_in (setting_of v) (inner_of v) ts (operand_stack v)) (λ xs. Ok (with_stack v xs)) (leaving v)

by_label : (v : Validator) (a : Checked ControlFrame)
    → ((a >>= λ d. pop_all_in (setting_of v) (inner_of v) (label_types d) (operand_stack v) >>= λ xs. Ok (with_stack v xs)) >>= leaving v) ≡ (a >>= λ d. leaves_with v (label_types d))
by_label v (Err e) = refl
by_label v (Ok d) = popped_then v (label_types d)

pub branch_is : (v : Validator) (n : ℕ) → step_of v (operation (Byte 0x0c) (label n ∷ [])) ≡ branch_in v n
branch_is v n = by_label v (labelled v n)

pub return_is : (v : Validator) → step_of v (operation (Byte 0x0f) []) ≡ leaves_with v (algorithm.results (open_frames v))
return_is v = popped_then v (algorithm.results (open_frames v))

one_popped : (v : Validator) (a : Checked (List Known)) → ((a >>= λ xs. Ok (with_stack v xs)) >>= leaving v) ≡ ((a >>= λ ys. Ok ys) >>= λ xs. Ok (unreachable_with v xs))
one_popped v (Ok xs) = refl
one_popped v (Err e) = refl

pub throw_ref_is : (v : Validator) → step_of v (operation (Byte 0x0a) []) ≡ leaves_with v (exnref ∷ [])
throw_ref_is v = one_popped v (pop_in (setting_of v) (inner_of v) exnref (operand_stack v))

abbrev thrown : Validator → Checked Signature → Checked BodyState
thrown v a = a >>= λ s. (pop_all_in (setting_of v) (inner_of v) (parameters_of a) (operand_stack v) >>= λ xs. Ok (with_stack v xs)) >>= leaving v

pub throw_is : (v : Validator) (tag : ℕ) (s : Signature) → tag_signature (setting_of v) tag ≡ Ok s → throws_in v tag ≡ leaves_with v s.parameters
throw_is v tag s h = ap (thrown v) h ∙ popped_then v s.parameters

pub throw_refused : (v : Validator) (tag : ℕ) → tag_signature (setting_of v) tag ≡ Err refused → throws_in v tag ≡ Err refused
throw_refused v tag h = ap (thrown v) h

-- ---- tail calls

leaves_first : (v : Validator) (ts : List (ValType ℕ)) (a : Checked (List Known))
    → ((a >>= pop_all_in (setting_of v) (inner_of v) ts) >>= λ ys. Ok (unreachable_with v ys)) ≡ (a >>= λ xs. pop_all_in (setting_of v) (inner_of v) ts xs >>= λ ys. Ok (unreachable_with v ys))
leaves_first v ts (Err e) = refl
leaves_first v ts (Ok xs) = refl

pub leaves_last : (v : Validator) (ts : List (ValType ℕ)) (t : ValType ℕ)
    → leaves_with v (ts ++ t ∷ []) ≡ (pop_in (setting_of v) (inner_of v) t (operand_stack v) >>= λ xs. pop_all_in (setting_of v) (inner_of v) ts xs >>= λ ys. Ok (unreachable_with v ys))
leaves_last v ts t =
    ap (λ a. a >>= λ ys. Ok (unreachable_with v ys)) (last_first (setting_of v) (inner_of v) ts t (operand_stack v))
    ∙ leaves_first v ts (pop_in (setting_of v) (inner_of v) t (operand_stack v))

pub tail_tested : (v : Validator) (ts us : List (ValType ℕ)) (test : Bool) → matches_values (setting_of v).operands us (algorithm.results (open_frames v)) ≡ test
    → tail_in v (Ok (ts ⟶ us)) ≡ (demand test >>= λ u. leaves_with v ts)
tail_tested v ts us test h = ap (λ b. demand b >>= λ u. leaves_with v ts) h

module _ (v : Validator) (reach : ReachesHeight v) where
  abbrev point : Point KnownOperand
  point = algorithm.point (typing_in (setting_of v)) (standard_rules (setting_of v).operands) (inner_of v) (stacks_of v)

  abbrev tail_state : Bool → Checked BodyState
  tail_state test = (demand test >>= λ u. Ok (stacks_of v)) >>= leaving v

  abbrev changed : Operands → Checked (Change KnownOperand)
  changed xs = Ok (record { operands = push_operands [] xs; initialises = [] })

  by_pops : (ts : List (ValType ℕ)) (a : Checked Operands) (b : Checked (List Known)) → (a >>= λ zs. Ok (zs ++ low v reach)) ≡ b
      → tail_state (is_some (result_ok (a >>= changed))) ≡ (b >>= λ xs. Ok (unreachable_with v xs))
  by_pops ts (Err refused) b h = ap (λ z. z >>= λ xs. Ok (unreachable_with v xs)) h
  by_pops ts (Ok zs) b h =
      let l = ends_low v.inner.height (low v reach) (Ok zs) (zs ++ low v reach) (long v reach) refl in
      ap (λ xs. Ok (algorithm.state (with_stack v xs) (record (inner_of v) { unreachable = true } ∷ outer_of v))) (sym l)
      ∙ ap (λ z. z >>= λ xs. Ok (unreachable_with v xs)) h

  by_match : (t : InstructionType) (test : Bool)
      → tail_state (is_some (result_ok (demand test >>= λ u. typed (setting_of v).operands (t.takes ⟶ []) point))) ≡ (demand test >>= λ u. leaves_with v t.takes)
  by_match t false = refl
  by_match t true =
      by_pops t.takes (pop_operands (setting_of v).operands (inner_of v).unreachable t.takes (high v reach)) (pop_all_in (setting_of v) (inner_of v) t.takes (operand_stack v))
      (sym (pops_all (typing_in (setting_of v)) (setting_of v).operands (inner_of v) t.takes (high v reach) (low v reach) (long v reach)) ∙ ap (pop_all_in (setting_of v) (inner_of v) t.takes) (whole v reach))

  pub tail_is : (a : Checked InstructionType)
      → tail_state (is_some (result_ok (a >>= λ t. demand (matches_values (setting_of v).operands t.gives (algorithm.results (open_frames v))) >>= λ u. typed (setting_of v).operands (t.takes ⟶ []) point)))
      ≡ tail_in v a
  tail_is (Err refused) = refl
  tail_is (Ok t) = by_match t (matches_values (setting_of v).operands t.gives (algorithm.results (open_frames v)))

-- ---- what the code does

-- the last operand is popped, and then those before it
pub tail_done : (v w : Validator) (s : BodyState) (ts us : List (ValType ℕ)) (t : ValType ℕ) (r : Result (Unit {0}) Fault)
    → matches_values (setting_of v).operands us (algorithm.results (open_frames v)) ≡ true
    → pop_in (setting_of v) (inner_of v) t (operand_stack v) ≡ Ok (operand_stack w) → w ≡ record v { operands = w.operands } → ResultsIn (leaves_with w ts) r s
    → ResultsIn (tail_in v (Ok (ts ++ t ∷ [] ⟶ us))) r s
tail_done v w s ts us t r h p same then =
    let rest : List Known → Checked BodyState = λ xs. pop_all_in (setting_of v) (inner_of v) ts xs >>= λ ys. Ok (unreachable_with v ys) in
    let after : ResultsIn (rest (operand_stack w)) r s = subst (λ (z : Validator). ResultsIn (pop_all_in (setting_of z) (inner_of z) ts (operand_stack w) >>= λ ys. Ok (unreachable_with z ys)) r s) same then in
    subst (λ a. ResultsIn a r s) (sym (tail_tested v (ts ++ t ∷ []) us true h ∙ leaves_last v ts t))
    (goes_on (pop_in (setting_of v) (inner_of v) t (operand_stack v)) rest (operand_stack w) s r p after)

-- types were popped and pushed, and one more is pushed
pub exchange_done : (v w x y : Validator) (ts : List (ValType ℕ)) (t u : ValType ℕ) (r : Result (Unit {0}) Fault)
    → pop_in (setting_of v) (inner_of v) t (operand_stack v) ≡ Ok (operand_stack w) → w ≡ record v { operands = w.operands }
    → typed_in (setting_of w) (inner_of w) ts ts (operand_stack w) ≡ Ok (operand_stack x) → OnOk r (operand_stack y ≡ of_value u ∷ operand_stack x) → IfErr r (λ e. e ≡ fault.Memory)
    → ResultsIn (typed_in (setting_of v) (inner_of v) (ts ++ t ∷ []) (ts ++ u ∷ []) (operand_stack v)) r (operand_stack y)
exchange_done v w x y ts t u (Err fault.Memory) p same q h e = tt
exchange_done v w x y ts t u (Err fault.Refused) p same q h e = absurd cc
exchange_done v w x y ts t u (Ok z) p same q h e =
    let b = setting_of v in
    let f = inner_of v in
    let rest : Checked (List Known) → Checked (List Known) = λ a. a >>= λ ys. Ok (push_each_in b (u ∷ []) ys) in
    exchange_is b f ts (u ∷ []) t (operand_stack v)
    ∙ ap (λ a. a >>= λ zs. rest (typed_in b f ts ts zs)) p
    ∙ ap (λ (k : Validator). rest (typed_in (setting_of k) (inner_of k) ts ts (operand_stack w))) (sym same)
    ∙ ap rest q
    ∙ ap Ok (sym h)
