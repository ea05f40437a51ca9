-- Plain operators, by their rules.
use Rattle.std.proofs.Common.{not, ◌≡◌, ℕ, ◌-◌, ◌≤◌, ◌++◌, length, arith, List, [], ◌∷◌, Bool, true, false, Option, Some, None, Result, Ok, Err, refl, sym, ap, subst, ◌∙◌}
use Rattle.std.specs.Prelude.{◌&&◌}
use Rattle.std.specs.Result.{result_ok}
use Rattle.std.proofs.lemmas.Bool.{false≢true}
use Rattle.std.proofs.lemmas.List.{take-append-drop, length-drop, reverse-append}
use Rattle.wasm_types.specs.declared.val_type.ValType.{ValType}
use Rattle.wasm_numbers.specs.Results.{◌>>=◌}
use Rattle.wasm_operators.specs.declared.types.Opcode.{Opcode}
use Rattle.wasm_body.specs.Control.{Does, Plain, Role, a_plain, role_of, control_by, control_of}
use Rattle.wasm_body.specs.Naming.{NamedOperation}
use Rattle.wasm_body.specs.Validity as algorithm
use Rattle.wasm_body.specs.Validity.{ControlFrame, Stacks, Checked, refused, demand, required, set_locals, above, up_to}
use Rattle.wasm_body.specs.ValidityLaws.{KnownOperand}
use Rattle.wasm_typing.specs.Operands.{InstructionType, ◌⟶◌, typed}
use Rattle.wasm_typing.specs.Rules.{Immediates, Rule, by_type, by_point}
use Rattle.wasm_typing.specs.RuleTable.{rule_of}
use Rattle.wasm_typing.specs.RuleLaws.{is_plain, stacks, type_by, type_of_operator}
use Rattle.wasm_typing.specs.StandardRules.{standard_rules, by_rule}
use Rattle.wasm_context.specs.Validation.{BodyContext, BodyState, typing_in, named_step}
use Rattle.wasm_validator.specs.declared.fault.Fault.{Fault}
use Rattle.wasm_validator.specs.declared.state.Validator.{Validator}
use Rattle.wasm_validator.specs.States.{Known}
use Rattle.wasm_validator.specs.Steps.{ResultsIn, setting_of, operand_stack, stacks_of, inner_of, outer_of, open_state, pop_in, pop_all_in, push_each_in, typed_in, ReachesHeight}
use Rattle.wasm_validator.specs.Plain.{stacks_with, state_with_stacks, plain_in, point_in, changed_in, pointed_in}
use Rattle.wasm_validator.proofs.StepResults.{nested, mapped}
use Rattle.wasm_validator.proofs.Lists.{length_onto}
use Rattle.wasm_validator.proofs.TypedPoints.{typed_point}

-- operands that were popped and pushed, by a type that initialises no locals
pub typed_done : (v w : Validator) (ts us : List (ValType ℕ)) (r : Result (Unit {0}) Fault)
    → ResultsIn (typed_in (setting_of v) (inner_of v) ts us (operand_stack v)) r (operand_stack w) → w ≡ record v { operands = w.operands }
    → ResultsIn (plain_in v (Ok (ts ⟶ us))) r (open_state w)
typed_done v w ts us r h same =
    let done = λ (xs : List Known). state_with_stacks v (stacks_with v [] xs) in
    let shown : open_state w ≡ done (operand_stack w) = ap open_state same in
    subst (ResultsIn (plain_in v (Ok (ts ⟶ us))) r) (sym shown) (mapped (typed_in (setting_of v) (inner_of v) ts us (operand_stack v)) done r (operand_stack w) h)

-- ---- what the algorithm does at a plain operator

plain_role : (r : Role) → is_plain r ≡ true → r ≡ a_plain
plain_role a_plain h = refl
plain_role _ h = absurd (false≢true h)

-- whether a rule gives a type
abbrev pub gives_type : Option Rule → Bool
gives_type (Some (by_type rule)) = true
gives_type _ = false

module _ (v : Validator) (reach : ReachesHeight v) where
  abbrev pub high : List Known
  high = above v.inner.height (operand_stack v)

  abbrev pub low : List Known
  low = up_to v.inner.height (operand_stack v)

  pub whole : high ++ low ≡ operand_stack v
  whole = take-append-drop (length (operand_stack v) - v.inner.height) (operand_stack v)

  pub long : v.inner.height ≡ length low
  long =
      let l = length_onto v.operands.items [] in
      let d = length-drop (length (operand_stack v) - v.inner.height) (operand_stack v) in
      let r : v.inner.height ≤ length v.operands.items = reach in
      omega arith

  -- what a rule makes of the operands, by a type
  typed_type : (t : InstructionType)
      → (required (result_ok (typed (setting_of v).operands t (point_in v)))
      >>= λ k. Ok (algorithm.changed (typing_in (setting_of v)) (standard_rules (setting_of v).operands) (inner_of v) k (stacks_of v)))
      ≡ (typed_in (setting_of v) (inner_of v) t.takes t.gives (operand_stack v) >>= λ xs. Ok (stacks_with v t.initialises xs))
  typed_type t =
      let b = setting_of v in
      let m = typing_in b in
      let r = standard_rules b.operands in
      let f = inner_of v in
      let ls = (stacks_of v).initialised in
      ap (λ xs. required (result_ok (typed b.operands t (algorithm.point m r f (stacks xs ls)))) >>= λ k. Ok (algorithm.changed m r f k (stacks xs ls))) (sym whole)
      ∙ typed_point m b.operands t f high low ls long
      ∙ ap (λ xs. pop_all_in b f t.takes xs >>= λ zs. Ok (stacks (push_each_in b t.gives zs) (set_locals t.initialises ls))) whole
      ∙ sym (nested (pop_all_in b f t.takes (operand_stack v)) (λ zs. Ok (push_each_in b t.gives zs)) (λ xs. Ok (stacks xs (set_locals t.initialises ls))))

  abbrev pub change : algorithm.Change KnownOperand → Checked (Stacks KnownOperand)
  change k = Ok (algorithm.changed (typing_in (setting_of v)) (standard_rules (setting_of v).operands) (inner_of v) k (stacks_of v))

  abbrev pub after : Stacks KnownOperand → Checked BodyState
  after s = Ok (state_with_stacks v s)

  abbrev pub rule_then : Option Rule → Immediates → Checked BodyState
  rule_then row is = (required (result_ok (required row >>= λ rule. by_rule (setting_of v).operands rule is (point_in v))) >>= change) >>= after

  pub of_type : (type : Checked InstructionType)
      → ((required (result_ok (type >>= λ t. typed (setting_of v).operands t (point_in v))) >>= change) >>= after) ≡ plain_in v type
  of_type (Err refused) = refl
  of_type (Ok t) =
      ap (λ a. a >>= after) (typed_type t)
      ∙ nested (typed_in (setting_of v) (inner_of v) t.takes t.gives (operand_stack v)) (λ xs. Ok (stacks_with v t.initialises xs)) after

  of_row : (row : Option Rule) (is : Immediates) → gives_type row ≡ true → rule_then row is ≡ plain_in v (type_by (setting_of v).operands is row)
  of_row (Some (by_type rule)) is h = of_type (rule (setting_of v).operands is)
  of_row (Some (by_point rule)) is h = absurd (false≢true h)
  of_row None is h = absurd (false≢true h)

  pub does_plain : (o : NamedOperation) → is_plain (role_of o.opcode) ≡ true → named_step (setting_of v) o (open_state v) ≡ rule_then (rule_of o.opcode) o.immediates
  does_plain o h =
      ap (λ r. algorithm.step_in (typing_in (setting_of v)) (standard_rules (setting_of v).operands) (control_by r o.immediates) o (stacks_of v) (inner_of v ∷ outer_of v))
      (plain_role (role_of o.opcode) h)

  pub plain_step : (o : NamedOperation) → is_plain (role_of o.opcode) ≡ true → gives_type (rule_of o.opcode) ≡ true
      → named_step (setting_of v) o (open_state v) ≡ plain_in v (type_of_operator (setting_of v).operands o)
  plain_step o h g = does_plain o h ∙ of_row (rule_of o.opcode) o.immediates g

-- ---- calls: the last type first

pub last_then : (b : BodyContext) (f : ControlFrame) (ts : List (ValType ℕ)) (t : ValType ℕ) (us : List (ValType ℕ)) (xs : List Known)
    → typed_in b f (ts ++ t ∷ []) us xs ≡ (pop_in b f t xs >>= typed_in b f ts us)
last_then b f ts t us xs =
    ap (λ l. algorithm.pop_each (typing_in b) (standard_rules b.operands) f l xs >>= λ ys. Ok (push_each_in b us ys)) (reverse-append ts (t ∷ []))
    ∙ nested (pop_in b f t xs) (pop_all_in b f ts) (λ ys. Ok (push_each_in b us ys))

-- ---- types that are looked up, test by test

pub same_type : (v w : Validator) (type want : Checked InstructionType) (r : Result (Unit {0}) Fault) → type ≡ want
    → ResultsIn (plain_in v want) r (open_state w) → ResultsIn (plain_in v type) r (open_state w)
same_type v w type want r e h = subst (λ t. ResultsIn (plain_in v t) r (open_state w)) (sym e) h

pub bound : {X Y : Type 0} (a : Checked X) (x : X) (k : X → Checked Y) → a ≡ Ok x → (a >>= k) ≡ k x
bound a x k h = ap (λ b. b >>= k) h

-- a test that didn't refuse
pub passed : {Y : Type 0} (test : Bool) (k : Unit {0} → Checked Y) → not test ≡ false → (demand test >>= k) ≡ k tt
passed true k h = refl
passed false k h = absurd (false≢true (sym h))

-- the same of a test that the code makes by a function
pub passed_as : {Y : Type 0} (test result : Bool) (k : Unit {0} → Checked Y) → test ≡ result → result ≡ true → (demand test >>= k) ≡ k tt
passed_as test result k e h = ap (λ b. demand b >>= k) (e ∙ h)

-- and of what it demands
pub demanded : {Y : Type 0} (a : Checked (Unit {0})) (result : Bool) (k : Unit {0} → Checked Y) → a ≡ demand result → result ≡ true → (a >>= k) ≡ k tt
demanded a result k e h = ap (λ b. b >>= k) (e ∙ ap demand h)

-- one more operand, of the last type
pub last_done : (v u w : Validator) (ts : List (ValType ℕ)) (t : ValType ℕ) (us : List (ValType ℕ)) (r : Result (Unit {0}) Fault)
    → pop_in (setting_of v) (inner_of v) t (operand_stack v) ≡ Ok (operand_stack u) → u ≡ record v { operands = u.operands }
    → ResultsIn (typed_in (setting_of u) (inner_of u) ts us (operand_stack u)) r (operand_stack w) → w ≡ record u { operands = w.operands }
    → ResultsIn (plain_in v (Ok (ts ++ t ∷ [] ⟶ us))) r (open_state w)
last_done v u w ts t us r pops same done again =
    let b = setting_of v in
    let f = inner_of v in
    let here : typed_in b f (ts ++ t ∷ []) us (operand_stack v) ≡ typed_in (setting_of u) (inner_of u) ts us (operand_stack u) =
    last_then b f ts t us (operand_stack v) ∙ ap (λ a. a >>= typed_in b f ts us) pops ∙ sym (ap (λ x. typed_in (setting_of x) (inner_of x) ts us (operand_stack u)) same) in
    let with_those : Validator → Validator = λ x. record x { operands = w.operands } in
    let whole : w ≡ record v { operands = w.operands } = again ∙ ap with_those same in
    typed_done v w (ts ++ t ∷ []) us r (subst (λ a. ResultsIn a r (operand_stack w)) (sym here) done) whole
