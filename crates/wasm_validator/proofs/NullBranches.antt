-- `br_on_null`, whose rule isn't a type.
use Rattle.std.proofs.Common.{◌≡◌, ℕ, List, [], ◌∷◌, ◌++◌, Result, Ok, Err, refl, sym, ap, subst, ◌∙◌}
use Rattle.std.specs.Prelude.{OnOk, IfErr}
use Rattle.std.specs.Result.{result_ok}
use Rattle.wasm_types.specs.declared.val_type.ValType.{ValType}
use Rattle.wasm_numbers.specs.Results.{◌>>=◌}
use Rattle.wasm_operators.specs.declared.types.Opcode.TheVariants.{Byte}
use Rattle.wasm_operators.specs.Operations.{operation, label}
use Rattle.wasm_body.specs.Validity as algorithm
use Rattle.wasm_body.specs.Validity.{ControlFrame, Change, Checked, required, label_types}
use Rattle.wasm_body.specs.ValidityLaws.{KnownOperand}
use Rattle.wasm_typing.specs.Operands.{◌⟶◌, Operands, PoppedReference, pop_reference, pop_operands, push_operands, typed, with_operand_list, not_null}
use Rattle.wasm_typing.specs.StandardRules.{branch_on_null}
use Rattle.wasm_context.specs.Validation.{BodyState, typing_in, raw_step}
use Rattle.wasm_context.specs.TypeLists.{types_in}
use Rattle.wasm_context.specs.declared.blocks.TypeList.{TypeList}
use Rattle.wasm_validator.specs.declared.fault.Fault.{Fault}
use Rattle.wasm_validator.specs.declared.fault.Fault.TheVariants as fault
use Rattle.wasm_validator.specs.declared.state.Validator.{Validator}
use Rattle.wasm_validator.specs.States.{Known}
use Rattle.wasm_validator.specs.Steps.{ResultsIn, setting_of, operand_stack, inner_of, open_state, labelled, push_each_in, typed_in, ReachesHeight}
use Rattle.wasm_validator.specs.Plain.{point_in}
use Rattle.wasm_validator.specs.Core.{with_operand_stack}
use Rattle.wasm_validator.specs.Popped.{popped_reference, reference_in}
use Rattle.wasm_validator.specs.NullBranches.{null_then, null_branch_in}
use Rattle.wasm_validator.proofs.StepResults.{passes_on}
use Rattle.wasm_validator.proofs.TypedPoints.{pops_all, pushes}
use Rattle.wasm_validator.proofs.PlainOperators.{low, long, change, after}
use Rattle.wasm_validator.proofs.PointRules.{shifted, reference_over, reference_whole, done, without_option}

module _ (v : Validator) (reach : ReachesHeight v) where
  abbrev rest : Operands
  rest = low v reach

  -- what the rule makes, after the reference was popped
  abbrev then_pushed : List (ValType ℕ) → PoppedReference → Checked (Change KnownOperand)
  then_pushed ts q =
      typed (setting_of v).operands (ts ⟶ ts) (with_operand_list (point_in v) q.below) >>= λ k.
      Ok (record k { operands = algorithm.Known (not_null q.reference) ∷ k.operands })

  by_pops : (ts : List (ValType ℕ)) (x : Known) (a : Checked Operands)
      → (((a >>= λ zs. Ok (let k : Change KnownOperand = record { operands = push_operands ts zs; initialises = [] } in k)) >>= λ k. Ok (record k { operands = x ∷ k.operands })) >>= done v reach)
      ≡ (((a >>= λ zs. Ok (zs ++ rest)) >>= λ ys. Ok (push_each_in (setting_of v) ts ys)) >>= λ xs. Ok (with_operand_stack v (x ∷ xs)))
  by_pops ts x (Err e) = refl
  by_pops ts x (Ok zs) = ap (λ xs. Ok (with_operand_stack v (x ∷ xs))) (pushes (typing_in (setting_of v)) (setting_of v).operands ts zs rest)

  then_whole : (ts : List (ValType ℕ)) (q : PoppedReference) → (then_pushed ts q >>= done v reach) ≡ null_then v ts (reference_over rest q)
  then_whole ts q =
      let b = setting_of v in
      let f = inner_of v in
      let x : Known = algorithm.Known (not_null q.reference) in
      by_pops ts x (pop_operands b.operands f.unreachable ts q.below)
      ∙ sym (ap (λ a. (a >>= λ ys. Ok (push_each_in b ts ys)) >>= λ xs. Ok (with_operand_stack v (x ∷ xs))) (pops_all (typing_in b) b.operands f ts q.below rest (long v reach)))

  by_label : (n : ℕ) (a : Checked ControlFrame)
      → ((a >>= λ d. required (result_ok (branch_on_null (setting_of v).operands (label n ∷ []) (label_types d) (point_in v))) >>= change v reach) >>= after v reach)
      ≡ (a >>= λ d. reference_in (inner_of v) (operand_stack v) >>= null_then v (label_types d))
  by_label n (Err e) = refl
  by_label n (Ok d) =
      without_option v reach (branch_on_null (setting_of v).operands (label n ∷ []) (label_types d) (point_in v))
      ∙ shifted (pop_reference (point_in v)) (reference_over rest) (reference_in (inner_of v) (operand_stack v)) (then_pushed (label_types d)) (done v reach) (null_then v (label_types d))
      (reference_whole v reach) (then_whole (label_types d))

  pub null_branch_is : (n : ℕ) → raw_step (setting_of v) (operation (Byte 0xd5) (label n ∷ [])) (open_state v) ≡ null_branch_in v n
  null_branch_is n = by_label n (labelled v n)

-- ---- what the code does

module _ (v w : Validator) (n : ℕ) (d : ControlFrame) (list : TypeList) (ts : List (ValType ℕ)) (k : KnownOperand) (at : labelled v n ≡ Ok d)
    (types : label_types d ≡ types_in v.context.now list) (listed : ts ≡ types_in w.context.now list)
    (pops : reference_in (inner_of v) (operand_stack v) ≡ Ok (popped_reference k (operand_stack w))) (same : w ≡ record v { operands = w.operands }) where
  abbrev then_in : List Known → Checked BodyState
  then_in xs = Ok (with_operand_stack v (algorithm.Known (not_null k) ∷ xs))

  branch_by : null_branch_in v n ≡ (typed_in (setting_of w) (inner_of w) ts ts (operand_stack w) >>= then_in)
  branch_by =
      let found : label_types d ≡ ts = types ∙ sym (ap (λ (u : Validator). types_in u.context.now list) same) ∙ sym listed in
      let xs = operand_stack w in
      ap (λ a. a >>= λ f. reference_in (inner_of v) (operand_stack v) >>= null_then v (label_types f)) at
      ∙ ap (λ l. reference_in (inner_of v) (operand_stack v) >>= null_then v l) found
      ∙ ap (λ a. a >>= null_then v ts) pops
      ∙ sym (ap (λ (u : Validator). typed_in (setting_of u) (inner_of u) ts ts xs >>= then_in) same)

  pub null_unapplied : (e : Fault) (x : List Known) (s : BodyState) → ResultsIn (typed_in (setting_of w) (inner_of w) ts ts (operand_stack w)) (Err e) x → ResultsIn (null_branch_in v n) (Err e) s
  null_unapplied e x s h = subst (λ a. ResultsIn a (Err e) s) (sym branch_by) (passes_on (typed_in (setting_of w) (inner_of w) ts ts (operand_stack w)) then_in x s e h)

  pub null_pushed : (x y : Validator) (o : Known) (r : Result (Unit {0}) Fault) → typed_in (setting_of w) (inner_of w) ts ts (operand_stack w) ≡ Ok (operand_stack x)
      → x ≡ record w { operands = x.operands } → o ≡ algorithm.Known (not_null k) → OnOk r (operand_stack y ≡ o ∷ operand_stack x) → IfErr r (λ e. e ≡ fault.Memory)
      → y ≡ record x { operands = y.operands } → ResultsIn (null_branch_in v n) r (open_state y)
  null_pushed x y o (Err fault.Memory) typed again is h e last = tt
  null_pushed x y o (Err fault.Refused) typed again is h e last = absurd cc
  null_pushed x y o (Ok u) typed again is h e last =
      let with_those : Validator → Validator = λ z. record z { operands = y.operands } in
      let all : y ≡ record v { operands = y.operands } = last ∙ ap with_those again ∙ ap with_those same in
      let pushed : operand_stack y ≡ algorithm.Known (not_null k) ∷ operand_stack x = h ∙ ap (λ z. z ∷ operand_stack x) is in
      branch_by ∙ ap (λ a. a >>= then_in) typed ∙ ap Ok (sym (ap open_state all ∙ ap (with_operand_stack v) pushed))
