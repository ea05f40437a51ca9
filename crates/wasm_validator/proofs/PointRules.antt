-- Operators by rules for operands: what a rule makes of the operands above the height of the innermost frame is what the methods make of the
-- whole stack.
use Rattle.std.proofs.Common.{◌≡◌, ℕ, List, [], ◌∷◌, ◌++◌, length, Bool, true, false, Option, Some, Ok, Err, refl, sym, ap, ◌∙◌}
use Rattle.std.specs.Prelude.{slice_get}
use Rattle.std.specs.Result.{result_ok}
use Rattle.wasm_types.specs.declared.val_type.AbstractHeapType.{AbstractHeapType}
use Rattle.wasm_types.specs.declared.val_type.HeapType.TheVariants.{Abstract}
use Rattle.wasm_types.specs.declared.val_type.ValType.{ValType}
use Rattle.wasm_types.specs.declared.val_type.ValType.TheVariants.{I32}
use Rattle.wasm_numbers.specs.Results.{◌>>=◌}
use Rattle.wasm_operators.specs.Operations.{local}
use Rattle.wasm_body.specs.Control.{role_of}
use Rattle.wasm_body.specs.Naming.{NamedOperation}
use Rattle.wasm_body.specs.Validity as algorithm
use Rattle.wasm_body.specs.Validity.{ControlFrame, Point, Change, Checked, demand, required}
use Rattle.wasm_body.specs.ValidityLaws.{KnownOperand}
use Rattle.wasm_typing.specs.Contexts as standard
use Rattle.wasm_typing.specs.Contexts.{OperandContext}
use Rattle.wasm_typing.specs.Matching.{matches_known}
use Rattle.wasm_typing.specs.Operands.{Operands, Popped, PoppedReference, ◌⟶◌, leaving, typed, pop_operand, pop_any, pop_reference, as_reference, may_be_null, not_null, may_be_number, one_of}
use Rattle.wasm_typing.specs.Rules.{Immediates, Rule, by_point, dropped, selected_type, local_get, is_null, as_non_null, converted, ref_null, reference_to}
use Rattle.wasm_typing.specs.RuleTable.{rule_of}
use Rattle.wasm_typing.specs.RuleLaws.{is_plain}
use Rattle.wasm_context.specs.Validation.{BodyState, typing_in, named_step}
use Rattle.wasm_validator.specs.declared.state.Validator.{Validator}
use Rattle.wasm_validator.specs.States.{Known, of_value}
use Rattle.wasm_validator.specs.Steps.{setting_of, operand_stack, stacks_of, inner_of, open_state, pop_in, ReachesHeight}
use Rattle.wasm_validator.specs.Plain.{plain_in, point_in, changed_in, pointed_in, local_get_in}
use Rattle.wasm_validator.specs.Popped.{popped, popped_reference, any_in, reference_in, topmost, leaving_in, drops_in, picks_in, selects_in, tests_null_in, non_null_in, converts_in}
use Rattle.wasm_validator.proofs.StepResults.{nested}
use Rattle.wasm_validator.proofs.PoppedOperands.{by_height}
use Rattle.wasm_validator.proofs.TypedPoints.{at_height, over_height, pops, required_again}
use Rattle.wasm_validator.proofs.PlainOperators.{high, low, whole, long, change, after, of_type as of_type_rule, rule_then, does_plain}

-- ---- the same steps, after one that leaves less

-- A step that is the same but for what it leaves, and what follows it.
after_shift : {X Y Z W : Type 0} (a : Checked X) (shift : X → W) (g : X → Checked Y) (done : Y → Checked Z) (whole_then : W → Checked Z)
    → ((q : X) → (g q >>= done) ≡ whole_then (shift q)) → ((a >>= g) >>= done) ≡ ((a >>= λ q. Ok (shift q)) >>= whole_then)
after_shift (Ok q) shift g done whole_then h = h q
after_shift (Err e) shift g done whole_then h = refl

pub shifted : {X Y Z W : Type 0} (a : Checked X) (shift : X → W) (b : Checked W) (g : X → Checked Y) (done : Y → Checked Z) (whole_then : W → Checked Z)
    → b ≡ (a >>= λ q. Ok (shift q)) → ((q : X) → (g q >>= done) ≡ whole_then (shift q)) → ((a >>= g) >>= done) ≡ (b >>= whole_then)
shifted a shift b g done whole_then e h = after_shift a shift g done whole_then h ∙ sym (ap (λ z. z >>= whole_then) e)

-- A step that is the same.
after_same : {X Y Z : Type 0} (a : Checked X) (g : X → Checked Y) (done : Y → Checked Z) (whole_then : X → Checked Z)
    → ((q : X) → (g q >>= done) ≡ whole_then q) → ((a >>= g) >>= done) ≡ (a >>= whole_then)
after_same (Ok q) g done whole_then h = h q
after_same (Err e) g done whole_then h = refl

-- ---- operands above a height, and all of them

abbrev over : Operands → Popped → Popped
over ys q = popped q.operand (q.below ++ ys)

any_above : (f : ControlFrame) (xs ys : List Known) → f.height ≡ length ys → any_in f (xs ++ ys) ≡ (pop_any f.unreachable xs >>= λ q. Ok (over ys q))
any_above f [] ys h =
    ap (by_height f ys) (at_height f.height ys h)
    ∙ sym (nested (demand f.unreachable) (λ u. Ok (popped algorithm.Unknown [])) (λ q. Ok (over ys q)))
any_above f (x ∷ xs) ys h = ap (by_height f (x ∷ (xs ++ ys))) (over_height f.height x xs ys h)

abbrev pub reference_over : Operands → PoppedReference → PoppedReference
reference_over ys q = popped_reference q.reference (q.below ++ ys)

abbrev as_popped : Popped → Checked PoppedReference
as_popped q = as_reference q.operand >>= λ r. Ok (popped_reference r q.below)

reference_above : (f : ControlFrame) (xs ys : List Known) → f.height ≡ length ys
    → reference_in f (xs ++ ys) ≡ ((pop_any f.unreachable xs >>= as_popped) >>= λ q. Ok (reference_over ys q))
reference_above f xs ys h =
    sym (shifted (pop_any f.unreachable xs) (over ys) (any_in f (xs ++ ys)) as_popped (λ q. Ok (reference_over ys q)) as_popped (any_above f xs ys h)
    (λ q. nested (as_reference q.operand) (λ r. Ok (popped_reference r q.below)) (λ p. Ok (reference_over ys p))))

-- an operand of a type
one_typed : (a : Checked Operands) (ys : Operands)
    → (a >>= λ zs. Ok (zs ++ ys)) ≡ (((a >>= λ xs. Ok xs) >>= λ xs. Ok (leaving xs)) >>= λ (k : Change KnownOperand). Ok (k.operands ++ ys))
one_typed (Ok zs) ys = refl
one_typed (Err e) ys = refl

-- ---- at the innermost frame

module _ (v : Validator) (reach : ReachesHeight v) where
  abbrev f : ControlFrame
  f = inner_of v

  abbrev c : OperandContext
  c = (setting_of v).operands

  abbrev top : Operands
  top = high v reach

  abbrev rest : Operands
  rest = low v reach

  abbrev pub done : Change KnownOperand → Checked BodyState
  done k = Ok (changed_in v k)

  any_whole : any_in f (operand_stack v) ≡ (pop_any f.unreachable top >>= λ q. Ok (over rest q))
  any_whole = ap (any_in f) (sym (whole v reach)) ∙ any_above f top rest (long v reach)

  pub reference_whole : reference_in f (operand_stack v) ≡ (pop_reference (point_in v) >>= λ q. Ok (reference_over rest q))
  reference_whole = ap (reference_in f) (sym (whole v reach)) ∙ reference_above f top rest (long v reach)

  -- `drop`
  pub dropped_whole : pointed_in v (dropped c []) ≡ drops_in v
  dropped_whole = shifted (pop_any f.unreachable top) (over rest) (any_in f (operand_stack v)) (λ q. Ok (leaving q.below)) done (λ q. Ok (leaving_in v q.below)) any_whole (λ q. refl)

  -- `ref.is_null`
  pub is_null_whole : pointed_in v (is_null c []) ≡ tests_null_in v
  is_null_whole =
      shifted (pop_reference (point_in v)) (reference_over rest) (reference_in f (operand_stack v)) (λ q. Ok (leaving (of_value I32 ∷ q.below))) done
      (λ q. Ok (leaving_in v (of_value I32 ∷ q.below))) reference_whole (λ q. refl)

  -- `ref.as_non_null`
  pub as_non_null_whole : pointed_in v (as_non_null c []) ≡ non_null_in v
  as_non_null_whole =
      shifted (pop_reference (point_in v)) (reference_over rest) (reference_in f (operand_stack v)) (λ q. Ok (leaving (algorithm.Known (not_null q.reference) ∷ q.below))) done
      (λ q. Ok (leaving_in v (algorithm.Known (not_null q.reference) ∷ q.below))) reference_whole (λ q. refl)

  -- `any.convert_extern` and `extern.convert_any`
  abbrev allowed : AbstractHeapType → PoppedReference → Checked (Unit {0})
  allowed from q = demand (matches_known c q.reference (ref_null (Abstract from)))

  abbrev becomes : AbstractHeapType → PoppedReference → Operands
  becomes to q = of_value (reference_to (may_be_null q.reference) (Abstract to)) ∷ q.below

  pub converted_whole : (from to : AbstractHeapType) → pointed_in v (converted from to c []) ≡ converts_in v from to
  converted_whole from to =
      shifted (pop_reference (point_in v)) (reference_over rest) (reference_in f (operand_stack v)) (λ q. allowed from q >>= λ u. Ok (leaving (becomes to q))) done
      (λ q. allowed from q >>= λ u. Ok (leaving_in v (becomes to q))) reference_whole
      (λ q. nested (allowed from q) (λ u. Ok (leaving (becomes to q))) done)

  -- `select`
  abbrev picks : Popped → Popped → Checked (Change KnownOperand)
  picks x y = demand (may_be_number x.operand) >>= λ u. demand (may_be_number y.operand) >>= λ w. one_of x.operand y.operand >>= λ z. Ok (leaving (z ∷ y.below))

  picks_whole : (x y : Popped) → (picks x y >>= done) ≡ picks_in v (over rest x) (over rest y)
  picks_whole x y =
      after_same (demand (may_be_number x.operand)) (λ u. demand (may_be_number y.operand) >>= λ w. one_of x.operand y.operand >>= λ z. Ok (leaving (z ∷ y.below))) done
      (λ u. demand (may_be_number y.operand) >>= λ w. one_of x.operand y.operand >>= λ z. Ok (leaving_in v (z ∷ (y.below ++ rest))))
      (λ u. after_same (demand (may_be_number y.operand)) (λ w. one_of x.operand y.operand >>= λ z. Ok (leaving (z ∷ y.below))) done
      (λ w. one_of x.operand y.operand >>= λ z. Ok (leaving_in v (z ∷ (y.below ++ rest))))
      (λ w. nested (one_of x.operand y.operand) (λ z. Ok (leaving (z ∷ y.below))) done))

  abbrev second : Popped → Checked (Change KnownOperand)
  second x = pop_any f.unreachable x.below >>= picks x

  abbrev second_in : Popped → Checked BodyState
  second_in x = any_in f x.below >>= picks_in v x

  second_whole : (x : Popped) → (second x >>= done) ≡ second_in (over rest x)
  second_whole x =
      shifted (pop_any f.unreachable x.below) (over rest) (any_in f (x.below ++ rest)) (picks x) done (picks_in v (over rest x)) (any_above f x.below rest (long v reach)) (picks_whole x)

  first_whole : (xs : Operands) → ((pop_any f.unreachable xs >>= second) >>= done) ≡ (any_in f (xs ++ rest) >>= second_in)
  first_whole xs = shifted (pop_any f.unreachable xs) (over rest) (any_in f (xs ++ rest)) second done second_in (any_above f xs rest (long v reach)) second_whole

  condition_whole : pop_in (setting_of v) f I32 (operand_stack v) ≡ (typed c (I32 ∷ [] ⟶ []) (point_in v) >>= λ k. Ok (k.operands ++ rest))
  condition_whole =
      ap (pop_in (setting_of v) f I32) (sym (whole v reach))
      ∙ pops (typing_in (setting_of v)) c f I32 top rest (long v reach)
      ∙ one_typed (pop_operand c f.unreachable I32 top) rest

  pub selected_whole : pointed_in v (selected_type c []) ≡ selects_in v
  selected_whole =
      shifted (typed c (I32 ∷ [] ⟶ []) (point_in v)) (λ k. k.operands ++ rest) (pop_in (setting_of v) f I32 (operand_stack v)) (λ k. pop_any f.unreachable k.operands >>= second) done
      (λ k. any_in f k >>= second_in) condition_whole (λ k. first_whole k.operands)

  -- ---- and what the algorithm does

  pub without_option : (a : Checked (Change KnownOperand)) → ((required (result_ok a) >>= change v reach) >>= after v reach) ≡ (a >>= done)
  without_option a = ap (λ b. (b >>= change v reach) >>= after v reach) (required_again a) ∙ nested a (change v reach) (after v reach)

  -- `local.get`
  typed_whole : (t : ValType ℕ) → (typed c ([] ⟶ t ∷ []) (point_in v) >>= done) ≡ plain_in v (Ok ([] ⟶ t ∷ []))
  typed_whole t = sym (without_option (typed c ([] ⟶ t ∷ []) (point_in v))) ∙ of_type_rule v reach (Ok ([] ⟶ t ∷ []))

  pub local_get_whole : (n : ℕ) → pointed_in v (local_get c (local n ∷ [])) ≡ local_get_in v n
  local_get_whole n =
      after_same (required (slice_get c.locals n)) (λ t. demand (standard.contains n (stacks_of v).initialised) >>= λ u. typed c ([] ⟶ t ∷ []) (point_in v)) done
      (λ t. demand (standard.contains n (stacks_of v).initialised) >>= λ u. plain_in v (Ok ([] ⟶ t ∷ [])))
      (λ t. after_same (demand (standard.contains n (stacks_of v).initialised)) (λ u. typed c ([] ⟶ t ∷ []) (point_in v)) done (λ u. plain_in v (Ok ([] ⟶ t ∷ []))) (λ u. typed_whole t))

  pub point_step : (o : NamedOperation) (rule : OperandContext → Immediates → Point KnownOperand → Checked (Change KnownOperand)) → is_plain (role_of o.opcode) ≡ true
      → rule_of o.opcode ≡ Some (by_point rule) → named_step (setting_of v) o (open_state v) ≡ pointed_in v (rule c o.immediates)
  point_step o rule h e =
      does_plain v reach o h
      ∙ ap (λ row. rule_then v reach row o.immediates) e
      ∙ without_option (rule c o.immediates (point_in v))
