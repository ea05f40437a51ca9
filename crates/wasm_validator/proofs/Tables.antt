-- `br_table`.
use Rattle.std.proofs.Common.{◌≡◌, ℕ, List, [], ◌∷◌, length, Bool, true, false, Result, Ok, Err, refl, sym, ap, ◌∙◌, subst}
use Rattle.std.specs.Prelude.{nat_eq}
use Rattle.wasm_types.specs.declared.val_type.ValType.{ValType}
use Rattle.wasm_types.specs.declared.val_type.ValType.TheVariants.{I32}
use Rattle.wasm_numbers.specs.Results.{◌>>=◌}
use Rattle.wasm_operators.specs.Immediates.{Table}
use Rattle.wasm_body.specs.Validity as algorithm
use Rattle.wasm_body.specs.Validity.{ControlFrame, Stacks, Checked, demand, refused, label_types}
use Rattle.wasm_body.specs.ValidityLaws.{KnownOperand}
use Rattle.wasm_typing.specs.StandardRules.{standard_rules}
use Rattle.wasm_context.specs.Validation.{BodyState, typing_in}
use Rattle.wasm_validator.specs.declared.fault.Fault.{Fault}
use Rattle.wasm_validator.specs.declared.state.Validator.{Validator}
use Rattle.wasm_validator.specs.States.{Known}
use Rattle.wasm_validator.specs.Steps.{ResultsIn, setting_of, operand_stack, stacks_of, inner_of, labelled, pop_in, pop_all_in}
use Rattle.wasm_validator.specs.Core.{open_frames, with_stack, holds_in, targets_in, leaves_with, table_in}
use Rattle.wasm_validator.proofs.StepResults.{nested, goes_on, passes_on}
use Rattle.wasm_validator.proofs.Leaving.{leaving, popped_then}

module _ (v : Validator) where
  abbrev targets_of : ℕ → List ℕ → Checked (Unit {0})
  targets_of arity ns = algorithm.targets (typing_in (setting_of v)) (standard_rules (setting_of v).operands) (inner_of v) (open_frames v) (operand_stack v) arity ns

  by_operands : (a : Checked (List Known)) (k l : Checked (Unit {0})) → k ≡ l → (a >>= λ q. k) ≡ ((a >>= λ q. let t : Checked (Unit {0}) = Ok tt in t) >>= λ u. l)
  by_operands (Ok xs) k l h = h
  by_operands (Err e) k l h = refl

  by_arity : (test : Bool) (a : Checked (List Known)) (k l : Checked (Unit {0})) → k ≡ l
      → (demand test >>= λ u. a >>= λ q. k) ≡ ((demand test >>= λ u. a >>= λ q. let t : Checked (Unit {0}) = Ok tt in t) >>= λ u. l)
  by_arity true a k l h = by_operands a k l h
  by_arity false a k l h = refl

  by_frame : (arity : ℕ) (a : Checked ControlFrame) (k l : Checked (Unit {0})) → k ≡ l
      → (a >>= λ d. demand (nat_eq (length (label_types d)) arity) >>= λ u. pop_all_in (setting_of v) (inner_of v) (label_types d) (operand_stack v) >>= λ q. k)
      ≡ ((a >>= λ d. demand (nat_eq (length (label_types d)) arity) >>= λ u. holds_in v (label_types d)) >>= λ u. l)
  by_frame arity (Err e) k l h = refl
  by_frame arity (Ok d) k l h = by_arity (nat_eq (length (label_types d)) arity) (pop_all_in (setting_of v) (inner_of v) (label_types d) (operand_stack v)) k l h

  targets_are : (arity : ℕ) (ns : List ℕ) → targets_of arity ns ≡ targets_in v arity ns
  targets_are arity [] = refl
  targets_are arity (n ∷ ns) = by_frame arity (labelled v n) (targets_of arity ns) (targets_in v arity ns) (targets_are arity ns)

  -- after the index was popped
  abbrev chosen : ℕ → List ℕ → Checked (Stacks KnownOperand)
  chosen n ns =
      labelled v n >>= λ d. targets_of (length (label_types d)) ns >>= λ u.
      algorithm.popping (typing_in (setting_of v)) (standard_rules (setting_of v).operands) (inner_of v) (label_types d) (stacks_of v)

  abbrev chosen_in : ℕ → List ℕ → Checked BodyState
  chosen_in n ns = labelled v n >>= λ d. targets_in v (length (label_types d)) ns >>= λ u. leaves_with v (label_types d)

  by_targets : (a : Checked (Unit {0})) (ts : List (ValType ℕ))
      → ((a >>= λ u. algorithm.popping (typing_in (setting_of v)) (standard_rules (setting_of v).operands) (inner_of v) ts (stacks_of v)) >>= leaving v) ≡ (a >>= λ u. leaves_with v ts)
  by_targets (Ok u) ts = popped_then v ts
  by_targets (Err e) ts = refl

  by_default : (ns : List ℕ) (a : Checked ControlFrame)
      → ((a >>= λ d. targets_of (length (label_types d)) ns >>= λ u. algorithm.popping (typing_in (setting_of v)) (standard_rules (setting_of v).operands) (inner_of v) (label_types d) (stacks_of v)) >>= leaving v)
      ≡ (a >>= λ d. targets_in v (length (label_types d)) ns >>= λ u. leaves_with v (label_types d))
  by_default ns (Err e) = refl
  by_default ns (Ok d) = by_targets (targets_of (length (label_types d)) ns) (label_types d) ∙ ap (λ a. a >>= λ u. leaves_with v (label_types d)) (targets_are (length (label_types d)) ns)

  pub chosen_is : (n : ℕ) (ns : List ℕ) → (chosen n ns >>= leaving v) ≡ chosen_in n ns
  chosen_is n ns = by_default ns (labelled v n)

abbrev chosen_with : Validator → List ℕ → ℕ → List Known → Checked (Stacks KnownOperand)
chosen_with v ns n xs =
    labelled v n >>= λ d. algorithm.targets (typing_in (setting_of v)) (standard_rules (setting_of v).operands) (inner_of v) (open_frames v) xs (length (label_types d)) ns >>= λ u.
    algorithm.popping (typing_in (setting_of v)) (standard_rules (setting_of v).operands) (inner_of v) (label_types d) (with_stack v xs)

-- what follows where the index was popped
pub table_then : (v w : Validator) (s : BodyState) (ns : List ℕ) (n : ℕ) (r : Result (Unit {0}) Fault) → pop_in (setting_of v) (inner_of v) I32 (operand_stack v) ≡ Ok (operand_stack w)
    → w ≡ record v { operands = w.operands } → ResultsIn (chosen_in w n ns) r s → ResultsIn (table_in v (ns, n)) r s
table_then v w s ns n r p same h =
    let popped = pop_in (setting_of v) (inner_of v) I32 (operand_stack v) in
    let after : ResultsIn (chosen w n ns >>= leaving w) r s = subst (λ a. ResultsIn a r s) (sym (chosen_is w n ns)) h in
    let then : ResultsIn (chosen_with v ns n (operand_stack w) >>= leaving v) r s = subst (λ (z : Validator). ResultsIn (chosen z n ns >>= leaving z) r s) same after in
    subst (λ a. ResultsIn a r s) (sym (nested popped (chosen_with v ns n) (leaving v)))
    (goes_on popped (λ xs. chosen_with v ns n xs >>= leaving v) (operand_stack w) s r p then)

-- ---- what the code does

module _ (v w : Validator) (t : Table) (s : BodyState) (ns : List ℕ) (n : ℕ) (d : ControlFrame) (ts us : List (ValType ℕ)) (targets : ns ≡ t.0) (default : n ≡ t.1)
    (popped : pop_in (setting_of v) (inner_of v) I32 (operand_stack v) ≡ Ok (operand_stack w)) (same : w ≡ record v { operands = w.operands }) (at : labelled w n ≡ Ok d)
    (types : label_types d ≡ us) (listed : ts ≡ us) where
  chosen_by : chosen_in w n ns ≡ (targets_in w (length ts) ns >>= λ u. leaves_with w ts)
  chosen_by =
      ap (λ a. a >>= λ f. targets_in w (length (label_types f)) ns >>= λ u. leaves_with w (label_types f)) at
      ∙ ap (λ l. targets_in w (length l) ns >>= λ u. leaves_with w l) (types ∙ sym listed)

  table_by : (r : Result (Unit {0}) Fault) → ResultsIn (targets_in w (length ts) ns >>= λ u. leaves_with w ts) r s → ResultsIn (table_in v t) r s
  table_by r h =
      subst (λ l. ResultsIn (table_in v (l, t.1)) r s) targets
      (subst (λ m. ResultsIn (table_in v (ns, m)) r s) default (table_then v w s ns n r popped same (subst (λ a. ResultsIn a r s) (sym chosen_by) h)))

  pub table_done : (r : Result (Unit {0}) Fault) → targets_in w (length ts) ns ≡ Ok tt → ResultsIn (leaves_with w ts) r s → ResultsIn (table_in v t) r s
  table_done r h k = table_by r (goes_on (targets_in w (length ts) ns) (λ u. leaves_with w ts) tt s r h k)

  pub table_untaken : (e : Fault) → ResultsIn (targets_in w (length ts) ns) (Err e) tt → ResultsIn (table_in v t) (Err e) s
  table_untaken e h = table_by (Err e) (passes_on (targets_in w (length ts) ns) (λ u. leaves_with w ts) tt s e h)
