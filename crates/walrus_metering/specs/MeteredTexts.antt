-- What is written for a function that charges what it executes: the text of the normal form of its metered body.
use Rattle.std.specs.Prelude.{◌≡◌, ℕ, List, Some}
use Rattle.wasm_types.specs.declared.val_type.ValType.{ValType}
use Rattle.wasm_body.specs.Flat.{Named}
use Rattle.wasm_body.specs.FunctionTree.{FunctionTree}
use Rattle.wasm_body.specs.Machine.{Outcome, Run, run}
use Rattle.wasm_body.specs.NormalForm.{Typing, normal_form}
use Rattle.wasm_body.specs.Places.{show_run}
use Rattle.wasm_body.specs.ExecutionLaws.{executed_operators, locations_of}
use Rattle.wasm_body.specs.SourceTree.{Body, body_text, map_body}
use Rattle.wasm_body.specs.TextLaws.{IsNamedBody}
use Rattle.wasm_body.specs.Typed.{AreTyped}
use Rattle.wasm_body.specs.Validity.{OperandRules, IsValid}
use Rattle.wasm_insertion.specs.Insertion.{Origin, without_origin, IsInsertedText, named_asks, metered_body}
use Rattle.wasm_insertion.specs.InsertedValidity.{IsProbe}
use Rattle.wasm_insertion.specs.InsertedTexts.{IsInstrumented}
use Rattle.walrus_metering.specs.declared.costs.Costs.{Costs}
use Rattle.walrus_metering.specs.declared.charge.Charge.{Charge}
use Rattle.walrus_metering.specs.MeteredTrees.{prepared_body, charge_shown, charging_operator, prepared_for, operators_for, named_cost, charged_body}
use Rattle.walrus_metering.specs.ChargedRuns.{RunIsPaid}

-- the operator that is executed at an event of a run with charges: the source's, one that charges, or one that prepares this
abbrev pub shown_operator : Charge → Origin (Origin Named ℕ) Named → Named
shown_operator charge x = without_origin (charge_shown (charging_operator charge) x)

-- the run with these outcomes of the metered body, with the operators of charges
abbrev pub charged_run : Costs → Charge → Body Named → List Outcome → (turns : ℕ) → Run (Origin (Origin Named ℕ) Named)
charged_run costs charge b os turns = run (body_text (prepared_body (prepared_for charge) (metered_body (named_cost costs) b))) os turns

-- The run of a text executes the operators of this run, each at its location, and is paid.
pub record TextIsPaid (costs : Costs) (charge : Charge) (b : Body Named) (text : List Named) (turns : ℕ) (os' : List Outcome) : Type 0 where
  pub operators : show_run (λ x. Some (shown_operator charge x).op) (charged_run costs charge b os' turns) ≡ executed_operators text os' turns
  pub locations : show_run (λ x. Some (shown_operator charge x).location) (charged_run costs charge b os' turns) ≡ locations_of text os' turns
  pub is_paid : RunIsPaid (named_cost costs) named_asks (prepared_for charge) b turns os'

-- The operators of each charge take no operands and leave none, at every point.
abbrev pub ChargesAreProbes : {T : Type 0} → OperandRules T → Charge → Type 0
ChargesAreProbes r charge = (n : ℕ) → IsProbe r (operators_for charge n)

-- What is written for this tree is the source, instrumented with charges: each run of it is paid, and it is valid where the source is, if
-- each charge is a probe. Its pairs give along each run the locations of these operators: those of the source, and the default one for
-- the operators of a charge.
pub record IsMeteredText (T : Type 0) (costs : Costs) (charge : Charge) (m : Typing) (tree : FunctionTree) (xs : List Named) (b : Body Named) : Type 0 where
  pub operators : List Named
  pub is_text : IsInsertedText operators (charged_body costs charge b)
  pub typed : AreTyped m operators
  pub written : IsInstrumented T m tree xs operators
  pub runs : (turns : ℕ) (os' : List Outcome) → TextIsPaid costs charge b written.text turns os'
  pub valid : (r : OperandRules T) → ChargesAreProbes r charge → (results : List (ValType ℕ)) (initialised : List ℕ) → IsValid m r results initialised xs
      → IsValid m r results initialised written.text

-- So it is of the tree of each metered function (`MeteredTrees`).
abbrev pub MeteredTexts : Type 0 → Type 0
MeteredTexts T =
    (costs : Costs) (charge : Charge) (m : Typing) (xs : List Named) (b : Body Named) → IsNamedBody xs b → AreTyped m xs →
    IsMeteredText T costs charge m (normal_form m (map_body without_origin (charged_body costs charge b))) xs b
