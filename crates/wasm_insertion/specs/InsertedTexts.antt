-- What is written for a body with inserted operators: the text of its normal form.
use Rattle.std.specs.Prelude.{◌≡◌, ℕ, List, Some, Ok}
use Rattle.wasm_types.specs.declared.val_type.ValType.{ValType}
use Rattle.wasm_body.specs.SourceTree.{Body, map_body}
use Rattle.wasm_body.specs.FunctionTree.{FunctionTree}
use Rattle.wasm_body.specs.NormalForm.{Typing, normal_form}
use Rattle.wasm_body.specs.Typed.{AreTyped}
use Rattle.wasm_body.specs.TextLaws.{IsNamedBody, IsTextOf}
use Rattle.wasm_body.specs.Bytes.{Numbers}
use Rattle.wasm_body.specs.Pairs.{Pair, tree_pairs}
use Rattle.wasm_body.specs.Machine.{Outcome, Run}
use Rattle.wasm_body.specs.Places.{show_run}
use Rattle.wasm_body.specs.ExecutionLaws.{executed_operators, locations_of}
use Rattle.wasm_body.specs.LocationLaws.{BalanceAlike, LocationsAgree}
use Rattle.wasm_body.specs.Validity.{OperandRules, IsValid}
use Rattle.wasm_body.specs.ValidityLaws.{StaysValid}
use Rattle.wasm_body.specs.Flat.{Named}
use Rattle.wasm_insertion.specs.Insertion.{Origin, without_origin, InsertedBody, IsInsertedText, AddedStops, NeverStops, FollowsSource, named_asks, named_run}
use Rattle.wasm_insertion.specs.InsertedValidity.{Probed}

-- The run of a text, in which it is said of each event whether its operator is added, follows a run of the source. Each event has the
-- operator, and the location of the operator, that is the source's or was added.
pub record TextFollows (Stop : List Outcome → Run (Origin Named Named) → Type 0) (text : List Named) (os' : List Outcome) (turns : ℕ) (os : List Outcome)
    (run : Run Named) : Type 0 where
  pub marked : Run (Origin Named Named)
  pub operators : show_run (λ x. Some (without_origin {A = Named} x).op) marked ≡ executed_operators text os' turns
  pub locations : show_run (λ x. Some (without_origin {A = Named} x).location) marked ≡ locations_of text os' turns
  pub follows : FollowsSource named_asks Stop os' marked os run

-- The normal form of a body with inserted operators has a text. Each run of the text follows one of the source, and for each run of the
-- source there is one of the text that follows it, in which no added operator stops. The text is valid where the operators are, and where
-- these are the source's with probes, it is valid where the source is. The pairs that are written for the normal form give, along each run,
-- the locations of the operators.
pub record IsInstrumented (T : Type 0) (m : Typing) (tree : FunctionTree) (xs ys : List Named) : Type 0 where
  pub text : List Named
  pub is_text : IsTextOf m tree text
  pub runs : (turns : ℕ) (os' : List Outcome) → (os : List Outcome) × TextFollows AddedStops text os' turns os (named_run xs os turns)
  pub source_runs : (turns : ℕ) (os : List Outcome) → (os' : List Outcome) × TextFollows NeverStops text os' turns os (named_run xs os turns)
  pub stays_valid : StaysValid T m ys text
  pub probed_valid : (r : OperandRules T) (results : List (ValType ℕ)) (initialised : List ℕ) → Probed r xs ys → IsValid m r results initialised xs
      → IsValid m r results initialised text
  pub honest : (to : Numbers) → BalanceAlike m to → (before : ℕ) (ps : List Pair) → tree_pairs to tree before ≡ Ok ps → LocationsAgree ps text ys

-- What is written for a body with inserted operators is the source, instrumented.
abbrev pub InsertedTexts : Type 0 → Type 0
InsertedTexts T =
    (m : Typing) (xs ys : List Named) (b : Body Named) (c : Body (Origin Named Named)) → IsNamedBody xs b → IsInsertedText ys c → InsertedBody b c →
    AreTyped m ys → IsInstrumented T m (normal_form m (map_body without_origin c)) xs ys
