-- The law of executions: a body and the text of its normal form execute the same operators, at the same locations, and end
-- in the same way (WebAssembly core specification 3.0, execution, control instructions).
use Rattle.std.specs.Prelude.{◌≡◌, ℕ, ◌+◌, ◌≤◌, List, [], length, map, Option, Some}
use Rattle.std.specs.List.{AllByRecursion}
use Rattle.wasm_body.specs.Control.{Control, control_of, Marked}
use Rattle.walrus_ir.specs.Tree.{no_items}
use Rattle.wasm_body.specs.SourceTree.{Sequence, text, Body}
use Rattle.wasm_body.specs.Translation.{Located}
use Rattle.wasm_body.specs.Naming.{Environment, NamedOperation, Occurrence}
use Rattle.wasm_body.specs.Parsing.Accepted.{HasSpelling, Lawful}
use Rattle.wasm_body.specs.FunctionTree.{FunctionTree}
use Rattle.wasm_body.specs.NormalForm.{Typing, typing_of, normal, normal_form, name_at, body_tree}
use Rattle.wasm_body.specs.Typed.{AreTyped}
use Rattle.wasm_body.specs.TextLaws.{mark_named, IsNamedBody, IsTextOf}
use Rattle.wasm_body.specs.Machine.{Outcome, Run, Label, From, straight, bounded_run, run}
use Rattle.wasm_body.specs.Places.{show_run, placed_from, run_by_place, shown_by}

abbrev pub controls : List (Located NamedOperation) → List Control
controls xs = map (λ x. control_of x.op) xs

-- the operators that a list executes
abbrev pub executed_operators : List (Located NamedOperation) → List Outcome → (turns : ℕ) → Run (Option NamedOperation)
executed_operators xs outcomes turns = shown_by (map (λ x. x.op) xs) (run_by_place (controls xs) outcomes turns)

-- the locations of the operators that a list executes
abbrev pub locations_of : List (Located NamedOperation) → List Outcome → (turns : ℕ) → Run (Option ℕ)
locations_of xs outcomes turns = shown_by (map (λ x. x.location) xs) (run_by_place (controls xs) outcomes turns)

-- The two lists execute the same operators, at the same locations, and end in the same way: for all outcomes and turns.
pub record ExecuteAlike (xs ys : List (Located NamedOperation)) : Type 0 where
  pub operators : (outcomes : List Outcome) (turns : ℕ) → executed_operators xs outcomes turns ≡ executed_operators ys outcomes turns
  pub locations : (outcomes : List Outcome) (turns : ℕ) → locations_of xs outcomes turns ≡ locations_of ys outcomes turns

-- The tree has a text, which executes alike with these operators.
pub record HasTextAlike (m : Typing) (tree : FunctionTree) (xs : List (Located NamedOperation)) : Type 0 where
  pub text : List (Located NamedOperation)
  pub is_text : IsTextOf m tree text
  pub alike : ExecuteAlike xs text

-- The normal form of a body of named operators has a text, and the two execute alike. The body may have any construct.
abbrev pub NamedExecutionsKept : Type 0
NamedExecutionsKept =
    (m : Typing) (xs : List (Located NamedOperation)) (b : Body (Located NamedOperation)) → IsNamedBody xs b → AreTyped m xs →
    HasTextAlike m (normal_form m b) xs

-- The normal form of an accepted body has a text, and the two execute alike.
abbrev pub ExecutionsKept : Type 0
ExecutionsKept =
    (env : Environment) (xs : List Occurrence) (b : Body Occurrence) → AllByRecursion HasSpelling xs → Lawful env xs b →
    HasTextAlike (typing_of env) (body_tree env b) (map name_at xs)

-- Each event of a run by place has its operator: the operators at the places of the run are those that the machine shows when
-- it runs on the operators themselves.
pub record ShowsOperators (xs : List (Located NamedOperation)) (outcomes : List Outcome) (turns : ℕ) : Type 0 where
  pub operators : executed_operators xs outcomes turns ≡ show_run (λ x. Some x.op) (run (map mark_named xs) outcomes turns)
  pub locations : locations_of xs outcomes turns ≡ show_run (λ x. Some x.location) (run (map mark_named xs) outcomes turns)

abbrev pub RunsShowOperators : Type 0
RunsShowOperators = (xs : List (Located NamedOperation)) (outcomes : List Outcome) (turns : ℕ) → ShowsOperators xs outcomes turns

-- A body has the same run with every bound on the operators of a turn that is not less than their count. So the count never
-- runs out, and a run that ends with Returned has returned.
abbrev pub CountSuffices : Type 0
CountSuffices =
    (xs : List (Located NamedOperation)) (b : Body (Located NamedOperation)) → IsNamedBody xs b →
    (bound : List (Marked ℕ) → ℕ) → ((rest : List (Marked ℕ)) → length rest ≤ bound rest) → (outcomes : List Outcome) (turns : ℕ) →
    bounded_run bound turns (placed_from 0 (controls xs)) [] outcomes ≡ run_by_place (controls xs) outcomes turns

-- A sequence whose normal form is empty executes nothing and goes on: at its first operator the machine does what it does at the
-- place after its last one, with as many operators less to go. So to enter an `else` that isn't written is to go on after its `end`.
abbrev pub EmptyContinues : Type 0
EmptyContinues =
    (m : Typing) (s : Sequence (Located NamedOperation)) → normal m s ≡ no_items →
    (again : From (Located NamedOperation)) (count : ℕ) (rest : List (Marked (Located NamedOperation))) (labels : List (Label (Located NamedOperation)))
    (outcomes : List Outcome) → straight again (length (text s []) + count) (text s rest) labels outcomes ≡ straight again count rest labels outcomes
