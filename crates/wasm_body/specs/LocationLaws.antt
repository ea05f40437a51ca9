-- The laws of locations: the pairs that are written for a body's normal form give, for each event of a run, the location of its
-- operator in the source.
use Rattle.std.specs.Prelude.{◌≡◌, ℕ, List, map, Option, option_and_then, Ok}
use Rattle.walrus_ir.specs.declared.val_type.InstrSeqType.{InstrSeqType}
use Rattle.std.specs.List.{AllByRecursion}
use Rattle.std.specs.List.Sorted.{IsStrictlyIncreasing}
use Rattle.wasm_body.specs.SourceTree.{Body}
use Rattle.wasm_body.specs.Translation.{Located}
use Rattle.wasm_body.specs.Naming.{Environment, NamedOperation, Occurrence}
use Rattle.wasm_body.specs.Parsing.Accepted.{HasSpelling, Lawful}
use Rattle.wasm_body.specs.FunctionTree.{FunctionTree}
use Rattle.wasm_body.specs.NormalForm.{Typing, typing_of, balances, normal_form, name_at, body_tree}
use Rattle.wasm_body.specs.RewrittenTree.{rewritten_text}
use Rattle.wasm_body.specs.Bytes.{Numbers}
use Rattle.wasm_body.specs.Typed.{AreTyped}
use Rattle.wasm_body.specs.TextLaws.{IsNamedBody, IsTextOf}
use Rattle.wasm_body.specs.Machine.{Outcome, Run}
use Rattle.wasm_body.specs.Places.{run_by_place, show_run, shown_by}
use Rattle.wasm_body.specs.ExecutionLaws.{controls, locations_of}
use Rattle.wasm_body.specs.Pairs.{Pair, tree_pairs, location_in}

-- The places of a tree's pairs strictly increase.
abbrev pub PlacesIncrease : Type 0
PlacesIncrease =
    (to : Numbers) (t : FunctionTree) (before : ℕ) (ps : List Pair) → tree_pairs to t before ≡ Ok ps →
    IsStrictlyIncreasing (map (λ (p : Pair). p.1) ps)

-- The numbers and the names are those of one module: the same types are balanced, so that the same `else` is left out.
abbrev pub BalanceAlike : Typing → Numbers → Type 0
BalanceAlike m to = (t : InstrSeqType) → to.balanced t ≡ balances m t

-- The pairs of the normal form of a body of named operators belong to its text's operators: one for each, with its location.
abbrev pub PairsMatchText : Type 0
PairsMatchText =
    (m : Typing) (xs : List (Located NamedOperation)) (b : Body (Located NamedOperation)) → IsNamedBody xs b → AreTyped m xs →
    (ys : List (Located NamedOperation)) → IsTextOf m (normal_form m b) ys →
    (to : Numbers) → BalanceAlike m to → (before : ℕ) (ps : List Pair) → tree_pairs to (normal_form m b) before ≡ Ok ps →
    map (λ (p : Pair). p.0) ps ≡ map (λ y. y.location) ys

-- The text of the normal form of a body of named operators is the text of the rewritten tree, whose definition says which
-- operator is written for which one of the source, and with which location.
abbrev pub TextIsRewritten : Type 0
TextIsRewritten =
    (m : Typing) (xs : List (Located NamedOperation)) (b : Body (Located NamedOperation)) → IsNamedBody xs b → AreTyped m xs →
    IsTextOf m (normal_form m b) (rewritten_text m b)

-- ---- runs of the written operators

-- a run of named operators, each event at the place where its operator was written
abbrev pub written_run : List (Located NamedOperation) → List Pair → List Outcome → (turns : ℕ) → Run (Option ℕ)
written_run ys ps outcomes turns = shown_by (map (λ (p : Pair). p.1) ps) (run_by_place (controls ys) outcomes turns)

-- a run of places, each looked up in the pairs
abbrev pub locations_along : List Pair → Run (Option ℕ) → Run (Option ℕ)
locations_along ps r = show_run (option_and_then (location_in ps)) r

-- The run of the written text, looked up in the pairs, is the run of these operators at their locations: event by event, for
-- all outcomes and turns.
abbrev pub LocationsAgree : List Pair → (ys xs : List (Located NamedOperation)) → Type 0
LocationsAgree ps ys xs = (outcomes : List Outcome) (turns : ℕ) → locations_along ps (written_run ys ps outcomes turns) ≡ locations_of xs outcomes turns

-- The pairs of the normal form of a body of named operators give the locations of its operators. The body may have any
-- construct, and there may be any number of bytes before its own.
abbrev pub NamedLocationsAreHonest : Type 0
NamedLocationsAreHonest =
    (m : Typing) (xs : List (Located NamedOperation)) (b : Body (Located NamedOperation)) → IsNamedBody xs b → AreTyped m xs →
    (ys : List (Located NamedOperation)) → IsTextOf m (normal_form m b) ys →
    (to : Numbers) → BalanceAlike m to → (before : ℕ) (ps : List Pair) → tree_pairs to (normal_form m b) before ≡ Ok ps → LocationsAgree ps ys xs

-- The pairs of the normal form of an accepted body give the locations of its operators.
abbrev pub LocationsAreHonest : Type 0
LocationsAreHonest =
    (env : Environment) (xs : List Occurrence) (b : Body Occurrence) → AllByRecursion HasSpelling xs → Lawful env xs b →
    (ys : List (Located NamedOperation)) → IsTextOf (typing_of env) (body_tree env b) ys →
    (to : Numbers) → BalanceAlike (typing_of env) to → (before : ℕ) (ps : List Pair) → tree_pairs to (body_tree env b) before ≡ Ok ps →
    LocationsAgree ps ys (map name_at xs)
