-- The values of the definitions for a list of operators that is given by hand. An operator's place and location are its number
-- in the list.
use Rattle.std.specs.Prelude.{ℕ, suc, List, [], ◌∷◌, map, Option, Some, None, Result, Ok, Err}
use Rattle.walrus_ir.specs.declared.val_type.InstrSeqType.TheVariants.{Simple}
use Rattle.walrus_ir.specs.Tree.{no_items}
use Rattle.wasm_operators.specs.Operations.{RawOperation}
use Rattle.wasm_body.specs.declared.error.EmitError.{EmitError}
use Rattle.wasm_body.specs.declared.error.ParseError.{ParseError}
use Rattle.wasm_body.specs.declared.error.ParseError.TheVariants.{Trailing, MissingEnd}
use Rattle.wasm_body.specs.Control.{control_of, end_operation}
use Rattle.wasm_body.specs.SourceTree.{Empty, Body}
use Rattle.wasm_body.specs.Frames.{SequenceFrame, function_frames, moves}
use Rattle.wasm_body.specs.Translation.{Located, at_location}
use Rattle.wasm_body.specs.Naming.{NamedOperation, Occurrence, Environment, named_in}
use Rattle.wasm_body.specs.Parsing.Accepted.{mark}
use Rattle.wasm_body.specs.Parsing.Progress.{Progress, Within, Whole, NoBody, nothing_read, progress_after}
use Rattle.wasm_body.specs.FunctionTree.{FunctionTree}
use Rattle.wasm_body.specs.NormalForm.{typing_of, head, normal_form, name_at, named_body}
use Rattle.wasm_body.specs.FlatText.{tree_text, with_names}
use Rattle.wasm_body.specs.Bytes.{Numbers, numbered_text}
use Rattle.wasm_body.specs.Machine.{Event, Ending, Outcome, Run}
use Rattle.wasm_body.specs.Places.{run_by_place}

-- the value, the fault of an operator with its number, or the fault of a text
pub data Computed (X : Type 0) : Type 0 where
  Is : X → Computed X
  Refused : ParseError → ℕ → Computed X
  Unwritten : EmitError → Computed X

abbrev pub after_computed : {X Y : Type 0} → Computed X → (X → Computed Y) → Computed Y
after_computed (Is x) f = f x
after_computed (Refused e i) f = Refused e i
after_computed (Unwritten e) f = Unwritten e

abbrev at_operator : {X : Type 0} → ℕ → Result X ParseError → Computed X
at_operator i (Ok x) = Is x
at_operator i (Err e) = Refused e i

abbrev as_text : {X : Type 0} → Result X EmitError → Computed X
as_text (Ok x) = Is x
as_text (Err e) = Unwritten e

-- ---- naming

-- from the number i on, inside these frames
abbrev named_from : Environment → Option (List (SequenceFrame Occurrence)) → ℕ → List RawOperation → Computed (List Occurrence)
named_from env frames i [] = Is []
named_from env None i (o ∷ os) = Refused Trailing i
named_from env (Some []) i (o ∷ os) = Refused Trailing i
named_from env (Some (f ∷ fs)) i (o ∷ os) =
    after_computed (at_operator i (named_in env (f ∷ fs) o)) (λ n.
    let x : Occurrence = record { spelt = o; place = i; location = i; named = n } in
    after_computed (named_from env (moves (control_of n) x (f ∷ fs)) (suc i) os) (λ xs. Is (x ∷ xs)))

abbrev pub occurrences : Environment → List RawOperation → Computed (List Occurrence)
occurrences env os = named_from env (Some function_frames) 0 os

-- the operators by their names
abbrev pub names : Environment → List RawOperation → Computed (List NamedOperation)
names env os = after_computed (occurrences env os) (λ xs. Is (map (λ x. x.named) xs))

-- ---- the body

abbrev whole : ℕ → Progress Occurrence → Computed (Body Occurrence)
whole i (Whole b) = Is b
whole i (Within ls s) = Refused MissingEnd i
whole i NoBody = Refused Trailing i

abbrev pub body : Environment → List RawOperation → Computed (Body Occurrence)
body env os = after_computed (occurrences env os) (λ xs. whole 0 (progress_after nothing_read (map mark xs)))

-- its normal form, the text of that with names, and the operators that are written for it
abbrev pub tree : Environment → List RawOperation → Computed FunctionTree
tree env os = after_computed (body env os) (λ b. Is (normal_form (typing_of env) (named_body b)))

abbrev pub tree_or_empty : Computed FunctionTree → FunctionTree
tree_or_empty (Is t) = t
tree_or_empty _ = record { head = head (Simple None) 0; items = no_items }

abbrev pub text : Environment → List RawOperation → Computed (List (Located NamedOperation))
text env os = after_computed (tree env os) (λ t. as_text (tree_text (with_names (typing_of env)) t))

abbrev pub written_operators : Environment → Numbers → List RawOperation → Computed (List RawOperation)
written_operators env to os = after_computed (tree env os) (λ t. after_computed (as_text (numbered_text to t)) (λ xs. Is (map (λ x. x.op) xs)))

-- ---- runs

abbrev pub a_run : List (Event ℕ) → Ending → Computed (Run ℕ)
a_run events ending = Is (record { events = events; ending = ending })

-- The run of a body: an event names its operator by the number.
abbrev pub trace : Environment → List RawOperation → List Outcome → (turns : ℕ) → Computed (Run ℕ)
trace env os outcomes turns = after_computed (names env os) (λ ns. Is (run_by_place (map control_of ns) outcomes turns))

-- ---- the subjects of the laws: the operators and the body, if there is no fault

abbrev named_operators : Computed (List Occurrence) → List (Located NamedOperation)
named_operators (Is xs) = map name_at xs
named_operators _ = []

abbrev pub located_names : Environment → List RawOperation → List (Located NamedOperation)
located_names env os = named_operators (occurrences env os)

abbrev named_or_empty : Computed (Body Occurrence) → Body (Located NamedOperation)
named_or_empty (Is b) = named_body b
named_or_empty _ = record { sequence = Empty; close = at_location end_operation 0 }

abbrev pub body_of_names : Environment → List RawOperation → Body (Located NamedOperation)
body_of_names env os = named_or_empty (body env os)
