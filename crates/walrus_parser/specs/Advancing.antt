-- How a parse goes on: its state after the operators so far, and after one more.
use Rattle.std.specs.Prelude.{◌≡◌, ◌⊎◌, ℕ, List, length, Bool, true, false, Result, Ok, Err}
use Rattle.walrus_ir.specs.declared.seq.InstrSeq.{InstrSeq}
use Rattle.wasm_operators.specs.Operations.{RawOperation}
use Rattle.wasm_body.specs.declared.error.ParseError.{ParseError}
use Rattle.wasm_body.specs.declared.error.ParseError.TheVariants.{Memory}
use Rattle.wasm_body.specs.Control.{Action}
use Rattle.wasm_body.specs.SourceTree.{Sequence}
use Rattle.wasm_body.specs.Naming.{Environment, NamedOperation, Occurrence, named_in}
use Rattle.wasm_body.specs.NormalForm.{Fate, Drops, Stays, MakesUnreachable, fate}
use Rattle.wasm_body.specs.Parsing.Accepted.{mark}
use Rattle.wasm_body.specs.Parsing.Progress.{Layer, Progress, Within, frames_of, further}
use Rattle.walrus_context.specs.declared.frame.IfElseState.{IfElseState}
use Rattle.walrus_context.specs.OpenFrames.{OpenFrame}
use Rattle.walrus_context.specs.Keeping.{Holds}

-- the function's sequences, the open frames, innermost first, and the `if`s whose `end` isn't read yet
pub record ParseState : Type 0 where
  pub arena : List InstrSeq
  pub frames : List OpenFrame
  pub ifs : List IfElseState

-- This is the state after the operators so far: the open constructs around the sequence so far.
abbrev pub Keeps : Environment → ParseState → List (Layer Occurrence) → Sequence Occurrence → Type 0
Keeps env p ls s = Holds env p.arena ls s (length p.arena) p.frames p.ifs

abbrev pub KeepsProgress : Environment → ParseState → Progress Occurrence → Type 0
KeepsProgress env p (Within ls s) = Keeps env p ls s
KeepsProgress env p _ = ⊥

-- the operator as it occurs at this place
abbrev pub occurrence : RawOperation → (place location : ℕ) → NamedOperation → Occurrence
occurrence o place location named = record { spelt = o; place = place; location = location; named = named }

-- The operator has a name, and this is the state after it.
pub record Advances (env : Environment) (new : ParseState) (ls : List (Layer Occurrence)) (s : Sequence Occurrence) (o : RawOperation) (place location : ℕ) : Type 0 where
  pub named : NamedOperation
  pub is_named : named_in env (frames_of ls) o ≡ Ok named
  pub keeps : KeepsProgress env new (further (Within ls s) (mark (occurrence o place location named)))

-- It advances the parse, memory ran out, or this is the first rule that it breaks.
abbrev pub IsStep : Environment → ParseState → List (Layer Occurrence) → Sequence Occurrence → RawOperation → (place location : ℕ) → Result (Unit {0}) ParseError → Type 0
IsStep env new ls s o place location (Ok u) = Advances env new ls s o place location
IsStep env new ls s o place location (Err e) = (e ≡ Memory) ⊎ (named_in env (frames_of ls) o ≡ Err e)

-- an operator that makes an instruction by itself isn't dropped, and `unreachable_after` says whether what follows it is
abbrev pub IsFate : Fate → Bool → Type 0
IsFate Drops unreachable_after = ⊥
IsFate Stays unreachable_after = unreachable_after ≡ false
IsFate MakesUnreachable unreachable_after = unreachable_after ≡ true

abbrev pub MakesUnreachableAs : Action → Bool → Type 0
MakesUnreachableAs action unreachable_after = IsFate (fate action) unreachable_after
