-- A parser of bodies as contracts see it, and what its steps do.
use Rattle.std.specs.Prelude.{◌≡◌, ◌⊎◌, ℕ, List, [], ◌∷◌, ◌++◌, Bool, true, false, cond, reverse, Option, Some, None, Result, Ok}
use Rattle.walrus_ir.specs.declared.instr.Instr.TheVariants as instr
use Rattle.walrus_ir.specs.Function.{Function}
use Rattle.walrus_ir.specs.Unfolding.{LocatedInstr}
use Rattle.wasm_operators.specs.Operations.{CatchClause, RawOperation}
use Rattle.wasm_body.specs.declared.error.ParseError.{ParseError}
use Rattle.wasm_body.specs.Translation.{translate, translate_clause}
use Rattle.wasm_body.specs.InstructionTable.{PlacedOperation}
use Rattle.wasm_body.specs.SourceTree.{Sequence, Empty}
use Rattle.wasm_body.specs.Naming.{Occurrence}
use Rattle.wasm_body.specs.NormalForm.{typing_of, normal_form, named_body}
use Rattle.wasm_body.specs.TreeOfFunction.{HasTree}
use Rattle.wasm_body.specs.Parsing.Progress.{Layer}
use Rattle.walrus_parser.specs.declared.body_parser.BodyParser.{BodyParser}
use Rattle.walrus_context.specs.declared.frame.IfElseState.{IfElseState}
use Rattle.walrus_context.specs.OpenFrames.{OpenFrame, changed_at, marked_unreachable, with_instr}
use Rattle.walrus_context.specs.OpenTrees.{OpenTrees, env_of}
use Rattle.walrus_context.specs.Placing.{placing}
use Rattle.walrus_parser.specs.Advancing.{ParseState, Keeps, IsStep}

abbrev pub state_with : OpenTrees → List IfElseState → ParseState
state_with c ifs = record { arena = c.builder.sequences; frames = c.frames; ifs = ifs }

abbrev pub state_of : BodyParser → ParseState
state_of p = state_with p.context (reverse p.if_else.items)

-- Nothing is read yet.
pub record BeginsParse (p : BodyParser) : Type 0 where
  pub keeps : Keeps (env_of p.context) (state_of p) [] Empty
  pub entry : p.context.builder.entry ≡ Some 0

-- an operator with its ids, and with the slots of the sequences that its labels name
abbrev pub placed_in : BodyParser → RawOperation → Result PlacedOperation ParseError
placed_in p o = translate (placing (env_of p.context) p.context.frames) o

-- a clause of a `try_table` with the id of its tag, and with the slot of the sequence that its label names
abbrev pub clause_in : BodyParser → CatchClause ℕ → Result (CatchClause ℕ) ParseError
clause_in p c = translate_clause (placing (env_of p.context) p.context.frames) c

-- the innermost `if` has this alternative
abbrev pub with_alternative : (alternative : ℕ) → List IfElseState → List IfElseState
with_alternative alternative [] = []
with_alternative alternative (top ∷ others) = record top { alternative = Some alternative } ∷ others

-- the `if` with these sequences, at this location
abbrev pub if_else : (consequent alternative location : ℕ) → LocatedInstr
if_else consequent alternative location = (instr.IfElse (record { consequent = consequent; alternative = alternative }), location)

-- the first of both, or else the second
abbrev pub either : Option ℕ → Option ℕ → Option ℕ
either (Some n) other = Some n
either None other = other

-- The innermost `if` is closed, and its instruction is appended to the frame around.
pub record AppendsIf (old new : BodyParser) (alternative : Option ℕ) : Type 0 where
  pub top : IfElseState
  pub popped : old.if_else.items ≡ new.if_else.items ++ top ∷ []
  pub id : ℕ
  pub chosen : either alternative top.alternative ≡ Some id
  pub is : new.context ≡ record old.context { frames = changed_at 0 (with_instr (if_else top.consequent id top.start)) old.context.frames }

-- The innermost `if` has no alternative, and none is passed.
pub record HasNoAlternative (p : BodyParser) (given : Option ℕ) : Type 0 where
  pub front : List IfElseState
  pub top : IfElseState
  pub ifs : p.if_else.items ≡ front ++ top ∷ []
  pub none : either given top.alternative ≡ None

-- No `if` is open, it has no alternative, or there is no frame around.
abbrev pub HasNoIf : BodyParser → Option ℕ → Type 0
HasNoIf old alternative = (old.if_else.items ≡ []) ⊎ (HasNoAlternative old alternative ⊎ (old.context.frames ≡ []))

-- It is still the parse of the same body.
pub record IsSameBody (old new : OpenTrees) : Type 0 where
  pub env : env_of new ≡ env_of old
  pub entry : new.builder.entry ≡ old.builder.entry

-- one more instruction; what follows it may be unreachable
abbrev pub with_appended : LocatedInstr → (unreachable_after : Bool) → OpenFrame → OpenFrame
with_appended x unreachable_after f = cond unreachable_after (marked_unreachable (with_instr x f)) (with_instr x f)

-- The builder has the normal form of the body that consists of the operators and the function's own `end`.
pub record FinishesParse (old : BodyParser) (location : ℕ) (new : Function) : Type 0 where
  pub type : new.type ≡ old.context.builder.type
  pub entry : new.entry ≡ old.context.builder.entry
  pub holds : (s : Sequence Occurrence) (e : Occurrence) → e.location ≡ location → Keeps (env_of old.context) (state_of old) [] s →
      HasTree new.sequences 0 (normal_form (typing_of (env_of old.context)) (named_body (record { sequence = s; close = e })))

-- The state is that after one more operator; or memory ran out, or this is the operator's first fault.
abbrev pub ParsesStep : BodyParser → BodyParser → RawOperation → (location : ℕ) → Result (Unit {0}) ParseError → Type 0
ParsesStep old new o location r =
    (ls : List (Layer Occurrence)) (s : Sequence Occurrence) (place : ℕ) →
    Keeps (env_of old.context) (state_of old) ls s → IsStep (env_of old.context) (state_of new) ls s o place location r

-- The operator was taken at once; or it wasn't, and nothing changed.
abbrev pub TakesAtOnce : BodyParser → BodyParser → RawOperation → (location : ℕ) → (taken : Bool) → Type 0
TakesAtOnce old new o location true = ParsesStep old new o location (Ok tt) × IsSameBody old.context new.context
TakesAtOnce old new o location false = new ≡ old
