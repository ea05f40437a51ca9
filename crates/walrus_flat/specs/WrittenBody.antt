-- What writing the operators of a body shows, which is read again.
use Rattle.std.specs.Prelude.{◌≡◌, ◌⊎◌, ℕ, zero, suc, ◌+◌, ◌<◌, List, ◌++◌, length, map, Bool, true, false, Option, Some, None, Result, Ok, Err}
use Rattle.std.specs.Borrow.{Bor}
use Rattle.std.specs.Fn.{Shared}
use Rattle.wasm_numbers.specs.declared.fault.ReadFault.{ReadFault}
use Rattle.wasm_operators.specs.Operations.{RawOperation}
use Rattle.wasm_operators.specs.Meaning.{Listed, meaning}
use Rattle.wasm_operators.specs.Spelling.{Spells, read_operation}
use Rattle.wasm_ops.specs.Position.{Position, IsAfter}
use Rattle.wasm_body.specs.declared.error.EmitError.{EmitError}
use Rattle.wasm_body.specs.declared.error.EmitError.TheVariants.{Memory}
use Rattle.wasm_body.specs.Bytes.{Numbers}
use Rattle.wasm_body.specs.SourceTree.{Body}
use Rattle.wasm_body.specs.Naming.{Environment, Occurrence}
use Rattle.wasm_body.specs.Parsing.Accepted.{Accepted}
use Rattle.wasm_body.specs.Translation.{Located}
use Rattle.walrus_parser.specs.Bodies.{ParseInput, setting_with, operators_input, mapped_by, operators_parsed}
use Rattle.walrus_parser.specs.BodySources.{source_input}
use Rattle.walrus_parser.specs.declared.body_source.BodySource.{BodySource}
use Rattle.walrus_parser.specs.Settings.{operators_of, IsMapping}
use Rattle.walrus_validators.specs.Locating.{Locates, HasNoLocation}
use Rattle.walrus_emit_state.specs.Emission.{Output}
use Rattle.walrus_emit_state.specs.TreeWriting.Drafts.{Drafted}
use Rattle.walrus_flat.specs.declared.writer.Writer.{Writer}
use Rattle.walrus_flat.specs.Writers.{StepsWriter}
use Rattle.walrus_flat.specs.Laws.{written_of}
use Rattle.walrus_flat.specs.Sinks.{OfWhole, TookFront}
use Rattle.walrus_flat.specs.Written.{drafted}

-- the input of reading a body again, with a validator of one state that accepts everything
abbrev pub again : {F : Type 0} → Environment → Position → (offset : ℕ) → Option (Bor F) → ParseInput (Unit {0}) F
again env position offset on_instr_pos = operators_input env position offset on_instr_pos (λ v x. Ok tt) tt

-- the same for a whole body
abbrev pub source_again : {F : Type 0} → BodySource F → ParseInput (Unit {0}) F
source_again s = source_input s (λ v x. Ok tt) tt

-- some locations, if there is a location function
abbrev pub some_locations : {F : Type 0} → Option F → Option (ℕ → ℕ)
some_locations None = None
some_locations (Some f) = Some (λ place. 0)

-- The bytes are accepted as a body, whatever its locations are.
pub record IsAcceptedBody {F : Type 0} (i : ParseInput (Unit {0}) F) : Type 0 where
  pub body : Body Occurrence
  pub accepted : Accepted (setting_with i (some_locations i.on_instr_pos)) i.bytes body

-- an operator without its location
abbrev pub unlocated : Occurrence → Occurrence
unlocated x = record x { location = 0 }

-- The next operator is a frequent one, which was written or skipped at once; or it wasn't, and nothing changed.
abbrev pub WritesNextAtOnce : Position → Position → Writer → Writer → (location : ℕ) → Bool → Type 0
WritesNextAtOnce from to old new location true =
    (x : Listed) × (read_operation from.rest ≡ Ok (meaning x, to.rest)) × ((text : List ℕ) × Spells (meaning x) text) × IsAfter from to × StepsWriter old new (meaning x) location (Ok tt)
WritesNextAtOnce from to old new location false = (to ≡ from) × (new ≡ old)

-- Some operators of a body that is read again, each at its location.
module _ {F : Type 0} (g : Shared F (Bor ℕ × Unit {0}) ℕ) (on_instr_pos : Option (Bor F)) where
  -- The next operator was written or skipped.
  pub record WritesNext (from to : Position) (old new : Writer) : Type 0 where
    pub operator : RawOperation
    pub is_read : read_operation from.rest ≡ Ok (operator, to.rest)
    pub text : List ℕ
    pub spells : Spells operator text
    pub moves : IsAfter from to
    pub location : ℕ
    pub located : Locates g on_instr_pos from.place location
    pub step : StepsWriter old new operator location (Ok tt)

  -- So were this number of operators.
  abbrev pub WritesNumber : (number : ℕ) → Position → Position → Writer → Writer → Type 0
  WritesNumber zero from to old new = (to ≡ from) × (new ≡ old)
  WritesNumber (suc n) from to old new = (at : Position) × (middle : Writer) × WritesNumber n from at old middle × WritesNext at to middle new

  -- The next operator wasn't, for this error: it has no location or can't be read, or the writer refused it.
  pub record StopsWriting (from : Position) (old : Writer) (e : EmitError) : Type 0 where
    pub some : 0 < length from.rest
    pub why :
        HasNoLocation on_instr_pos from.place
        ⊎ (((fault : ReadFault) × (read_operation from.rest ≡ Err fault))
        ⊎ ((operator : RawOperation) × (following : List ℕ) × (read_operation from.rest ≡ Ok (operator, following)) × ((text : List ℕ) × Spells operator text) × ((location : ℕ) × (new : Writer) × StepsWriter old new operator location (Err e))))

  -- Some operators were written, at least one; or all before one that wasn't.
  abbrev pub WritesSome : (from to : Position) → (old new : Writer) → Result (Unit {0}) EmitError → Type 0
  WritesSome from to old new (Ok u) = (n : ℕ) × WritesNumber (suc n) from to old new
  WritesSome from to old new (Err e) = (n : ℕ) × (at : Position) × (middle : Writer) × WritesNumber n from at old middle × StopsWriting at middle e

module _ {F : Type 0} (g : Shared F (Bor ℕ × Unit {0}) ℕ) (i : ParseInput (Unit {0}) F) (to : Numbers) where
  -- What is written of the body was written, with the locations that the caller's function returned.
  pub record WritesBody (old new : Drafted) : Type 0 where
    pub mapping : List (ℕ × ℕ)
    pub body : Body Occurrence
    pub is_parsed : operators_parsed g i (mapped_by g i mapping) ≡ Ok body
    pub is_mapping : IsMapping g i.on_instr_pos i.offset i.start (i.start + length i.bytes) (operators_of body) mapping
    pub operators : List (Located RawOperation)
    pub are_written : written_of i.environment to (operators_of body) ≡ Ok operators
    pub draft : new ≡ drafted old operators

  -- What is written of some operators was written, with the locations that the caller's function returned for them. Locations aside,
  -- they are the first of these.
  pub record WritesFront (xs : List Occurrence) (old new : Drafted) : Type 0 where
    pub front : List Occurrence
    pub others : List Occurrence
    pub are_first : map unlocated xs ≡ map unlocated front ++ others
    pub mapping : List (ℕ × ℕ)
    pub is_mapping : IsMapping g i.on_instr_pos i.offset i.start (i.start + length i.bytes) front mapping
    pub operators : List (Located RawOperation)
    pub are_written : written_of i.environment to front ≡ Ok operators
    pub draft : new ≡ drafted old operators

  -- the same of an accepted body
  abbrev pub WritesFirst : Drafted → Drafted → Type 0
  WritesFirst old new = (a : IsAcceptedBody i) × WritesFront (operators_of a.body) old new

  -- This is the first fault of what is written of the body.
  pub record RefusesWriting (e : EmitError) : Type 0 where
    pub accepted : IsAcceptedBody i
    pub fault : written_of i.environment to (operators_of accepted.body) ≡ Err e

  -- A sink took the front of it, from one state to the other.
  abbrev pub WritesOperators : {S : Type 0} → (takes refuses : S → S → Output → Type 0) → (before after : S) → Drafted → Drafted → Result (Unit {0}) EmitError → Type 0
  WritesOperators takes refuses before after old new (Ok u) = OfWhole takes before after (WritesBody old) new
  WritesOperators takes refuses before after old new (Err e) = ((e ≡ Memory) ⊎ RefusesWriting e) × TookFront takes refuses before after (WritesFirst old) e
