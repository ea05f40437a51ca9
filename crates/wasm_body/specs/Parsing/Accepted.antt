-- The bytes that are accepted as a body, and the first fault of all others (WebAssembly core specification 3.0, binary format,
-- instructions; legacy exception handling).
use Rattle.std.specs.Prelude.{◌≡◌, ℕ, ◌+◌, List, [], ◌∷◌, ◌++◌, length, map, replicate, nat_lt, Bool, true, Option, None, Some, IsOk, Result, Ok, Err}
use Rattle.std.specs.List.{AllByRecursion}
use Rattle.wasm_operators.specs.Operations.{RawOperation}
use Rattle.wasm_operators.specs.OperatorList.{Placed, Lists}
use Rattle.wasm_operators.specs.Spelling.{Spells, read_operation}
use Rattle.wasm_body.specs.declared.error.ParseError.{ParseError}
use Rattle.wasm_body.specs.declared.error.ParseError.TheVariants.{Read, PlaceTooGreat, Checked, Trailing, MissingEnd}
use Rattle.wasm_body.specs.declared.error.ParseFailure.{ParseFailure}
use Rattle.wasm_numbers.specs.Results.{◌>>=◌, unless, with_fault}
use Rattle.walrus_ir.specs.Locations.{default_location}
use Rattle.wasm_body.specs.Control.{Marked, with_control, control_of, end_operation}
use Rattle.wasm_body.specs.SourceTree.{Body, body_text}
use Rattle.wasm_body.specs.Frames.{SequenceFrame, FrameRule, BodyFollows, function_frames, frames_after}
use Rattle.wasm_body.specs.Naming.{Environment, Occurrence, named_in, entry_type_id}

-- ---- operators as they occur

abbrev pub placed : Occurrence → Placed
placed x = record { spelt = x.spelt; place = x.place }

-- The operator has an encoding.
abbrev pub HasSpelling : Occurrence → Type 0
HasSpelling x = (text : List ℕ) × Spells x.spelt text

abbrev pub mark : Occurrence → Marked Occurrence
mark x = with_control x (control_of x.named)

-- The operators form this body.
abbrev pub IsBody : List Occurrence → Body Occurrence → Type 0
IsBody xs b = map mark xs ≡ body_text b

-- The operator has this name in its place, and so keeps the rules.
abbrev pub IsNamed : Environment → FrameRule Occurrence
IsNamed env fs x = named_in env fs x.shown.spelt ≡ Ok x.shown.named

-- The operators form this body, each has its name in it, and the function's own type is a function type with an entry type.
pub record Lawful (env : Environment) (xs : List Occurrence) (body : Body Occurrence) : Type 0 where
  pub entry : IsOk (entry_type_id env)
  pub is_body : IsBody xs body
  pub named : BodyFollows (IsNamed env) body

-- ---- the validator's run: each operator, with its place, leads to the next state, or is refused with a number

abbrev pub validated : {V : Type 0} → (V → Placed → Result V ℕ) → V → List Placed → Result V ℕ
validated check v [] = Ok v
validated check v (x ∷ xs) = check v x >>= λ w. validated check w xs

-- ---- places and locations

-- The location of an operator is the value of the caller's location function at the operator's place. Without such a function
-- the place is the location; it has to be less than the number of the default location.
abbrev pub location_at : Option (ℕ → ℕ) → ℕ → ℕ
location_at None place = place
location_at (Some locate) place = locate place

-- for a location function of any type
abbrev pub has_location : {F : Type 0} → Option F → ℕ → Bool
has_location None place = nat_lt place default_location
has_location (Some locate) place = true

-- The arguments of a parse besides the bytes: the environment by which bodies are named, the place of the first operator, the
-- location function, if there is one, and the validator, which begins in the state `first`.
pub record Setting (V : Type 0) : Type 0 where
  pub environment : Environment
  pub start : ℕ
  pub locations : Option (ℕ → ℕ)
  pub check : V → Placed → Result V ℕ
  pub first : V

-- the arguments without a location function, and with a validator of one state that accepts everything
abbrev pub accepting : Environment → (start : ℕ) → Setting (Unit {0})
accepting env start = record { environment = env; start = start; locations = None; check = λ v x. Ok v; first = tt }

-- ---- accepted bodies

-- The bytes begin with encodings of these operators, which have locations and pass the validator; after them comes the rest.
pub record IsFront {V : Type 0} (given : Setting V) (xs : List Occurrence) (bytes rest : List ℕ) : Type 0 where
  pub spelt : Lists (map placed xs) given.start bytes rest
  pub have_locations : AllByRecursion (λ x. has_location given.locations x.place ≡ true) xs
  pub located : AllByRecursion (λ x. x.location ≡ location_at given.locations x.place) xs
  pub passes : IsOk (validated given.check given.first (map placed xs))

-- The bytes are accepted as this body.
pub record Accepted {V : Type 0} (given : Setting V) (bytes : List ℕ) (body : Body Occurrence) : Type 0 where
  pub operators : List Occurrence
  pub all : IsFront given operators bytes []
  pub lawful : Lawful given.environment operators body

-- ---- the first fault

-- an operator that was read and that the validator accepted, the bytes after it, and the validator's next state
pub record Admitted (V : Type 0) : Type 0 where
  pub spelt : RawOperation
  pub rest : List ℕ
  pub state : V

-- The operator at the front of the bytes is read; then its place is checked; and then the validator gets it. The first of these
-- that fails gives its fault.
abbrev pub admitted : {V : Type 0} → (ℕ → Bool) → (V → Placed → Result V ℕ) → V → (place : ℕ) → List ℕ → Result (Admitted V) ParseError
admitted fits check v place bytes =
    with_fault (λ fault. Read (record { fault = fault; at = place })) (read_operation bytes) >>= λ x.
    unless (fits place) PlaceTooGreat >>= λ _.
    with_fault Checked (check v (record { spelt = x.0; place = place })) >>= λ w.
    Ok (record { spelt = x.0; rest = x.1; state = w })

-- an operator that was handled, the bytes after it, and the validator's next state
pub record Handled (V : Type 0) : Type 0 where
  pub operator : Occurrence
  pub rest : List ℕ
  pub state : V

-- The operator at the front of the bytes is admitted, if its place has a location; and then its rules are tried.
abbrev pub handled : {V : Type 0} → Setting V → V → List (SequenceFrame Occurrence) → ℕ → List ℕ → Result (Handled V) ParseError
handled given v fs place bytes =
    admitted (has_location given.locations) given.check v place bytes >>= λ a.
    named_in given.environment fs a.spelt >>= λ named.
    Ok (record {
      operator = record { spelt = a.spelt; place = place; location = location_at given.locations place; named = named };
      rest = a.rest;
      state = a.state;
    })

-- an `end` that the bytes don't have
abbrev pub added_end : Occurrence
added_end = record { spelt = end_operation; place = 0; location = 0; named = end_operation }

-- The operators, with this many more `end`s, form a lawful body.
pub record IsCompletedBy (env : Environment) (xs : List Occurrence) (count : ℕ) : Type 0 where
  pub body : Body Occurrence
  pub lawful : Lawful env (xs ++ replicate count added_end) body

-- the error is the fault of the rest of the bytes, if these sequences are open
abbrev pub FaultAfter : {V : Type 0} → Setting V → V → List (SequenceFrame Occurrence) → ℕ → List ℕ → ParseError → Type 0
FaultAfter given v [] place [] error = ⊥
FaultAfter given v [] place (b ∷ rest) error = error ≡ Trailing
FaultAfter given v (f ∷ fs) place [] error = error ≡ MissingEnd
FaultAfter given v (f ∷ fs) place (b ∷ rest) error = handled given v (f ∷ fs) place (b ∷ rest) ≡ Err error

-- The bytes begin with operators that some more `end`s complete to a lawful body, and the fault comes after them.
pub record FaultAfterFront {V : Type 0} (given : Setting V) (bytes : List ℕ) (failure : ParseFailure) : Type 0 where
  pub front : List Occurrence
  pub rest : List ℕ
  pub frames : List (SequenceFrame Occurrence)
  pub state : V
  pub is_front : IsFront given front bytes rest
  pub completes : IsCompletedBy given.environment front (length frames)
  pub frames_are : frames_after (Some function_frames) (map mark front) ≡ Some frames
  pub state_is : validated given.check given.first (map placed front) ≡ Ok state
  pub place : failure.at + length rest ≡ given.start + length bytes
  pub fault : FaultAfter given state frames failure.at rest failure.error

-- The first fault of the bytes, and its place: the fault of the function's own type, or one after a front as above.
pub data FirstFault {V : Type 0} (given : Setting V) (bytes : List ℕ) (failure : ParseFailure) : Type 0 where
  of_entry : entry_type_id given.environment ≡ Err failure.error → failure.at ≡ given.start → FirstFault given bytes failure
  of_operators : FaultAfterFront given bytes failure → FirstFault given bytes failure
