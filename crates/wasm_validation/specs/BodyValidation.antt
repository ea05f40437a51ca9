-- Validation of a function's body as bytes (WebAssembly core specification 3.0, sections 3.4 "expressions" and 5.4; appendix, validation
-- algorithm).
use Rattle.std.specs.Prelude.{◌≡◌, ℕ, ◌+◌, ◌⊎◌, List, [], ◌∷◌, length, Result, Ok, Err}
use Rattle.wasm_types.specs.declared.val_type.ValType.{ValType}
use Rattle.wasm_numbers.specs.Results.{◌>>=◌, with_fault}
use Rattle.wasm_operators.specs.OperatorList.{Placed, Lists}
use Rattle.wasm_operators.specs.Spelling.{read_operation}
use Rattle.wasm_body.specs.Validity.{ControlFrame}
use Rattle.wasm_context.specs.Validation.{BodyContext, BodyState, raw_step, body_start, steps_through}
use Rattle.wasm_validation.specs.declared.error.ValidationError.{ValidationError}
use Rattle.wasm_validation.specs.declared.error.ValidationError.TheVariants.{Memory, Read, Invalid, Trailing, MissingEnd}
use Rattle.wasm_validation.specs.declared.error.ValidationFailure.{ValidationFailure}

-- what a body is validated against: the context, the number of parameters, which are the first locals, and the results
pub record BodySetting : Type 0 where
  pub context : BodyContext
  pub parameters : ℕ
  pub results : List (ValType ℕ)

-- the state in which the body begins
abbrev pub begin_state : BodySetting → BodyState
begin_state g = body_start g.context g.parameters g.results

-- The bytes from this place on begin with these operators, each of which the algorithm takes, from the state in which the body begins to
-- this state; then the rest follows.
pub record Leads (g : BodySetting) (place : ℕ) (bytes : List ℕ) (front : List Placed) (rest : List ℕ) (reached : BodyState) : Type 0 where
  pub listed : Lists front place bytes rest
  pub steps : steps_through g.context (begin_state g) front ≡ Ok reached

-- The bytes are operators that the algorithm takes, the last of which closes the function's frame.
pub record IsValidCode (g : BodySetting) (place : ℕ) (bytes : List ℕ) : Type 0 where
  pub operators : List Placed
  pub reached : BodyState
  pub leads : Leads g place bytes operators [] reached
  pub closed : reached.controls ≡ []

-- The operator at the front of the bytes is read, and the algorithm takes it. The first of these that fails gives its fault.
abbrev pub taken_next : BodyContext → BodyState → List ℕ → Result BodyState ValidationError
taken_next c s bytes = with_fault Read (read_operation bytes) >>= λ x. with_fault (λ e. Invalid) (raw_step c x.0 s)

-- The error is the fault of the rest of the bytes, if these frames are open in the state that was reached.
abbrev pub IsFaultOfRest : BodyContext → BodyState → List ControlFrame → (rest : List ℕ) → ValidationError → Type 0
IsFaultOfRest c s [] [] error = ⊥
IsFaultOfRest c s [] (b ∷ rest) error = error ≡ Trailing
IsFaultOfRest c s (f ∷ fs) [] error = error ≡ MissingEnd
IsFaultOfRest c s (f ∷ fs) (b ∷ rest) error = taken_next c s (b ∷ rest) ≡ Err error

-- The bytes begin with operators that the algorithm takes, and the fault comes after them, at its place.
pub record IsFirstFaultOfCode (g : BodySetting) (place : ℕ) (bytes : List ℕ) (failure : ValidationFailure) : Type 0 where
  pub front : List Placed
  pub rest : List ℕ
  pub reached : BodyState
  pub leads : Leads g place bytes front rest reached
  pub place_is : failure.at + length rest ≡ place + length bytes
  pub fault : IsFaultOfRest g.context reached reached.controls rest failure.error

-- The bytes are a valid body; or memory ran out, or this is their first fault.
abbrev pub Validates : BodySetting → (place : ℕ) → (bytes : List ℕ) → Result (Unit {0}) ValidationFailure → Type 0
Validates g place bytes (Ok u) = IsValidCode g place bytes
Validates g place bytes (Err failure) = (failure.error ≡ Memory) ⊎ IsFirstFaultOfCode g place bytes failure
