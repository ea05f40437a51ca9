-- The verdict of a body is one, and a validator that is called for each operator has the same.
use Rattle.std.specs.Prelude.{◌≡◌, ℕ, List, Some, Ok}
use Rattle.wasm_numbers.specs.Results.{◌>>=◌}
use Rattle.wasm_operators.specs.OperatorList.{Placed}
use Rattle.wasm_body.specs.Parsing.Accepted.{validated}
use Rattle.wasm_context.specs.Validation.{BodyContext, BodyState, steps_through}
use Rattle.wasm_validation.specs.declared.error.ValidationFailure.{ValidationFailure}
use Rattle.wasm_validation.specs.BodyValidation.{BodySetting, IsValidCode, IsFirstFaultOfCode}
use Rattle.wasm_validation.specs.BodyChecks.{check_body}

-- Bytes that are valid have no first fault.
abbrev pub ValidHasNoFault : Type 0
ValidHasNoFault = (g : BodySetting) (place : ℕ) (bytes : List ℕ) (f : ValidationFailure) → IsValidCode g place bytes → IsFirstFaultOfCode g place bytes f → ⊥

-- All have at most one.
abbrev pub OneFaultOfCode : Type 0
OneFaultOfCode = (g : BodySetting) (place : ℕ) (bytes : List ℕ) (e f : ValidationFailure) → IsFirstFaultOfCode g place bytes e → IsFirstFaultOfCode g place bytes f → e ≡ f

-- The validator takes the operators if the steps of the algorithm do, and then has their state; it refuses if they do.
abbrev pub SameSteps : Type 0
SameSteps =
    (c : BodyContext) (s : BodyState) (xs : List Placed) →
    validated check_body (Some (c, s)) xs ≡ (steps_through c s xs >>= λ t. Ok (Some (c, t)))
