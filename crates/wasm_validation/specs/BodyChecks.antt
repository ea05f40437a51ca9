-- The meaning of the validator of a body.
use Rattle.std.specs.Prelude.{ℕ, Bool, if◌then◌else◌, Option, Some, None, Result, Ok, Err}
use Rattle.wasm_numbers.specs.Results.{◌>>=◌}
use Rattle.wasm_operators.specs.OperatorList.{Placed}
use Rattle.wasm_context.specs.Validation.{BodyContext, BodyState, refusal_number, check_in}
use Rattle.wasm_validator.specs.declared.state.Validator.{Validator}
use Rattle.wasm_validator.specs.Steps.{setting_of, whole_state_of}

-- the context and the state that was reached, or none after a refusal
abbrev pub ReachedState : Type 0
ReachedState = Option (BodyContext × BodyState)

abbrev pub reached_state : (refused : Bool) → Validator → ReachedState
reached_state refused v = if refused then None else Some (setting_of v, whole_state_of v)

-- the next step of the algorithm; after a refusal all is refused
abbrev pub check_body : ReachedState → Placed → Result ReachedState ℕ
check_body None x = Err refusal_number
check_body (Some r) x = check_in r.0 r.1 x >>= λ t. Ok (Some (r.0, t))
