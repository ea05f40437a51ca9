-- What the loop over the operators of a body does.
use Rattle.std.specs.Prelude.{◌≡◌, ℕ, ◌⊎◌, List, Result, Ok, Err}
use Rattle.wasm_operators.specs.Operations.{RawOperation}
use Rattle.wasm_operators.specs.Spelling.{Spells}
use Rattle.wasm_ops.specs.Position.{Position, Moves}
use Rattle.wasm_context.specs.Validation.{BodyContext, BodyState, raw_step}
use Rattle.wasm_validation.specs.declared.error.ValidationError.{ValidationError}
use Rattle.wasm_validation.specs.declared.error.ValidationError.TheVariants.{Memory}
use Rattle.wasm_validation.specs.declared.error.ValidationFailure.{ValidationFailure}
use Rattle.wasm_validation.specs.BodyValidation.{BodySetting, begin_state, taken_next, Validates}

-- The next operator is read, and the algorithm takes it; or memory ran out, or this is its fault.
abbrev pub TakesNextOperator : BodyContext → (old new : BodyState) → (from to : Position) → Result (Unit {0}) ValidationError → Type 0
TakesNextOperator c old new from to (Ok u) = (o : RawOperation) × (text : List ℕ) × Moves from text to × Spells o text × (raw_step c o old ≡ Ok new)
TakesNextOperator c old new from to (Err e) = (e ≡ Memory) ⊎ (taken_next c old from.rest ≡ Err e)

-- The bytes are validated, from the state in which some body begins.
abbrev pub TakesAll : BodyContext → BodyState → Position → Result (Unit {0}) ValidationFailure → Type 0
TakesAll c s from r = (g : BodySetting) → g.context ≡ c → begin_state g ≡ s → Validates g from.place from.rest r
