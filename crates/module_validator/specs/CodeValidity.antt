-- The validity of code as a function of its bytes (WebAssembly core specification 3.0, section 3.4, expressions, and appendix, validation
-- algorithm): success, or the first fault and its place.
use Rattle.std.specs.Prelude.{ℕ, zero, suc, ◌+◌, ◌-◌, if◌then◌else◌, Bool, true, false, List, [], ◌∷◌, length, Result, Ok, Err}
use Rattle.wasm_numbers.specs.Results.{◌>>=◌, with_fault}
use Rattle.wasm_operators.specs.Spelling.{read_operation}
use Rattle.wasm_body.specs.declared.error.ParseError.TheVariants as parse
use Rattle.wasm_body.specs.Validity.{ControlFrame}
use Rattle.wasm_context.specs.Validation.{BodyContext, BodyState, raw_step, body_start}
use Rattle.wasm_validation.specs.BodyValidation.{BodySetting}
use Rattle.wasm_sections.specs.declared.fault.ModuleError.{ModuleError}
use Rattle.wasm_sections.specs.declared.fault.ModuleFault.{ModuleFault}
use Rattle.wasm_sections.specs.declared.fault.ModuleFault.TheVariants as fault
use Rattle.module_context.specs.InvalidFaults.{invalid_operator}

-- a fault at this place of the file
abbrev pub fault_there : (place : ℕ) → ModuleFault → ModuleError
fault_there place f = record { fault = f; at = place }

abbrev pub no_frames : List ControlFrame → Bool
no_frames [] = true
no_frames _ = false

-- the function's frame was closed
abbrev pub is_closed : BodyState → Bool
is_closed s = no_frames s.controls

-- The bytes from this place on, from this state on; each operator has at least one byte, so that `most` may be their number.
unfoldable pub code_from : (most : ℕ) → BodyContext → BodyState → (place : ℕ) → (bytes : List ℕ) → Result (Unit {0}) ModuleError
code_from most c s place [] = if is_closed s then Ok tt else Err (fault_there place (fault.Parse parse.MissingEnd))
code_from zero c s place (b ∷ bs) = Err (fault_there place (fault.Parse parse.MissingEnd))
code_from (suc most) c s place (b ∷ bs) =
    if is_closed s then Err (fault_there place (fault.Parse parse.Trailing)) else
    (with_fault (λ f. fault_there place (fault.Read f)) (read_operation (b ∷ bs)) >>= λ x.
    with_fault (λ e. fault_there place invalid_operator) (raw_step c x.0 s) >>= λ t.
    code_from most c t (place + (length (b ∷ bs) - length x.1)) x.1)

abbrev pub code_validity : BodySetting → (place : ℕ) → (bytes : List ℕ) → Result (Unit {0}) ModuleError
code_validity g place bytes = code_from (length bytes) g.context (body_start g.context g.parameters g.results) place bytes
