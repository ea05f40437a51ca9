-- The validity of code as a function, and as a relation between the bytes and the operators that they encode.
use Rattle.std.specs.Prelude.{◌≡◌, ◌↔◌, ℕ, List, Ok, Err}
use Rattle.wasm_operators.specs.Laws.{AreBytes}
use Rattle.wasm_body.specs.declared.error.ParseError.TheVariants as parse
use Rattle.wasm_sections.specs.declared.fault.ModuleError.{ModuleError}
use Rattle.wasm_sections.specs.declared.fault.ModuleFault.{ModuleFault}
use Rattle.wasm_sections.specs.declared.fault.ModuleFault.TheVariants as fault
use Rattle.wasm_validation.specs.declared.error.ValidationError.{ValidationError}
use Rattle.wasm_validation.specs.declared.error.ValidationError.TheVariants as error
use Rattle.wasm_validation.specs.declared.error.ValidationFailure.{ValidationFailure}
use Rattle.wasm_validation.specs.BodyValidation.{BodySetting, IsValidCode, IsFirstFaultOfCode}
use Rattle.module_context.specs.InvalidFaults.{invalid_operator}
use Rattle.module_validator.specs.CodeValidity.{code_validity}

-- the fault of a body as one of its module
abbrev pub fault_of_body : ValidationError → ModuleFault
fault_of_body error.Memory = fault.Memory
fault_of_body (error.Read f) = fault.Read f
fault_of_body error.Invalid = invalid_operator
fault_of_body error.Trailing = fault.Parse parse.Trailing
fault_of_body error.MissingEnd = fault.Parse parse.MissingEnd

abbrev pub error_of_body : ValidationFailure → ModuleError
error_of_body f = record { fault = fault_of_body f.error; at = f.at }

-- Bytes are valid code if and only if their validity is success.
abbrev pub ValidCodeIsOk : Type 0
ValidCodeIsOk = (g : BodySetting) (place : ℕ) (bytes : List ℕ) → AreBytes bytes → IsValidCode g place bytes ↔ (code_validity g place bytes ≡ Ok tt)

-- Their first fault is the fault of their validity.
abbrev pub FirstFaultIsErr : Type 0
FirstFaultIsErr =
    (g : BodySetting) (place : ℕ) (bytes : List ℕ) (f : ValidationFailure) → IsFirstFaultOfCode g place bytes f →
    code_validity g place bytes ≡ Err (error_of_body f)
