-- Parts of a type section (WebAssembly core specification 3.0, binary format, types), and how many types it has.
use Rattle.std.specs.Prelude.{◌≡◌, ◌⊎◌, ℕ, ◌-◌, ◌^◌, List, length, Result, Ok, Err}
use Rattle.wasm_numbers.specs.Results.{◌>>=◌}
use Rattle.walrus_ir.specs.Types.{ModuleType, Func}
use Rattle.wasm_sections.specs.declared.fault.ModuleError.{ModuleError}
use Rattle.wasm_sections.specs.declared.fault.ModuleFault.TheVariants as fault
use Rattle.wasm_sections.specs.Format.{value_below, field_part, types_part}
use Rattle.wasm_sections.specs.Parts.{Part, ◌>=>◌, just, number, vector_of, repeated, whole_part}

-- what follows the first byte of a function type, and of a struct type
abbrev pub function_type_part : (limit : ℕ) → Part ModuleType
function_type_part limit =
    vector_of (value_below limit) >=> λ parameters. vector_of (value_below limit) >=> λ results. just (Func parameters results)

abbrev pub fields_part : (limit : ℕ) → Part (Unit {0})
fields_part limit = number >=> λ n. repeated (λ u. field_part limit) n tt

-- The result is the number of the types that are read, which these bytes follow, unless memory ran out.
abbrev pub CountsTypes : (rest : List ℕ) → Result ℕ ModuleError → Result (List ModuleType × List ℕ) ModuleError → Type 0
CountsTypes rest (Ok n) read = (types : List ModuleType) × (read ≡ Ok (types, rest)) × (length types ≡ n)
CountsTypes rest (Err e) read = (e.fault ≡ fault.Memory) ⊎ (read ≡ Err e)

-- the number of types of a section, whatever types they name; or the first fault
abbrev pub type_count : (end : ℕ) → (text : List ℕ) → Result ℕ ModuleError
type_count end text = whole_part (types_part (2 ^ 64 - 1)) end text >>= λ types. Ok (length types)
