-- What a reading tells of the bytes (WebAssembly core specification 3.0, binary format, modules).
use Rattle.std.specs.Prelude.{◌≡◌, ◌⊎◌, ℕ, List, Ok, Err}
use Rattle.wasm_sections.specs.declared.fault.ModuleError.{ModuleError}
use Rattle.wasm_sections.specs.declared.fault.ModuleFault.TheVariants.{Memory}
use Rattle.wasm_sections.specs.Components.{module_of}
use Rattle.wasm_sections.specs.NextItems.{AreIndices}
use Rattle.wasm_module.specs.declared.parsed.ParsedModule.{ParsedModule}
use Rattle.wasm_module.specs.ReadModules.{components_of}

-- The module was read from these bytes: it consists of what they spell, and each id is the index of its item.
pub record IsModuleOf (source : List ℕ) (parsed : ParsedModule) : Type 0 where
  pub bytes_are : parsed.bytes.now ≡ source
  pub spells : module_of source ≡ Ok (components_of parsed)
  pub indices : AreIndices (components_of parsed) parsed.spaces

-- The module isn't read, since memory ran out, or for the first fault of what the bytes spell.
abbrev pub IsOfReading : (source : List ℕ) → ModuleError → Type 0
IsOfReading source e = (e.fault ≡ Memory) ⊎ (module_of source ≡ Err e)
