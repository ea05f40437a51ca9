use Rattle.std.proofs.Common.{◌≡◌, ◌⊎◌, ℕ, List, Err, inl, inr}
use Rattle.wasm_sections.specs.declared.fault.ModuleError.{ModuleError}
use Rattle.wasm_sections.specs.declared.fault.ModuleFault.TheVariants.{Memory}
use Rattle.wasm_module.specs.declared.parsed.ParsedModule.{ParsedModule}
use Rattle.wasm_module.specs.ReadFrom.{IsModuleOf}
use Rattle.module_validator.specs.ModuleRules.{module_validity}
use Rattle.wrewrite_c.proofs.validating.validate.Goals as goal

-- the fault of a module that was read
of_module :
    (source : List ℕ) (parsed : ParsedModule) (e : ModuleError) → IsModuleOf source parsed → (e.fault ≡ Memory) ⊎ (module_validity source ≡ Err e) →
    (e.fault ≡ Memory) ⊎ ((x : ParsedModule) × IsModuleOf source x × (module_validity source ≡ Err e))
of_module source parsed e reads (inl memory) = inl memory
of_module source parsed e reads (inr given) = inr (parsed, reads, given)

pub returns-clause-refused : goal.returns-clause-refused
returns-clause-refused c = inr (of_module c.args.source.now c.in-Ok.parsed.value c.in-Err-validate.error c.in-Ok.ensures.read c.in-Err-validate.ensures)
