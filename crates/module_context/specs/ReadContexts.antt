-- What the results of the code mean.
use Rattle.std.specs.Prelude.{◌≡◌, ◌⊎◌, ℕ, List, [], Result, Ok, Err}
use Rattle.wasm_context.specs.declared.definitions.Definitions.{Definitions}
use Rattle.wasm_context.specs.Contexts.{context_of}
use Rattle.wasm_context.specs.Definitions.{IsDefining}
use Rattle.wasm_typing.specs.RecursiveTypes.{Group}
use Rattle.wasm_sections.specs.declared.fault.ModuleError.{ModuleError}
use Rattle.wasm_sections.specs.declared.fault.ModuleFault.TheVariants as fault
use Rattle.module_context.specs.declared.declarations.Declarations.{Declarations}
use Rattle.module_context.specs.declared.reading.ModuleContext.{ModuleContext}
use Rattle.module_context.specs.ModuleContexts.{Declared, ModuleSetting}

-- The builder has the types of the groups that a part consists of, and these bytes follow the part; or this is its fault, unless memory
-- ran out.
abbrev pub DefinesGroups : (new : Definitions) → (following : List ℕ) → Result (Unit {0}) ModuleError → (part : Result (List Group × List ℕ) ModuleError) → Type 0
DefinesGroups new following (Ok u) part = (groups : List Group) × (part ≡ Ok (groups, following)) × IsDefining new groups
DefinesGroups new following (Err e) part = (e.fault ≡ fault.Memory) ⊎ (part ≡ Err e)

-- the same of a whole section
abbrev pub DefinesTypes : (new : Definitions) → Result (Unit {0}) ModuleError → (section : Result (List Group) ModuleError) → Type 0
DefinesTypes new (Ok u) section = (groups : List Group) × (section ≡ Ok groups) × IsDefining new groups
DefinesTypes new (Err e) section = (e.fault ≡ fault.Memory) ⊎ (section ≡ Err e)

-- what was declared so far
abbrev pub declared_so_far : Declarations → Declared
declared_so_far d = record { body = context_of d.context []; imported_globals = d.imported_globals; named = d.named.items }

abbrev pub read_setting : ModuleContext → ModuleSetting
read_setting m = record { body = context_of m.context []; imported_globals = m.imported_globals }

-- what was declared, with the functions that are marked
abbrev pub setting_so_far : Declarations → ModuleSetting
setting_so_far d = record { body = context_of d.context []; imported_globals = d.imported_globals }
