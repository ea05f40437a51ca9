use Rattle.std.proofs.Common.{◌≡◌, ℕ, take}
use Rattle.walrus_maps.specs.IndexMaps.{ids_in}
use Rattle.wasm_operators.specs.declared.types.Space.TheVariants as spaces
use Rattle.wasm_sections.specs.Declarations.{first_numbers}
use Rattle.wasm_module.specs.ReadModules.{AreBelow}
use Rattle.wasm_module.proofs.parsed.ParsedModule.value_types.Given as goal

abbrev pub invariant-types : goal.invariant-types
invariant-types l =
    (limit : ℕ) → ids_in l.self.spaces.indices spaces.Types ≡ first_numbers limit → AreBelow limit l.types → l.made.items ≡ take l.ty-index l.types
