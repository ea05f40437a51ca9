use Rattle.std.proofs.Common.{◌≡◌, length}
use Rattle.wasm_sections.specs.Components.{no_components, module_of}
use Rattle.wasm_module.specs.ReadModules.{components_of, IsReadSoFar}
use Rattle.wasm_module.proofs.ReadingLemmas.{SectionsLeft}
use Rattle.wasm_module.proofs.parsed.ParsedModule.read_sections.Given as goal

abbrev pub invariant-sections : goal.invariant-sections
invariant-sections l =
    components_of l.fn.self ≡ no_components → IsReadSoFar (components_of l.fn.self) l.fn.self.spaces →
    SectionsLeft (module_of l.bytes) (length l.bytes) l.section-iterator (components_of l.self) l.self.spaces
