use Rattle.std.proofs.Common.{◌≡◌, List, Ok}
use Rattle.wasm_sections.specs.Components.{Components, module_of}
use Rattle.wasm_sections.specs.Sections.{SectionAt, IsModule}
use Rattle.wasm_sections.proofs.ReferenceLemmas.{ReferencesSoFar}
use Rattle.wasm_module.proofs.SpelledSectionLemmas.{StillSpell}
use Rattle.wasm_module.proofs.parsed.ParsedModule.referenced_functions.Given as goal

abbrev pub invariant-sections : goal.invariant-sections
invariant-sections l = record {
  so_far : (all : List SectionAt) → IsModule l.self.bytes.now all → ReferencesSoFar all l.section-iterator l.found.items;
  spell : (m : Components) → module_of l.self.bytes.now ≡ Ok m → StillSpell l.section-iterator;
}
