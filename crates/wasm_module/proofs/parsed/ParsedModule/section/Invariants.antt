use Rattle.std.proofs.Common.{◌≡◌, List, Ok}
use Rattle.wasm_sections.specs.Components.{Components, module_of}
use Rattle.wasm_sections.specs.Sections.{SectionAt, IsModule, section_id}
use Rattle.wasm_sections.proofs.ViewLemmas.{FirstSoFar}
use Rattle.wasm_module.proofs.SpelledSectionLemmas.{StillSpell}
use Rattle.wasm_module.proofs.parsed.ParsedModule.section.Given as goal

abbrev pub invariant-sections : goal.invariant-sections
invariant-sections l = record {
  first : (all : List SectionAt) → IsModule l.self.bytes.now all → FirstSoFar all (section_id l.fn.kind) l.section-iterator;
  spell : (m : Components) → module_of l.self.bytes.now ≡ Ok m → StillSpell l.section-iterator;
}
