use Rattle.std.proofs.Common.{List}
use Rattle.wasm_sections.specs.Sections.{SectionAt, IsModule}
use Rattle.module_items.proofs.NamedSectionLemmas.{NamedSoFar}
use Rattle.module_items.proofs.custom.custom_section.Given as goal

abbrev pub invariant-sections : goal.invariant-sections
invariant-sections l = (all : List SectionAt) → IsModule l.parsed.bytes.now all → NamedSoFar all l.name l.section-iterator
