use Rattle.std.proofs.Common.{List}
use Rattle.wasm_sections.specs.Sections.{SectionAt, IsModule}
use Rattle.wasm_module.proofs.NewSectionLemmas.{RankSoFar}
use Rattle.wasm_module.proofs.parsed.ParsedModule.next_rank.Given as goal

abbrev pub invariant-sections : goal.invariant-sections
invariant-sections l = (all : List SectionAt) → IsModule l.self.bytes.now all → RankSoFar all l.rank l.section-iterator
