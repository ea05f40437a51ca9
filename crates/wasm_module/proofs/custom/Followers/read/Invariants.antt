use Rattle.std.proofs.Common.{List}
use Rattle.wasm_sections.specs.Sections.{SectionAt, IsModule}
use Rattle.wasm_sections.proofs.ViewLemmas.{EachSoFar}
use Rattle.wasm_module.specs.WrittenModules.{IsLinked}
use Rattle.wasm_module.proofs.custom.Followers.read.Given as goal

abbrev pub invariant-sections : goal.invariant-sections
invariant-sections l = (all : List SectionAt) → IsModule l.parsed.bytes.now all → EachSoFar IsLinked all l.section-iterator
