use Rattle.dwarf.specs.declared.sections.NamedSection.{NamedSection}
use Rattle.dwarf.specs.Sections.{AreContents}
use Rattle.dwarf.proofs.SectionLemmas.{NotBefore}
use Rattle.dwarf.proofs.sections.DebugSections.find.Given as goal

abbrev pub invariant-sections : goal.invariant-sections
invariant-sections l = NotBefore (λ (s : NamedSection). (s.name, s.contents.now)) l.name AreContents l.self.sections.items l.section-index
