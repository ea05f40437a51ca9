use Rattle.dwarf.specs.declared.moving.MovedSection.{MovedSection}
use Rattle.dwarf.specs.Sections.{IsFirstNamed}
use Rattle.dwarf.proofs.SectionLemmas.{NotBefore}
use Rattle.dwarf.proofs.moving.MovedSections.contents_of.Given as goal

abbrev pub invariant-sections : goal.invariant-sections
invariant-sections l = NotBefore (λ (s : MovedSection). (s.name, s.contents.items)) l.name IsFirstNamed l.self.sections.items l.section-index
