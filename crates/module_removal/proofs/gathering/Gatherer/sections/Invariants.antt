use Rattle.std.proofs.Common.{◌≡◌, None}
use Rattle.module_removal.proofs.GatherStepLemmas.{SectionsLeft}
use Rattle.module_removal.proofs.gathering.Gatherer.sections.Given as goal

abbrev pub invariant-sections : goal.invariant-sections
invariant-sections l = l.fn.self.copier.left ≡ None → SectionsLeft l.bytes l.fn.self l.self l.section-iterator
