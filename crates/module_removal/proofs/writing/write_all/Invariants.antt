use Rattle.module_removal.specs.LeftSections.{HasNoItems}
use Rattle.module_removal.proofs.LeftSectionLemmas.{SectionsToWrite}
use Rattle.module_removal.proofs.writing.write_all.Given as goal

abbrev pub invariant-sections : goal.invariant-sections
invariant-sections l = HasNoItems l.fn.writer → SectionsToWrite l.bytes l.initial.writer l.section-iterator l.writer
