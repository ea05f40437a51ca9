use Rattle.module_removal.specs.ItemNumbers.{no_items_counted}
use Rattle.module_removal.specs.Counting.{CountsContents}
use Rattle.module_removal.proofs.SectionStepLemmas.{SectionsPassed}
use Rattle.module_removal.proofs.counting.count_items.Given as goal

abbrev pub invariant-sections : goal.invariant-sections
invariant-sections l = SectionsPassed CountsContents l.bytes no_items_counted l.counts l.section-iterator
