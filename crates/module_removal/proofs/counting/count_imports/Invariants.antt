use Rattle.std.proofs.Common.{◌≡◌, None}
use Rattle.module_removal.specs.Counting.{CountsImport}
use Rattle.module_removal.proofs.SectionStepLemmas.{ItemsPassed}
use Rattle.module_removal.proofs.counting.count_imports.Given as goal

abbrev pub invariant-imports : goal.invariant-imports
invariant-imports l = record {
  same_end : l.input.end ≡ l.contents.end;
  finds : l.copier.left ≡ None;
  passed : ItemsPassed CountsImport l.contents.end l.contents.rest.now l.count l.counter l.initial.counts (l.counts, l.input.rest.now);
}
