use Rattle.std.proofs.Common.{◌≡◌}
use Rattle.module_removal.specs.LeftSections.{WritesItem}
use Rattle.module_removal.proofs.SeveralStepsLemmas.{StepsLeft}
use Rattle.module_removal.proofs.writing.Writer.several.Given as goal

abbrev pub invariant-items : goal.invariant-items
invariant-items l = record {
  same_end : l.input.end ≡ l.fn.input.end;
  steps : StepsLeft (WritesItem l.fn.kind l.fn.input.end) l.count l.counter (l.fn.self, l.fn.input.rest.now) (l.self, l.input.rest.now);
}
