use Rattle.std.proofs.Common.{◌≡◌}
use Rattle.module_removal.specs.Written.{WritesType}
use Rattle.module_removal.proofs.SeveralStepsLemmas.{StepsLeft}
use Rattle.module_removal.proofs.writing.Writer.members.Given as goal

abbrev pub invariant-members : goal.invariant-members
invariant-members l = record {
  same_end : l.input.end ≡ l.fn.input.end;
  steps : StepsLeft (WritesType l.fn.input.end) l.count l.counter (l.fn.self, l.fn.input.rest.now) (l.self, l.input.rest.now);
}
