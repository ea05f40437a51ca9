use Rattle.std.proofs.Common.{◌≡◌, length}
use Rattle.module_removal.specs.LeftSpaces.{index_written}
use Rattle.module_removal.proofs.OperatorCopies.{SomeOperators}
use Rattle.module_removal.proofs.copier.Copier.constant.Given as goal

abbrev pub invariant-operators : goal.invariant-operators
invariant-operators l = record {
  same_end : l.input.end ≡ l.initial.input.end;
  some : SomeOperators (index_written l.initial.self.left) l.initial.input.end l.initial.input.rest.now l.input.rest.now l.initial.self l.self;
}

abbrev pub decreases-operators : goal.decreases-operators
decreases-operators l = length l.input.rest.now
