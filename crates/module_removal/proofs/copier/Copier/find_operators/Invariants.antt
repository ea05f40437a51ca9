use Rattle.std.proofs.Common.{◌≡◌, length}
use Rattle.module_removal.proofs.NamedLemmas.{SomeNamed}
use Rattle.module_removal.proofs.copier.Copier.find_operators.Given as goal

abbrev pub invariant-operators : goal.invariant-operators
invariant-operators l = record {
  same_end : l.input.end ≡ l.initial.input.end;
  some : SomeNamed l.func l.initial.input.end l.initial.input.rest.now l.input.rest.now (l.initial.self, l.initial.taken) (l.self, l.taken);
}

abbrev pub decreases-operators : goal.decreases-operators
decreases-operators l = length l.input.rest.now
