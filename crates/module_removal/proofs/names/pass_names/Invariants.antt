use Rattle.std.proofs.Common.{◌≡◌}
use Rattle.module_removal.specs.LeftNames.{name_entry_part}
use Rattle.module_removal.proofs.VectorLemmas.{PartsLeft}
use Rattle.module_removal.proofs.names.pass_names.Given as goal

abbrev pub invariant-names : goal.invariant-names
invariant-names l = record {
  same_end : l.input.end ≡ l.fn.input.end;
  left : PartsLeft (λ (u : Unit {0}). name_entry_part) l.count l.counter tt tt l.fn.input.end l.fn.input.rest.now l.input.rest.now;
}
