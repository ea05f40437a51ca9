use Rattle.std.proofs.Common.{◌≡◌, ℕ, List, []}
use Rattle.module_validator.specs.Checks.{HasExportNames}
use Rattle.module_validator.specs.ModuleRules.{export_rule}
use Rattle.module_validator.proofs.LoopLemmas.{ItemsLeft}
use Rattle.module_validator.proofs.exports.check_exports.Given as goal

abbrev pub invariant-exports : goal.invariant-exports
invariant-exports l = record {
  same_end : l.input.end ≡ l.fn.input.end;
  so_far : List (List ℕ);
  has : HasExportNames l.names so_far;
  left : ItemsLeft export_rule l.count l.counter [] so_far l.fn.input.end l.fn.input.rest.now l.input.rest.now;
}
