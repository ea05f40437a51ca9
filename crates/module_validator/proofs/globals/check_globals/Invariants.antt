use Rattle.std.proofs.Common.{◌≡◌, ◌+◌}
use Rattle.module_context.specs.ReadContexts.{read_setting}
use Rattle.module_validator.specs.ModuleRules.{global_rule}
use Rattle.module_validator.proofs.LoopLemmas.{ItemsLeft}
use Rattle.module_validator.proofs.globals.check_globals.Given as goal

abbrev pub invariant-globals : goal.invariant-globals
invariant-globals l = record {
  same_end : l.input.end ≡ l.fn.input.end;
  left :
      ItemsLeft (global_rule (read_setting l.setting)) l.count l.index l.setting.imported_globals (l.setting.imported_globals + l.index) l.fn.input.end
      l.fn.input.rest.now l.input.rest.now;
}
