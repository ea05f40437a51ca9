use Rattle.std.proofs.Common.{◌≡◌, ◌+◌}
use Rattle.module_context.specs.ReadContexts.{read_setting}
use Rattle.module_validator.specs.ModuleRules.{body_rule}
use Rattle.module_validator.proofs.LoopLemmas.{ItemsLeft}
use Rattle.module_validator.proofs.bodies.check_bodies.Given as goal

abbrev pub invariant-bodies : goal.invariant-bodies
invariant-bodies l = record {
  same_end : l.input.end ≡ l.fn.input.end;
  left :
      ItemsLeft (body_rule (read_setting l.setting)) l.count l.index l.first (l.first + l.index) l.fn.input.end
      l.fn.input.rest.now l.input.rest.now;
}
