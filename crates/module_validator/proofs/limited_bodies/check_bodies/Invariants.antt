use Rattle.std.proofs.Common.{◌≡◌, ◌+◌}
use Rattle.module_context.specs.ReadContexts.{read_setting}
use Rattle.module_validator.specs.EngineLimits.{next_body_limits}
use Rattle.module_validator.proofs.LoopLemmas.{ItemsLeft}
use Rattle.module_validator.proofs.limited_bodies.check_bodies.Given as goal

abbrev pub invariant-bodies : goal.invariant-bodies
invariant-bodies l = record {
  same_end : l.input.end ≡ l.fn.input.end;
  left :
      ItemsLeft (next_body_limits (read_setting l.setting)) l.count l.index l.first (l.first + l.index) l.fn.input.end
      l.fn.input.rest.now l.input.rest.now;
}
