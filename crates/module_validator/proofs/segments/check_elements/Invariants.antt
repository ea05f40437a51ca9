use Rattle.std.proofs.Common.{◌≡◌}
use Rattle.module_context.specs.ReadContexts.{read_setting}
use Rattle.module_validator.specs.ModuleRules.{element_rule}
use Rattle.module_validator.proofs.LoopLemmas.{ItemsLeft}
use Rattle.module_validator.proofs.segments.check_elements.Given as goal

abbrev pub invariant-elements : goal.invariant-elements
invariant-elements l = record {
  same_end : l.input.end ≡ l.fn.input.end;
  left :
      ItemsLeft (λ u. element_rule (read_setting l.setting) l.are_expressions l.ty) l.count l.counter tt tt l.fn.input.end l.fn.input.rest.now l.input.rest.now;
}
