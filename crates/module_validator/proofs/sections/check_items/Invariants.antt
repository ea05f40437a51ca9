use Rattle.std.proofs.Common.{◌≡◌}
use Rattle.wasm_sections.specs.Sections.{section_id}
use Rattle.module_context.specs.ReadContexts.{read_setting}
use Rattle.module_validator.specs.Checks.{item_rule}
use Rattle.module_validator.proofs.LoopLemmas.{ItemsLeft}
use Rattle.module_validator.proofs.sections.check_items.Given as goal

abbrev pub invariant-items : goal.invariant-items
invariant-items l = record {
  same_end : l.input.end ≡ l.fn.input.end;
  left :
      ItemsLeft (λ u. item_rule (section_id l.kind) (read_setting l.setting)) l.count l.counter tt tt l.fn.input.end l.fn.input.rest.now l.input.rest.now;
}
