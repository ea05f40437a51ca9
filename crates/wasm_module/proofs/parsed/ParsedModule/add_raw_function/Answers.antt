use Rattle.std.proofs.Common.{ℕ, List, subst, ◌∙◌}
use Rattle.wasm_sections.specs.Additions.{AddsItem}
use Rattle.wasm_sections.proofs.AdditionLemmas.{from_empty}
use Rattle.wasm_module.proofs.parsed.ParsedModule.add_raw_function.Goals as goal

pub returns-in-Ok-add_item : goal.returns-in-Ok-add_item
returns-in-Ok-add_item c = λ all m. record {
  between = c.add_body.new.self;
  adds_body = c.in-Ok.ensures;
  adds_type =
      subst (λ (l : List ℕ). AddsItem all c.add_body.new.self c.add_item.new.changes 3 l)
      (c.deref.ensures.value ∙ from_empty _ _ _ c.new-item.ensures.items c.in-Ok-write_number.ensures.written) (c.in-Ok-add_item.ensures.ok all m);
}
