use Rattle.std.proofs.Common.{ℕ, List, subst}
use Rattle.wasm_sections.specs.Additions.{AddsItem}
use Rattle.wasm_module.proofs.parsed.ParsedModule.add_function_type.Goals as goal

pub returns-in-Ok-add_item-clause-adds : goal.returns-in-Ok-add_item-clause-adds
returns-in-Ok-add_item-clause-adds c = λ all m. (
  c.in-Ok.item.items,
  c.in-Ok.ensures,
  subst (λ (l : List ℕ). AddsItem all c.args.changes.now c.add_item.new.changes 1 l) c.deref.ensures.value (c.in-Ok-add_item.ensures.ok all m),
)
