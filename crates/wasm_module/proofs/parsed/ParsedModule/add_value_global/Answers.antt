use Rattle.std.proofs.Common.{ℕ, List, subst, ◌∙◌}
use Rattle.wasm_sections.specs.Additions.{AddsItem}
use Rattle.wasm_sections.proofs.AdditionLemmas.{from_empty}
use Rattle.wasm_module.proofs.parsed.ParsedModule.add_value_global.Goals as goal

pub returns-in-Ok-push_global-clause-ok : goal.returns-in-Ok-push_global-clause-ok
returns-in-Ok-push_global-clause-ok c = λ all m.
    subst (λ (l : List ℕ). AddsItem all c.args.changes.now c.push_global.new.changes 6 l)
    (c.deref.ensures.value ∙ from_empty _ _ _ c.new-global.ensures.items c.in-Ok.ensures) (c.in-Ok-push_global.ensures.ok all m)
