use Rattle.std.proofs.Common.{ℕ, ℤ, List, subst, ap, ◌∙◌, rules, w32}
use Rattle.std.proofs.lemmas.Int.{to_z-of_z}
use mir.Val.{SFits}
use Rattle.wasm_module.specs.AddedItems.{AddsData, active_data, has_data_count}
use Rattle.wasm_sections.proofs.AdditionLemmas.{from_empty}
use Rattle.wasm_module.proofs.parsed.ParsedModule.add_data.Goals as goal

pub returns-in-Ok-add_segment-clause-ok : goal.returns-in-Ok-add_segment-clause-ok
returns-in-Ok-add_segment-clause-ok c = λ all m.
    let fits : SFits w32 c.args.address = search rules in
    let made =
    c.deref.ensures.value ∙ from_empty _ _ _ c.new-segment.ensures.items c.in-Ok.ensures
    ∙ ap (λ (z : ℤ). active_data z c.args.bytes.now) (to_z-of_z w32 c.args.address fits) in
    subst (λ (l : List ℕ). AddsData all c.args.changes.now c.add_segment.new.changes (has_data_count all c.args.changes.now) l) made (c.in-Ok-add_segment.ensures.ok all m)
