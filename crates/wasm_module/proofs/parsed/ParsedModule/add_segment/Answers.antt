use Rattle.std.proofs.Common.{◌≡◌, Bool, false, sym, subst, ◌∙◌}
use Rattle.wasm_sections.specs.Additions.{AddsItem}
use Rattle.wasm_module.specs.AddedItems.{AddsData, has_data_count}
use Rattle.wasm_sections.proofs.AdditionLemmas.{on_ok}
use Rattle.wasm_module.proofs.DataLemmas.{uncounted}
use Rattle.wasm_module.proofs.parsed.ParsedModule.add_segment.Goals as goal

pub returns-else-branch-clause-ok : goal.returns-else-branch-clause-ok
returns-else-branch-clause-ok c = λ all m.
    let old = c.args.changes.now in
    let new = c.add_item.new.changes in
    let segment = c.args.segment.now in
    let has : has_data_count all old ≡ false = sym (c.in_ok-has_data_count.ensures all m) ∙ c.if-branch.false in
    on_ok c.add_item.result (AddsItem all old new 11 segment) (AddsData all old new (has_data_count all old) segment) (c.add_item.ensures.ok all m)
    (λ a. subst (λ (b : Bool). AddsData all old new b segment) (sym has) (uncounted all old new segment a))
