use Rattle.std.proofs.Common.{rules, ◌-◌, List, ℕ, length, sym, ap, ◌∙◌}
use Rattle.wasm_numbers.specs.Numbers.{u32}
use Rattle.wasm_sections.proofs.AdditionLemmas.{one_more_in_place}
use Rattle.wasm_sections.proofs.appending.append_item.Goals as goal

pub returns-then-item-saturating_sub-clause-ok : goal.returns-then-item-saturating_sub-clause-ok
returns-then-item-saturating_sub-clause-ok c =
    let found = c.in_ok-count.ensures.count in
    one_more_in_place c.args.contents.now.items c.append_in_place.new.contents.items c.in_ok-number.number.items c.args.item.now found.0 c.in_ok-count.count
    c.in_ok-count.len (ap (λ (l : List ℕ). u32 l) (sym c.deref.ensures.value) ∙ found.1)
    (found.2 ∙ ap (λ (l : List ℕ). length l - length found.0) c.deref.ensures.value) c.in_ok-number.ensures.written (search rules) (search rules)
