use Rattle.std.proofs.Common.{ℕ, List, ◌++◌, ◌+◌, ap, ◌∙◌}
use Rattle.wasm_operators.specs.Shortest.{short_number}
use Rattle.wasm_sections.proofs.AdditionLemmas.{from_empty}
use Rattle.wasm_sections.proofs.appending.with_item.Goals as goal

pub returns-clause-made : goal.returns-clause-made
returns-clause-made c = record {
  count = c.in_ok-count.count;
  items = c.number.new.self.rest.now;
  contents_are = cc (c.in_ok-count.ensures.value);
  new_is =
      from_empty _ _ _ (c.reserve.ensures.items ∙ c.new-made.ensures.items) c.in_ok-write_items.ensures.written
      ∙ ap (λ (l : List ℕ). short_number (c.in_ok-count.count + 1) ++ (l ++ c.args.item.now)) c.rest.ensures;
}
