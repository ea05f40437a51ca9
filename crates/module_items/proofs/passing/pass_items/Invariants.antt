use Rattle.std.proofs.Common.{◌≡◌}
use Rattle.wasm_sections.proofs.RepeatedLemmas.{StepsLeft}
use Rattle.module_items.specs.Items.{item_part}
use Rattle.module_items.proofs.passing.pass_items.Given as goal

abbrev pub invariant-items : goal.invariant-items
invariant-items l = record {
  same_end : l.input.end ≡ l.fn.input.end;
  left : StepsLeft (λ u. item_part l.kind) l.count l.counter tt tt l.fn.input.end l.fn.input.rest.now l.input.rest.now;
}
