use Rattle.std.proofs.Common.{◌≡◌}
use Rattle.wasm_sections.specs.References.{item_references}
use Rattle.wasm_sections.specs.Sections.{section_id}
use Rattle.wasm_sections.proofs.ReferenceLemmas.{EachLeft}
use Rattle.wasm_sections.proofs.input.Input.add_items.Given as goal

abbrev pub invariant-items : goal.invariant-items
invariant-items l = record {
  same_end : l.self.end ≡ l.fn.self.end;
  left : EachLeft (item_references (section_id l.kind)) l.count l.counter l.fn.self.end l.initial.self.rest.now l.self.rest.now l.initial.found.items l.found.items;
}
