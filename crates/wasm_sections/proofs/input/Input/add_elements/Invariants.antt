use Rattle.std.proofs.Common.{◌≡◌}
use Rattle.wasm_sections.specs.References.{element_references}
use Rattle.wasm_sections.proofs.ReferenceLemmas.{EachLeft}
use Rattle.wasm_sections.proofs.input.Input.add_elements.Given as goal

abbrev pub invariant-items : goal.invariant-items
invariant-items l = record {
  same_end : l.self.end ≡ l.fn.self.end;
  left : EachLeft (element_references l.are_expressions) l.count l.counter l.fn.self.end l.initial.self.rest.now l.self.rest.now l.initial.found.items l.found.items;
}
