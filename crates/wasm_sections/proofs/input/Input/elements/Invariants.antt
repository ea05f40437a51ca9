use Rattle.std.proofs.Common.{◌≡◌}
use Rattle.wasm_sections.specs.Format.{element_part}
use Rattle.wasm_sections.proofs.RepeatedLemmas.{StepsLeft}
use Rattle.wasm_sections.proofs.input.Input.elements.Given as goal

abbrev pub invariant-elements : goal.invariant-elements
invariant-elements l = record {
  same_end : l.self.end ≡ l.fn.self.end;
  left : StepsLeft (λ u. element_part l.are_expressions) l.count l.counter tt tt l.fn.self.end l.initial.self.rest.now l.self.rest.now;
}
