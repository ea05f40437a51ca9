use Rattle.wasm_sections.specs.MovedFunctions.{MovesElement}
use Rattle.wasm_sections.proofs.MovedLemmas.{SoFar}
use Rattle.wasm_sections.proofs.moved_functions.FunctionNumbers.move_elements.Given as goal

abbrev pub invariant-items : goal.invariant-items
invariant-items l =
    SoFar (MovesElement l.self.imported l.self.added l.are_expressions) l.counter l.initial.input.rest.now l.input.rest.now
    l.initial.out.items l.out.items
