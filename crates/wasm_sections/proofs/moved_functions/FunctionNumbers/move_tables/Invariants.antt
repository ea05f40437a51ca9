use Rattle.wasm_sections.specs.MovedFunctions.{MovesTable}
use Rattle.wasm_sections.proofs.MovedLemmas.{SoFar}
use Rattle.wasm_sections.proofs.moved_functions.FunctionNumbers.move_tables.Given as goal

abbrev pub invariant-items : goal.invariant-items
invariant-items l =
    SoFar (MovesTable l.self.imported l.self.added) l.counter l.initial.input.rest.now l.input.rest.now l.initial.out.items l.out.items
