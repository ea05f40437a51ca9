use Rattle.wasm_sections.proofs.MovedLemmas.{ConstantSoFar}
use Rattle.wasm_sections.proofs.moved_functions.FunctionNumbers.move_constant.Given as goal

abbrev pub invariant-operators : goal.invariant-operators
invariant-operators l = ConstantSoFar l.self.imported l.self.added l.fn.input.rest.now l.input.rest.now l.fn.out.items l.out.items
