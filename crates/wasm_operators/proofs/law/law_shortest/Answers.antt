use Rattle.wasm_operators.proofs.ShortestOperations.{shortest_operation}
use Rattle.wasm_operators.proofs.law.law_shortest.Goals as goal

pub returns : goal.returns
returns c = shortest_operation
