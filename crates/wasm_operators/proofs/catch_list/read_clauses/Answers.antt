use Rattle.wasm_operators.specs.Immediates.{clause}
use Rattle.wasm_operators.proofs.BorrowedLists.{are_items}
use Rattle.wasm_operators.proofs.catch_list.read_clauses.Goals as goal

pub invariant_of-result : goal.invariant_of-result
invariant_of-result c = are_items clause c.in_ok-len.len c.in_ok-len.clauses.now c.in_ok-rest.rest.now c.in_ok-rest.ensures
