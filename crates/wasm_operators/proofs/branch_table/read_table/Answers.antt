use Rattle.wasm_numbers.specs.Numbers.{u32}
use Rattle.wasm_operators.proofs.BorrowedLists.{are_items}
use Rattle.wasm_operators.proofs.branch_table.read_table.Goals as goal

pub invariant_of-table : goal.invariant_of-table
invariant_of-table c = are_items u32 c.in_ok-len.len c.in_ok-len.labels.now c.in_ok-rest.rest.now c.in_ok-rest.ensures
