use Rattle.std.proofs.Common.{◌-◌}
use Rattle.wasm_numbers.specs.Reading.{many}
use Rattle.wasm_operators.specs.Immediates.{clause}
use Rattle.wasm_operators.proofs.BorrowedLists.{Continues}
use Rattle.wasm_operators.proofs.catch_list.skip_clauses.Given as goal

abbrev pub invariant-loop : goal.invariant-loop
invariant-loop l = Continues clause (many clause (l.count - l.counter) l.rest) (many clause l.count l.bytes)
