use Rattle.std.proofs.Common.{◌-◌}
use Rattle.wasm_numbers.specs.Reading.{many}
use Rattle.wasm_numbers.specs.Numbers.{u32}
use Rattle.wasm_operators.proofs.BorrowedLists.{Continues}
use Rattle.wasm_operators.proofs.branch_table.skip_labels.Given as goal

abbrev pub invariant-loop : goal.invariant-loop
invariant-loop l = Continues u32 (many u32 (l.count - l.counter) l.rest) (many u32 l.count l.bytes)
