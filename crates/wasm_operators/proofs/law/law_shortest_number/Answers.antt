use Rattle.std.proofs.Common.{arith}
use Rattle.wasm_operators.proofs.ShortestNumbers.{unsigned_shortest, signed_shortest}
use Rattle.wasm_operators.proofs.law.law_shortest_number.Goals as goal

pub returns-clause-of_u32 : goal.returns-clause-of_u32
returns-clause-of_u32 c = unsigned_shortest 9 32 (omega arith)

pub returns-clause-of_u64 : goal.returns-clause-of_u64
returns-clause-of_u64 c = unsigned_shortest 9 64 (omega arith)

pub returns-clause-of_s32 : goal.returns-clause-of_s32
returns-clause-of_s32 c = signed_shortest 9 32 (omega arith)

pub returns-clause-of_s33 : goal.returns-clause-of_s33
returns-clause-of_s33 c = signed_shortest 9 33 (omega arith)

pub returns-clause-of_s64 : goal.returns-clause-of_s64
returns-clause-of_s64 c = signed_shortest 9 64 (omega arith)
