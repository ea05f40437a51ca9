use Rattle.std.proofs.Common.{arith}
use Rattle.wasm_operators.specs.Meaning.{meaning}
use Rattle.wasm_ops.proofs.Fronts.{front_found, front_only}
use Rattle.wasm_ops.proofs.reader.read_front.Goals as goal

pub returns-clause-found : goal.returns-clause-found
returns-clause-found c = front_found (λ x. (meaning x.0, x.1.now)) c.read_operator.result c.args.bytes.now (λ i. omega (arith, c.type_inv.bytes i)) c.read_operator.ensures

pub returns-clause-only : goal.returns-clause-only
returns-clause-only c = front_only (λ x. (meaning x.0, x.1.now)) c.read_operator.result c.args.bytes.now c.read_operator.ensures
