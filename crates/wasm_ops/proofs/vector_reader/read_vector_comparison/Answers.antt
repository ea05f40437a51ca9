use Rattle.std.proofs.Common.{arith, refl}
use Rattle.wasm_operators.specs.Meaning.{meaning}
use Rattle.wasm_ops.proofs.VectorRanges.{plain_vector}
use Rattle.wasm_ops.proofs.vector_reader.read_vector_comparison.Goals as goal

pub returns : goal.returns
returns c = plain_vector 5 35 83 c.args.number (meaning c.vector_comparison.result) c.args.bytes.now refl refl c.requires.low (omega arith) c.vector_comparison.ensures
