use Rattle.std.proofs.Common.{refl}
use Rattle.wasm_operators.specs.Meaning.{meaning}
use Rattle.wasm_ops.proofs.VectorRanges.{plain_vector}
use Rattle.wasm_ops.proofs.vector_reader.read_narrow_vector.Goals as goal

pub returns : goal.returns
returns c = plain_vector 8 94 153 c.args.number (meaning c.narrow_vector.result) c.args.bytes.now refl refl c.requires.low c.requires.high c.narrow_vector.ensures
