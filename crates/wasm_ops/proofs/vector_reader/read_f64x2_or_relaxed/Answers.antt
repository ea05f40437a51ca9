use Rattle.std.proofs.Common.{refl}
use Rattle.wasm_operators.specs.Meaning.{meaning}
use Rattle.wasm_ops.proofs.VectorRanges.{plain_vector}
use Rattle.wasm_ops.proofs.vector_reader.read_f64x2_or_relaxed.Goals as goal

pub returns : goal.returns
returns c = plain_vector 32 239 275 c.args.number (meaning c.f64x2_or_relaxed.result) c.args.bytes.now refl refl c.requires.low c.requires.high c.f64x2_or_relaxed.ensures
