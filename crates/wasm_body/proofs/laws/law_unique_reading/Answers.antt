use Rattle.wasm_body.proofs.Structure.ReadingTrees.{one_body}
use Rattle.wasm_body.proofs.Structure.ReadingSequences.{one_sequence}
use Rattle.wasm_body.proofs.laws.law_unique_reading.Goals as goal

pub returns : goal.returns
returns g c = record { of_bodies = one_body; of_sequences = one_sequence }
