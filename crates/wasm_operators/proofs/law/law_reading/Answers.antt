use Rattle.wasm_operators.proofs.ReadingBytes.{reading_agrees}
use Rattle.wasm_operators.proofs.law.law_reading.Goals as goal

pub returns : goal.returns
returns c = reading_agrees
