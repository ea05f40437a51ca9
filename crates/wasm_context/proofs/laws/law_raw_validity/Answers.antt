use Rattle.wasm_context.proofs.RawVerdicts.{same_names, same_verdicts}
use Rattle.wasm_context.proofs.laws.law_raw_validity.Goals as goal

pub returns : goal.returns
returns c = record { names = same_names; verdicts = same_verdicts }
