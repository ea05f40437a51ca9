use Rattle.wasm_module.proofs.RewritingLemmas.{rewritten_with_then}
use Rattle.wasm_module.proofs.laws.law_rewritten_before.Goals as goal

pub returns : goal.returns
returns c = λ source now x function b raw pairs h. rewritten_with_then source now function b raw pairs x h
