use Rattle.wasm_module.proofs.ModuleLemmas.{then_ok}
use Rattle.wasm_module.proofs.parsed.ParsedModule.write_followed.Goals as goal

pub returns-in-Ok-Some-clause-written : goal.returns-in-Ok-Some-clause-written
returns-in-Ok-Some-clause-written g c = λ source e. then_ok c.pass.result (c.in-Ok-Some.ensures.written source e)
