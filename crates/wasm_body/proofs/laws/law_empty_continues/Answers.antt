use Rattle.wasm_body.proofs.Executions.NormalForms.{empty_continues}
use Rattle.wasm_body.proofs.laws.law_empty_continues.Goals as goal

pub returns : goal.returns
returns c = empty_continues
