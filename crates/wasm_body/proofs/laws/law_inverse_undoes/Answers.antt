use Rattle.wasm_body.proofs.ReadBack.Undoing.{inverse_undoes}
use Rattle.wasm_body.proofs.laws.law_inverse_undoes.Goals as goal

pub returns : goal.returns
returns c = inverse_undoes
