use Rattle.wasm_body.proofs.ReadBack.ReadingBack.{read_back, normal_form_again}
use Rattle.wasm_body.proofs.NormalForm.SameTexts.{same_bytes}
use Rattle.wasm_body.proofs.laws.law_read_back.Goals as goal

pub returns : goal.returns
returns c = record { read_back = read_back; normal_again = normal_form_again; same_bytes = same_bytes }
