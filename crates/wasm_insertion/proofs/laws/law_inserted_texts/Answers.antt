use Rattle.wasm_insertion.proofs.InsertedTexts.{inserted_texts}
use Rattle.wasm_insertion.proofs.laws.law_inserted_texts.Goals as goal

pub returns : goal.returns
returns g c = inserted_texts g.row.T.Denot
