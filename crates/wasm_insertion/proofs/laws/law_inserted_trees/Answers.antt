use Rattle.wasm_insertion.proofs.InsertedTrees.{inserted_normal_forms}
use Rattle.wasm_insertion.proofs.EditedTexts.{edited_trees}
use Rattle.wasm_insertion.proofs.laws.law_inserted_trees.Goals as goal

pub returns : goal.returns
returns g c = record { normal_forms = inserted_normal_forms; edited = edited_trees g.row.T.Denot }
