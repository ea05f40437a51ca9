use Rattle.walrus_insertion.proofs.EditedFunctions.{prepended_trees}
use Rattle.walrus_insertion.proofs.BegunBodies.{begun_trees, begun_texts}
use Rattle.walrus_insertion.proofs.laws.law_prepended.Goals as goal

pub returns : goal.returns
returns g c = record { edited = prepended_trees; trees = begun_trees; texts = begun_texts g.row.T.Denot }
