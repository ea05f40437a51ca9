use Rattle.walrus_insertion.proofs.EditedFunctions.{unedited}
use Rattle.walrus_insertion.proofs.inserting.visit.Goals as goal

pub returns-in-None-clause-edited : goal.returns-in-None-clause-edited
returns-in-None-clause-edited g c = unedited c.args.seq.now
