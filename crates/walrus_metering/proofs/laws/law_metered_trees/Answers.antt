use Rattle.walrus_metering.proofs.MeteredFunctions.{metered_trees}
use Rattle.walrus_metering.proofs.laws.law_metered_trees.Goals as goal

pub returns : goal.returns
returns c = metered_trees
