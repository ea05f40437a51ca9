use Rattle.walrus_flat.proofs.Renumbered.{renumbers_named}
use Rattle.walrus_flat.proofs.laws.law_renumbered.Goals as goal

pub returns : goal.returns
returns c = renumbers_named
