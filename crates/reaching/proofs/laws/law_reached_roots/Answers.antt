use Rattle.reaching.proofs.Walks.{roots_reached}
use Rattle.reaching.proofs.laws.law_reached_roots.Goals as goal

pub returns : goal.returns
returns c = roots_reached
