use Rattle.reaching.proofs.Walks.{closed}
use Rattle.reaching.proofs.laws.law_reached_closed.Goals as goal

pub returns : goal.returns
returns c = closed
