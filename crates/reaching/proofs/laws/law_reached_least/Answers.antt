use Rattle.reaching.proofs.Walks.{least}
use Rattle.reaching.proofs.laws.law_reached_least.Goals as goal

pub returns : goal.returns
returns c = least
