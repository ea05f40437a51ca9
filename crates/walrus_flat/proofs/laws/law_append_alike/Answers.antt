use Rattle.walrus_flat.proofs.SameResults.{both_append_alike}
use Rattle.walrus_flat.proofs.laws.law_append_alike.Goals as goal

pub returns : goal.returns
returns g c = both_append_alike _ _ _ g.F.Fn
