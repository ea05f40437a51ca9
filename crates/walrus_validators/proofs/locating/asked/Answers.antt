use Rattle.std.proofs.Common.{refl}
use Rattle.std.proofs.lemmas.Fn.{says_at}
use Rattle.walrus_validators.proofs.locating.asked.Goals as goal

pub returns : goal.returns
returns g c = says_at g.F.Fn c.locate.ensures refl
