use Rattle.walrus_metering.proofs.MeteredTexts.{metered_texts}
use Rattle.walrus_metering.proofs.laws.law_metered_texts.Goals as goal

pub returns : goal.returns
returns g c = metered_texts g.row.T.Denot
