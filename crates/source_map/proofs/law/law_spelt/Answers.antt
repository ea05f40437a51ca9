use Rattle.source_map.proofs.Short.{is_spelt}
use Rattle.source_map.proofs.law.law_spelt.Goals as goal

pub returns : goal.returns
returns c = is_spelt
