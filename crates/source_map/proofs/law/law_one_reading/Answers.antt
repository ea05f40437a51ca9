use Rattle.source_map.proofs.Wholes.{one_reading}
use Rattle.source_map.proofs.law.law_one_reading.Goals as goal

pub returns : goal.returns
returns c = one_reading
