use Rattle.walrus_flat.proofs.RawBodies.{has_raw_body, has_no_body}
use Rattle.walrus_flat.proofs.laws.law_raw_body.Goals as goal

pub returns : goal.returns
returns c = record { raw_body = has_raw_body; none = has_no_body }
