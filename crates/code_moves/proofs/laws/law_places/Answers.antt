use Rattle.code_moves.proofs.BodyLaws.{is_place}
use Rattle.code_moves.proofs.laws.law_places.Goals as goal

pub returns : goal.returns
returns c = is_place
