use Rattle.code_moves.proofs.BodyLaws.{written_has_place, place_is_written}
use Rattle.code_moves.proofs.laws.law_operators.Goals as goal

pub returns : goal.returns
returns c = λ bs old own. (written_has_place bs old own, place_is_written bs old own)
