use Rattle.code_moves.proofs.BodyLaws.{rows_stay}
use Rattle.code_moves.proofs.laws.law_rows.Goals as goal

pub returns : goal.returns
returns c = rows_stay
