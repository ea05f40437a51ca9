use Rattle.code_moves.proofs.BodyLaws.{run_end, inside_run}
use Rattle.code_moves.proofs.laws.law_calls.Goals as goal

pub returns : goal.returns
returns c = λ bs b front rs r ordered of is. (run_end bs b front rs r of is, inside_run bs b front rs r ordered of is)
