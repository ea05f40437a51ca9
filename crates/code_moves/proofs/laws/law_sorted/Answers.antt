use Rattle.code_moves.proofs.BodyLaws.{addresses_rise}
use Rattle.code_moves.proofs.laws.law_sorted.Goals as goal

pub returns : goal.returns
returns c = λ bs a d ordered. addresses_rise 0 0 bs ordered a d
