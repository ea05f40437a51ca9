use Rattle.inserted_code.proofs.WrittenCode.{charged_code}
use Rattle.inserted_code.proofs.laws.law_charged_code.Goals as goal

pub returns : goal.returns
returns c = charged_code
