use Rattle.inserted_code.proofs.WrittenCode.{begun_code}
use Rattle.inserted_code.proofs.laws.law_begun_code.Goals as goal

pub returns : goal.returns
returns c = begun_code
