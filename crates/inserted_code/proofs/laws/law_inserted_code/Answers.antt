use Rattle.inserted_code.proofs.WrittenCode.{edited_code}
use Rattle.inserted_code.proofs.laws.law_inserted_code.Goals as goal

pub returns : goal.returns
returns c = edited_code
