use Rattle.written_validity.proofs.WrittenIsValid.{written_is_valid}
use Rattle.written_validity.proofs.laws.law_written_validity.Goals as goal

pub returns : goal.returns
returns g c = written_is_valid _
