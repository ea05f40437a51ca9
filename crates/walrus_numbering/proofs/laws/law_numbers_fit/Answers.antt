use Rattle.walrus_numbering.proofs.FittingNumbers.{numbers_fit}
use Rattle.walrus_numbering.proofs.laws.law_numbers_fit.Goals as goal

pub returns : goal.returns
returns c = numbers_fit
