use Rattle.renamed_locals.proofs.SameRules.{renamed_stay_valid}
use Rattle.renamed_locals.proofs.laws.law_renamed_locals.Goals as goal

pub returns : goal.returns
returns c = renamed_stay_valid
