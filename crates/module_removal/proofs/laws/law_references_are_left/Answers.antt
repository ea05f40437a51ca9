use Rattle.module_removal.proofs.ReachedLemmas.{references_left}
use Rattle.module_removal.proofs.laws.law_references_are_left.Goals as goal

pub returns : goal.returns
returns c = references_left
