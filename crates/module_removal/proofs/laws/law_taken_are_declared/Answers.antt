use Rattle.module_removal.proofs.DeclaringLemmas.{taken_declared}
use Rattle.module_removal.proofs.laws.law_taken_are_declared.Goals as goal

pub returns : goal.returns
returns c = taken_declared
