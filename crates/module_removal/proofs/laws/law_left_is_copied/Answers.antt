use Rattle.module_removal.proofs.GatheredCopies.{left_copied}
use Rattle.module_removal.proofs.laws.law_left_is_copied.Goals as goal

pub returns : goal.returns
returns c = left_copied
