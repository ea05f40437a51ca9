use Rattle.module_removal.proofs.KeptCopies.{items_copied}
use Rattle.module_removal.proofs.laws.law_items_are_copied.Goals as goal

pub returns : goal.returns
returns c = items_copied
