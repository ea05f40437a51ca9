use Rattle.item_sets.proofs.NewIndices.{without_gaps}
use Rattle.item_sets.proofs.laws.law_left_without_gaps.Goals as goal

pub returns : goal.returns
returns c = without_gaps
