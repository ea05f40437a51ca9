use Rattle.item_sets.proofs.NewIndices.{in_order}
use Rattle.item_sets.proofs.laws.law_left_in_order.Goals as goal

pub returns : goal.returns
returns c = in_order
