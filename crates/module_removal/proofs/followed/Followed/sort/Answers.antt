use Rattle.std.proofs.Common.{rules}
use Rattle.module_removal.proofs.OrderLemmas.{order_from_sort}
use Rattle.module_removal.proofs.followed.Followed.sort.Goals as goal

pub returns : goal.returns
returns c = order_from_sort c.sort_unstable_by_key.new.self.items c.sort_unstable_by_key.ensures.sorted (λ a r f k. search rules)
