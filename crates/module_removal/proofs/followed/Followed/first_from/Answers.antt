use Rattle.std.proofs.Common.{sym, subst, rules}
use Rattle.std.proofs.lemmas.List.Sorted.{IsPartitionPoint-from_clause}
use Rattle.module_removal.specs.LeftParts.{ArePartsInOrder, is_part_before}
use Rattle.module_removal.proofs.FollowedLemmas.{parts_partitioned}
use Rattle.module_removal.proofs.followed.Followed.first_from.Goals as goal

pub returns : goal.returns
returns c = λ order.
    let is = c.deref.ensures.value in
    let split =
    IsPartitionPoint-from_clause (is_part_before c.args.func c.args.old) c.deref.result.now c.partition_point.result c.partition_point.ensures.partitioned
    (parts_partitioned c.deref.result.now (subst ArePartsInOrder (sym is) order) c.args.func c.args.old) (λ a r f k. search rules) in
    search rules
