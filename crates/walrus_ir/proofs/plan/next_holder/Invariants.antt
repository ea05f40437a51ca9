-- The instructions so far contain no sequences.
use Rattle.std.proofs.Common.{◌≡◌, ◌≤◌, length}
use Rattle.walrus_ir.specs.Unfolding.{slots_in_all}
use Rattle.walrus_ir.specs.Planning.{work_of_all}
use Rattle.walrus_ir.proofs.plan.next_holder.Given as goal

abbrev pub invariant-plain : goal.invariant-plain
invariant-plain l = record {
  same : slots_in_all l.left ≡ slots_in_all l.fn.instrs;
  falls : work_of_all l.left ≤ work_of_all l.fn.instrs;
}

abbrev pub decreases-plain : goal.decreases-plain
decreases-plain l = length l.left
