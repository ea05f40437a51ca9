-- The events so far, followed by those of the open sequences and the slots to come, are the tree's events; the stack has
-- room for the sequences to come.
use Rattle.std.proofs.Common.{◌+◌, ◌≤◌, length, vec_len, vec_capacity}
use Rattle.walrus_ir.specs.Visiting.{frames}
use Rattle.walrus_ir.proofs.Pending.{work_to_come, work_open}
use Rattle.walrus_ir.proofs.Stage.{Stage}
use Rattle.walrus_ir.proofs.walk.dfs_in_order.Given as goal

abbrev pub invariant-walk : goal.invariant-walk
invariant-walk g l = record {
  stage : Stage l.builder.sequences l.fn.start g.V.Visitor.steps g.V.Visitor.refuses g.V.Visitor.same l.fn.visitor l.visitor (frames l.stack.items) l.coming;
  room : vec_len l.stack + length l.coming ≤ vec_capacity l.stack;
}

abbrev pub decreases-walk : goal.decreases-walk
decreases-walk g l = work_to_come l.builder.sequences l.coming + work_open (frames l.stack.items)
