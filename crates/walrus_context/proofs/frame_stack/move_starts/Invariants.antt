use Rattle.std.proofs.Common.{◌≡◌, ◌≤◌, length}
use Rattle.walrus_context.specs.FrameStacks.{moved_from}
use Rattle.walrus_context.proofs.frame_stack.move_starts.Given as goal

abbrev pub invariant-loop-index : goal.invariant-loop-index
invariant-loop-index l = (l.controls.items ≡ moved_from l.index l.fn.controls.items) × (l.fn.from ≤ l.index) × (l.index ≤ length l.fn.controls.items)

abbrev pub decreases-loop-index : goal.decreases-loop-index
decreases-loop-index l = l.index
