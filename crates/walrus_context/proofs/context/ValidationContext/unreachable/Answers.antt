use Rattle.std.proofs.Common.{refl, ◌<◌, length}
use Rattle.walrus_context.specs.OpenFrames.{marked_unreachable}
use Rattle.walrus_context.proofs.TreeChanges.{in_arena_after}
use Rattle.walrus_context.proofs.context.ValidationContext.unreachable.Goals as goal

pub invariant_of-self : goal.invariant_of-self
invariant_of-self c = (in_arena_after (0 < length c.self.inside.stack) c.self.inside.func.sequences marked_unreachable (λ f. refl) 0 c.self.inside.stack c.mark_unreachable.new.self c.mark_unreachable.result c.mark_unreachable.ensures.ok c.mark_unreachable.ensures.same c.self.invariant.0, c.self.invariant.1)
