use Rattle.std.proofs.Common.{refl, sym, subst}
use Rattle.walrus_context.specs.OpenFrames.{marked_unreachable}
use Rattle.walrus_context.specs.OpenTrees.{AreInArena}
use Rattle.walrus_context.proofs.TreeChanges.{in_arena_changed}
use Rattle.walrus_context.proofs.context.ValidationContext.mark_innermost_unreachable.Goals as goal

pub invariant_of-self : goal.invariant_of-self
invariant_of-self c =
    let arena = c.self.inside.func.sequences in (
      subst (AreInArena arena) (sym c.mark_innermost_unreachable.ensures.1) (in_arena_changed arena marked_unreachable (λ f. refl) 0 c.self.inside.stack c.self.invariant.0),
      c.self.invariant.1,
    )
