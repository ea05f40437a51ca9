use Rattle.std.proofs.Common.{refl, sym, subst}
use Rattle.walrus_context.specs.OpenFrames.{with_instr}
use Rattle.walrus_context.specs.OpenTrees.{AreInArena}
use Rattle.walrus_context.proofs.FrameStacks.{either_way}
use Rattle.walrus_context.proofs.TreeChanges.{in_arena_changed}
use Rattle.walrus_context.proofs.context.ValidationContext.append_innermost.Goals as goal

pub invariant_of-self : goal.invariant_of-self
invariant_of-self c =
    let arena = c.self.inside.func.sequences in
    let old = c.self.inside.stack in
    let change = with_instr (c.args.instr, c.args.loc) in (
      either_way c.append_innermost.result
          (λ e. subst (AreInArena arena) (sym (c.append_innermost.ensures.done e).1) (in_arena_changed arena change (λ f. refl) 0 old c.self.invariant.0))
          (λ e. subst (AreInArena arena) (sym (c.append_innermost.ensures.same e)) c.self.invariant.0),
      c.self.invariant.1,
    )
