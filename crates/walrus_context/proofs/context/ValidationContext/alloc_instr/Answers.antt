use Rattle.std.proofs.Common.{refl, ◌<◌, length}
use Rattle.walrus_context.specs.OpenFrames.{with_instr}
use Rattle.walrus_context.proofs.TreeChanges.{in_arena_after}
use Rattle.walrus_context.proofs.context.ValidationContext.alloc_instr.Goals as goal

pub invariant_of-self : goal.invariant_of-self
invariant_of-self c = (in_arena_after (0 < length c.self.inside.stack) c.self.inside.func.sequences (with_instr (c.args.instr, c.args.loc)) (λ f. refl) 0 c.self.inside.stack c.append.new.self c.append.result c.append.ensures.ok c.append.ensures.same c.self.invariant.0, c.self.invariant.1)
