use Rattle.std.proofs.Common.{subst}
use Rattle.std.specs.Prelude.{reverse}
use Rattle.walrus_context.specs.OpenFrames.{AreShown}
use Rattle.walrus_context.proofs.FrameStacks.{all_shown}
use Rattle.walrus_context.proofs.frame_stack.FrameStack.into_parts.Goals as goal

pub returns-clause-frames : goal.returns-clause-frames
returns-clause-frames c =
    let inside = c.self.inside in
    subst (AreShown (reverse inside.controls.items)) c.self.view_is (all_shown inside.instrs.items inside.controls.items)
