use Rattle.std.proofs.Common.{refl, sym, ◌∙◌}
use Rattle.std.proofs.lemmas.List.{nil_from_length}
use Rattle.walrus_context.proofs.frame_stack.FrameStack.mark_unreachable.Goals as goal

pub returns-then-open-eq0-clause-err : goal.returns-then-open-eq0-clause-err
returns-then-open-eq0-clause-err c = (refl, nil_from_length c.args.self.now (sym c.count-open.ensures ∙ c.if-open-eq0.true))
