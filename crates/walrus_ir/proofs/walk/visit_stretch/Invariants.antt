-- The visitor was told about the instructions so far, and none of them contains sequences.
use Rattle.std.proofs.Common.{length, List}
use Rattle.walrus_ir.specs.Events.{WalkEvent, Folds}
use Rattle.walrus_ir.specs.Visiting.{IsVisitedStretch}
use Rattle.walrus_ir.proofs.walk.visit_stretch.Given as goal

abbrev pub invariant-stretch : goal.invariant-stretch
invariant-stretch g l = IsVisitedStretch l.fn.instrs l.left 0 (λ (es : List WalkEvent). Folds g.V.Visitor.steps l.fn.visitor es l.visitor)

abbrev pub decreases-stretch : goal.decreases-stretch
decreases-stretch g l = length l.left
