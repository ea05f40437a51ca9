use Rattle.std.proofs.Common.{take}
use Rattle.module_removal.proofs.DeclaringLemmas.{UndeclaredLeft}
use Rattle.module_removal.proofs.declared.Taken.undeclared.Given as goal

abbrev pub invariant-bodies : goal.invariant-bodies
invariant-bodies l =
    UndeclaredLeft l.counts (take l.named-index l.self.in_bodies.items) l.self.outside.items l.marks l.declared.items l.undeclared.items
