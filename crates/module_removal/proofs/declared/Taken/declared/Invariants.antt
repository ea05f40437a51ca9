use Rattle.std.proofs.Common.{take}
use Rattle.module_removal.proofs.DeclaringLemmas.{DeclaredLeft}
use Rattle.module_removal.proofs.declared.Taken.declared.Given as goal

abbrev pub invariant-outside : goal.invariant-outside
invariant-outside l = DeclaredLeft l.fn.funcs (take l.named-index l.self.outside.items) l.marks l.declared.items
