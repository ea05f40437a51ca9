use Rattle.std.proofs.Common.{take}
use Rattle.module_removal.specs.Declaring.{functions_among, NamesFunctions}
use Rattle.module_removal.proofs.declared.Taken.declare_all.Given as goal

abbrev pub invariant-items : goal.invariant-items
invariant-items l = NamesFunctions (functions_among l.by (take l.item-index l.found)) l.initial.self l.self
