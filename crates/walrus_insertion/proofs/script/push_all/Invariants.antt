use Rattle.std.proofs.Common.{◌≡◌, ◌++◌, map, length}
use Rattle.walrus_insertion.specs.declared.probe.Edit.TheVariants.{Insert}
use Rattle.walrus_insertion.proofs.script.push_all.Given as goal

abbrev pub invariant-instrs : goal.invariant-instrs
invariant-instrs l = l.edits.items ++ map Insert l.left ≡ l.fn.edits.items ++ map Insert l.fn.instrs

abbrev pub decreases-instrs : goal.decreases-instrs
decreases-instrs l = length l.left
