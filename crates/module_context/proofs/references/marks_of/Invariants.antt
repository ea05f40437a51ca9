use Rattle.std.proofs.Common.{take}
use Rattle.module_context.proofs.MarkLemmas.{MarksNamed}
use Rattle.module_context.proofs.references.marks_of.Given as goal

abbrev pub invariant-named : goal.invariant-named
invariant-named l = MarksNamed l.count (take l.function-index l.named) l.marks.items
