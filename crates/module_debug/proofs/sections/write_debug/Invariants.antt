use Rattle.module_debug.proofs.SectionLemmas.{WrittenSoFar}
use Rattle.module_debug.proofs.sections.write_debug.Given as goal

abbrev pub invariant-all : goal.invariant-all
invariant-all g l = WrittenSoFar l.sections l.section-index (g.W.Write.contents l.fn.out) (g.W.Write.contents l.out)
