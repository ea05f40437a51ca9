use Rattle.left_modules.proofs.NamedSectionLemmas.{NamedSoFar}
use Rattle.left_modules.proofs.left_debug.again_moved_bytes.Given as goal

abbrev pub invariant-sections : goal.invariant-sections
invariant-sections l = NamedSoFar l.sections l.section-index l.all.items
