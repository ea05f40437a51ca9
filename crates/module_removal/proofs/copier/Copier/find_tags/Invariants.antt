use Rattle.std.proofs.Common.{length}
use Rattle.module_removal.proofs.NamedLemmas.{SomeTags}
use Rattle.module_removal.proofs.copier.Copier.find_tags.Given as goal

abbrev pub invariant-clauses : goal.invariant-clauses
invariant-clauses l = SomeTags l.clauses l.left l.initial.self l.self

abbrev pub decreases-clauses : goal.decreases-clauses
decreases-clauses l = length l.left
