use Rattle.dwarf_expressions.specs.Expressions.{Begins}
use Rattle.dwarf_expressions.proofs.Loops.{all_are}
use Rattle.dwarf_expressions.proofs.Moves.{one_way}
use Rattle.dwarf_expressions.proofs.law.law_one_reading.Goals as goal

pub returns : goal.returns
returns c = λ e bytes os ns p q. all_are (Begins e) (one_way e) bytes ns os q p
