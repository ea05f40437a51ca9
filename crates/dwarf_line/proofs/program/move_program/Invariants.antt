use Rattle.std.proofs.Common.{length}
use Rattle.dwarf_line.specs.Views.{parameters}
use Rattle.dwarf_line.proofs.ProgramLemmas.{ProgramSoFar}
use Rattle.dwarf_line.proofs.program.move_program.Given as goal

abbrev pub invariant-sequences : goal.invariant-sequences
invariant-sequences l = ProgramSoFar l.moves.bodies.items (parameters l.header) l.place l.program l.rest l.fn.out.items l.out.items l.fn.sequences.items l.sequences.items

abbrev pub decreases-sequences : goal.decreases-sequences
decreases-sequences l = length l.rest
