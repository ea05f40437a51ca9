use Rattle.std.proofs.Common.{length}
use Rattle.dwarf_line.specs.Views.{parameters}
use Rattle.dwarf_line.proofs.MovedLemmas.{WrittenSoFar}
use Rattle.dwarf_line.proofs.program.move_operations.Given as goal

abbrev pub invariant-operations : goal.invariant-operations
invariant-operations l = WrittenSoFar l.moves.bodies.items (parameters l.header) l.bytes l.rest l.place l.fn.out.items l.out.items

abbrev pub decreases-operations : goal.decreases-operations
decreases-operations l = length l.rest
